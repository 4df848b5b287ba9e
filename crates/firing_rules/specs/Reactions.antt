-- The firing in code: the rules that have a turn, and what the pool and the counts hold before and afterwards. Assumes nothing.
use Rattle.std.specs.Prelude.{ℕ, ◌≤◌, ◌<◌, ◌≡◌, Bool, true, false, ◌&&◌, cond, length, ℤ}
use mathlib.Core.List.{List, [], ◌∷◌, map, flat_map}
use Rattle.lists.specs.Lists.{any_of, member}
use Rattle.lists.specs.Bits.{bit, mask_of}
use Rattle.deck.specs.Deck.{Deck, Rule, M, rule_at, carries, active}
use Rattle.deck.specs.declared.Deck as Counted
use Rattle.charge.specs.Charge.{others}
use Rattle.charge.specs.Memo.{Memo, Ready}
use Rattle.pool.specs.Updates.{Update, charge}
use Rattle.pool.specs.Places.{update_of}
use Rattle.pool_states.specs.Answer.{HoldsKnown}
use Rattle.deck.specs.Facts.{NoDefaults}
use Rattle.passing.specs.Tabled.{deck_of, Tabled}
use Rattle.deck.specs.Shape.{shape}
use Rattle.firing.specs.Firing.{holds, sent, fired_here, fired_there, fired}
use Rattle.pool_holes.specs.Slots.{Slot, standing, holes}
use Rattle.firing_queue.specs.Queue.{Held, Kept, Room, SameSize, Grown, Offered}
use Rattle.firing_queue.specs.declared.Queue.{Queue}
use Rattle.firing_rules.specs.declared.Half.{Half}
use Rattle.firing_rules.specs.declared.Half.TheVariants.{Here, Others}

-- what a rule at part p adds at part q: its action, if its condition is true there
unfoldable pub adds : List ℤ → ℕ → ℕ → Rule → List Update
adds values p q r = cond (holds values p q r) (sent values p q r.action) []

-- what a rule at part p adds in one half of the firing: in the first to p itself, in the second to the other parts
abbrev pub fired_in : Deck → List ℤ → ℕ → Half → Rule → List Update
fired_in d values p Here r = fired_here values p r
fired_in d values p Others r = flat_map (fired_there values p r) (others d p)

-- the tables of a deck, a table of values, a known rule, and two known parts
pub record Tasked (s : List ℕ) (k : Counted.Deck) (rules : List ℕ) (values : List ℤ) (p q r : ℕ) : Type 0 where
  pub parts : List ℕ
  pub tabled : Tabled s k rules parts
  pub long : length values ≡ 512
  pub from : p < k.parts
  pub to : q < k.parts
  pub rule : r < k.rules

-- the numbers of a place that holds the one update that the rule adds, a known one
pub record Made (d : Deck) (values : List ℤ) (p q : ℕ) (r : Rule) (row : List ℤ) : Type 0 where
  pub one : adds values p q r ≡ update_of row ∷ []
  pub known : HoldsKnown d row

-- part p carries rule r, which has a channel of cs among its events
unfoldable pub heard : Deck → ℕ → List ℕ → ℕ → Bool
heard d p cs r = carries d p r && any_of (λ c. member c (rule_at d r).events) cs

-- the set has the rules that are active at p when the channels cs change
abbrev pub ActiveSet : Deck → ℕ → List ℕ → ℕ → Type 0
ActiveSet d p cs set = (r : ℕ) → r < M d → bit set r ≡ heard d p cs r

-- what f gives for each rule of such a set, in rule order
abbrev pub FiresAll : Deck → (Rule → List Update) → ℕ → ℕ → Deck → Held → Queue → List ℕ → Held → Queue → Type 0
FiresAll d f p set e held₀ q₀ m held q =
    (cs : List ℕ) → ActiveSet d p cs set → Offered e (flat_map f (map (rule_at d) (active d p cs))) held₀ q₀ m held q

-- the whole firing; `mask` is the set of the changed channels
abbrev pub Fires : Deck → List ℤ → ℕ → ℕ → Deck → Held → Queue → List ℕ → Held → Queue → Type 0
Fires d values p mask e held₀ q₀ m held q =
    (cs : List ℕ) → ((c : ℕ) → member c cs ≡ true → c < 32) → mask ≡ mask_of cs
    → Offered e (fired d values p cs) held₀ q₀ m held q

-- tables, memo and room as for the firing, with the number of places used and the charge of the pending updates
pub record Reacting (s : List ℕ) (k : Counted.Deck) (rules parts memo : List ℕ) (held : Held) (q : Queue) : Type 0 where
  pub tabled : Tabled s k rules parts
  pub none : NoDefaults (deck_of s)
  pub ready : Ready rules parts k memo
  pub slots : List Slot
  pub room : Room q.capacity (holes slots) held
  pub kept : Kept slots held
  pub count : q.used ≡ length slots
  pub charged : q.charge ≡ charge (shape rules parts k) (standing slots)
  pub within : q.charge ≤ q.capacity
  pub not_full : q.full ≡ false

-- the firing for the channels cs was offered to the updates that the pool held
pub record Reacted (d e : Deck) (values : List ℤ) (p : ℕ) (cs : List ℕ) (held₀ : Held) (q₀ : Queue) (m : List ℕ) (held : Held)
    (q : Queue) : Type 0 where
  pub grown : (slots : List Slot) → Kept slots held₀ → q₀.used ≡ length slots → q₀.charge ≡ charge e (standing slots)
      → Grown e slots (fired d values p cs) held q
  pub capacity : q.capacity ≡ q₀.capacity
  pub memo : Memo e m
  pub size : SameSize held₀ held

-- `mask` is the set of the channels
abbrev pub Reacts : Deck → Deck → List ℤ → ℕ → ℕ → Held → Queue → List ℕ → Held → Queue → Type 0
Reacts d e values p mask held₀ q₀ m held q =
    (cs : List ℕ) → ((c : ℕ) → member c cs ≡ true → c < 32) → mask ≡ mask_of cs
    → Reacted d e values p cs held₀ q₀ m held q
