-- Laws of the two halves of the firing: each rule that hears the changed channels has its turn, in rule order. Assumes nothing.
use Rattle.std.specs.Prelude.{ℕ, zero, suc, ◌+◌, ◌-◌, ◌*◌, ◌≤◌, ◌<◌, min, ◌≡◌, refl, true, false, ◌&&◌, get_or, ℤ}
use Rattle.std.proofs.Common.{sym, ap, ap₂, ◌∙◌, subst, arith}
use mathlib.Core.List.{List, [], ◌∷◌, ◌++◌, map, flat_map}
use Rattle.lists.specs.Lists.{lists, select, below, member}
use Rattle.lists.specs.Bits.{bit, mask_of, NextIn}
use Rattle.lists.specs.Laws.Same.{any_of-same}
use Rattle.lists.specs.Laws.Bits.{mask_of-bit, bit-zero}
use Rattle.deck.specs.Deck.{Deck, Rule, M, rule_at, part_at, carries, active}
use Rattle.deck.specs.Shape.{bits_of, shape}
use Rattle.deck.specs.Tables.{TablesOf, Ranged}
use Rattle.deck.specs.declared.Deck as Counted
use Rattle.deck.proofs.Laws.Tables.{bits-of-mask}
use Rattle.charge.specs.Charge.{others}
use Rattle.charge.specs.Memo.{hearing, ActiveIs}
use Rattle.pool.specs.Updates.{Update}
use Rattle.firing.specs.Firing.{fired_here, fired_there, fired}
use Rattle.firing_queue.specs.Queue.{Held, SameSize, Offering, Offered}
use Rattle.firing_rules.specs.Reactions.{heard, ActiveSet, FiresAll, Fires}
use Rattle.firing_queue.specs.Laws.Queue.{same_size, size-then, offered-then, offering-next}
use Rattle.firing_rules.specs.Laws.Turns.{turns, turned_none, turned-pass, turned-fail}
use Rattle.firing_queue.specs.declared.Queue.{Queue}

-- the test on the masks of the tables is the same
pub hearing-heard : {d : Deck} {rules parts : List ℕ} → TablesOf d rules parts → Ranged d → (p r : ℕ) (cs : List ℕ)
    → ((c : ℕ) → member c cs ≡ true → c < 32) → hearing rules parts p r (mask_of cs) ≡ heard d p cs r
unfolding heard carries
hearing-heard {d} {rules} {parts} t g p r cs h =
    ap₂ (λ a b. a && b)
    (ap (λ m. bit m r) (t.carried p) ∙ mask_of-bit (part_at d p).carried r)
    (any_of-same (λ c. member c (bits_of 32 (get_or rules (8 * r) 0))) (λ c. member c (rule_at d r).events) (bits_of 32 (mask_of cs)) cs
    (bits-of-mask 32 cs h)
    (λ c.
    ap (λ m. member c (bits_of 32 m)) (t.events r)
    ∙ bits-of-mask 32 (rule_at d r).events (λ b z. omega (arith, g.events r b z, g.channels)) c))

-- a set of active rules by the tables is one by the deck
pub active-set : {d : Deck} {rules parts : List ℕ} → TablesOf d rules parts → Ranged d → (p mask set : ℕ) (cs : List ℕ)
    → ((c : ℕ) → member c cs ≡ true → c < 32) → mask ≡ mask_of cs → ActiveIs rules parts (M d) p mask set → ActiveSet d p cs set
active-set {d} {rules} {parts} t g p mask set cs h e a r l =
    a.each r l ∙ ap (hearing rules parts p r) e ∙ hearing-heard t g p r cs h

-- the rules of the set below n had their turn: f gives the updates of a rule
pub record Half (rules parts : List ℕ) (k : Counted.Deck) (d : Deck) (f : Rule → List Update) (p set n : ℕ)
    (held₀ : Held) (q₀ : Queue) (m : List ℕ) (held : Held) (q : Queue) : Type 0 where
  pub offering : Offering rules parts k m held q
  pub size : SameSize held₀ held
  pub fires : (cs : List ℕ) → ActiveSet d p cs set
      → Offered (shape rules parts k) (turns (heard d p cs) (λ r. f (rule_at d r)) n) held₀ q₀ m held q

flat_map-map : {A B C : Type 0} (h : B → List C) (k : A → B) (l : List A) → flat_map h (map k l) ≡ flat_map (λ x. h (k x)) l
unfolding lists
flat_map-map h k [] = refl
flat_map-map h k (x ∷ l) = ap (λ m. h (k x) ++ m) (flat_map-map h k l)

active-turns : (d : Deck) (p : ℕ) (cs : List ℕ) (n : ℕ) (g : Rule → List Update) → n ≡ M d
    → turns (heard d p cs) (λ r. g (rule_at d r)) n ≡ flat_map g (map (rule_at d) (active d p cs))
unfolding active heard turns
active-turns d p cs n g e =
    ap (λ k. flat_map (λ r. g (rule_at d r)) (select (heard d p cs) (below k))) e
    ∙ sym (flat_map-map g (rule_at d) (active d p cs))

module _ {rules parts : List ℕ} {k : Counted.Deck} {d : Deck} {f : Rule → List Update} {p set : ℕ}
    {held₀ : Held} {q₀ : Queue} where
  pub half-none : {m : List ℕ} → Offering rules parts k m held₀ q₀ → Half rules parts k d f p set 0 held₀ q₀ m held₀ q₀
  half-none {m} o =
      record {
        offering = o;
        size = same_size;
        fires = λ cs a. turned_none (heard d p cs) (λ r. f (rule_at d r)) m o.ready.memo;
      }

  module _ {m : List ℕ} {held : Held} {q : Queue} (n : ℕ) (x : Half rules parts k d f p set n held₀ q₀ m held q) (l : n < M d) where
    -- rule n had its turn
    pub half-pass : {m' : List ℕ} {held' : Held} {q' : Queue} → bit set n ≡ true
        → Offered (shape rules parts k) (f (rule_at d n)) held q m' held' q'
        → Half rules parts k d f p set (n + 1) held₀ q₀ m' held' q'
    half-pass y o =
        record {
          offering = offering-next x.offering o;
          size = size-then x.size o.size;
          fires = λ cs a. turned-pass (heard d p cs) (λ r. f (rule_at d r)) n (x.fires cs a) (sym (a n l) ∙ y) o;
        }

    -- or it has none
    pub half-fail : bit set n ≡ false → Half rules parts k d f p set (n + 1) held₀ q₀ m held q
    half-fail y =
        record {
          offering = x.offering;
          size = x.size;
          fires = λ cs a. turned-fail (heard d p cs) (λ r. f (rule_at d r)) n (x.fires cs a) (sym (a n l) ∙ y);
        }

  -- as many rules more that are not in the set
  skipped : {m : List ℕ} {held : Held} {q : Queue} (j n : ℕ) → Half rules parts k d f p set n held₀ q₀ m held q → n + j ≤ M d
      → ((i : ℕ) → n ≤ i → i < n + j → bit set i ≡ false) → Half rules parts k d f p set (n + j) held₀ q₀ m held q
  skipped {m} {held} {q} zero n x l none = subst (λ n. Half rules parts k d f p set n held₀ q₀ m held q) (let e : n ≡ n + 0 =
      omega arith in e) x
  skipped {m} {held} {q} (suc j) n x l none =
      subst (λ n. Half rules parts k d f p set n held₀ q₀ m held q) (let e : n + 1 + j ≡ n + suc j = omega arith in e)
      (skipped j (n + 1) (half-fail n x (omega arith) (none n (omega arith) (omega arith))) (omega arith)
      (λ i a b. none i (omega arith) (omega arith)))

  -- up to the next rule of the set, or to the last of all
  pub half-next : {m : List ℕ} {held : Held} {q : Queue} (n r : ℕ) → Half rules parts k d f p set n held₀ q₀ m held q → n ≤ M d → M d ≤ 64
      → NextIn set n r → Half rules parts k d f p set (min r (M d)) held₀ q₀ m held q
  half-next {m} {held} {q} n r x l few a =
      subst (λ n. Half rules parts k d f p set n held₀ q₀ m held q)
      (let e : n + (min r (M d) - n) ≡ min r (M d) = omega (arith, a.on (omega arith)) in e)
      (skipped (min r (M d) - n) n x (omega (arith, a.on (omega arith))) (λ i h j. a.passed i h (omega arith)))

  -- at a rule of the deck
  pub half_at : {m : List ℕ} {held : Held} {q : Queue} {r : ℕ} → Half rules parts k d f p set (min r (M d)) held₀ q₀ m held q → r < M d
      → Half rules parts k d f p set r held₀ q₀ m held q
  half_at {m} {held} {q} {r} x l =
      subst (λ n. Half rules parts k d f p set n held₀ q₀ m held q) (let e : min r (M d) ≡ r = omega arith in e) x

  -- all rules had their turn
  pub half-all : {n : ℕ} {m : List ℕ} {held : Held} {q : Queue} → n ≡ M d
      → Half rules parts k d f p set n held₀ q₀ m held q
      → FiresAll d f p set (shape rules parts k) held₀ q₀ m held q
  half-all {n} {m} {held} {q} i x cs a =
      subst (λ l. Offered (shape rules parts k) l held₀ q₀ m held q) (active-turns d p cs n f i) (x.fires cs a)

-- no rule has a turn
pub half-empty : (d : Deck) (f : Rule
    → List Update) (p set : ℕ) {rules parts : List ℕ} {k : Counted.Deck} {held : Held} {q : Queue} {m : List ℕ}
    → set ≡ 0 → Offering rules parts k m held q → FiresAll d f p set (shape rules parts k) held q m held q
half-empty d f p set e o =
    half-all (let n : 0 + M d ≡ M d = omega arith in n)
    (skipped (M d) 0 (half-none {d = d} {f = f} {p = p} {set = set} o) (omega arith) (λ i a b. ap (λ s. bit s i) e ∙ bit-zero i))

-- the firing is both halves
pub both_halves : {d : Deck} {rules parts : List ℕ} → TablesOf d rules parts → Ranged d → (values : List ℤ) (p mask set : ℕ)
    → ActiveIs rules parts (M d) p mask set
    → {e : Deck} {held₀ held₁ held₂ : Held} {q₀ q₁ q₂ : Queue} {m₁ m₂ : List ℕ}
    → FiresAll d (λ r. fired_here values p r) p set e held₀ q₀ m₁ held₁ q₁
    → FiresAll d (λ r. flat_map (fired_there values p r) (others d p)) p set e held₁ q₁ m₂ held₂ q₂
    → Fires d values p mask e held₀ q₀ m₂ held₂ q₂
unfolding fired
both_halves t g values p mask set a x y cs h i =
    let z = active-set t g p mask set cs h i a in
    offered-then (x cs z) (y cs z)
