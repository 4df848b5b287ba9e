-- The tables that the pass over a deck leaves, by the deck that the bytes hold: what stands at the offsets in their rows.
-- Assumes nothing.
use Rattle.std.specs.Prelude.{ℕ, ◌+◌, ◌*◌, ◌≤◌, ◌<◌, ◌≡◌, List, [], length, get_or}
use Rattle.refusals.specs.Outcome.{Outcome, refused, accepted}
use Rattle.deck.specs.Deck.{Deck, R, M, N, rule_at, part_at}
use Rattle.deck.specs.Reader.{repeats, value}
use Rattle.deck.specs.Layout.{truths, Layout, expression, own_only, task_scope, action, read}
use Rattle.deck.specs.Tables.{TablesOf, Ranged}
use Rattle.deck.specs.declared.Deck as Counted
use Rattle.deck.specs.Facts.{ReadsAt}
use Rattle.deck.specs.declared.Form.TheVariants.{Old, New}
use Rattle.deck.specs.Facts.{Formed}
use Rattle.deck.specs.Facts.{Scoped}

-- what was read, or a deck without channels, rules and parts where nothing was
abbrev pub layout_in : Outcome Layout → Layout
layout_in (refused n p) = record { deck = record { labels = []; rules = []; parts = [] }; rules_at = 0; parts_at = 0 }
layout_in (accepted l) = l

-- the first of two readings that is accepted
abbrev pub first_read : Outcome Layout → Outcome Layout → Outcome Layout
first_read (refused n p) o = o
first_read (accepted l) o = accepted l

-- in whichever form the bytes are read: no bytes hold two decks
unfoldable pub layout_of : List ℕ → Layout
layout_of bytes = layout_in (first_read (read New bytes) (read Old bytes))

-- the deck that the bytes hold
abbrev pub deck_of : List ℕ → Deck
deck_of bytes = (layout_of bytes).deck

-- the counts that the pass kept of a deck
pub record Counts (l : Layout) (k : Counted.Deck) : Type 0 where
  pub channels : k.channels ≡ R l.deck
  pub rules : k.rules ≡ M l.deck
  pub parts : k.parts ≡ N l.deck
  pub rules_at : k.rules_at ≡ l.rules_at
  pub parts_at : k.parts_at ≡ l.parts_at
  pub some : 1 ≤ R l.deck
  pub formed : Formed l.deck
  pub scoped : Scoped l.deck

-- a row of four numbers for each part: the second is the offset of its opening values, the third that of its limit
pub record PartTable (s : List ℕ) (d : Deck) (parts : List ℕ) : Type 0 where
  pub long : length parts ≡ 64
  pub opening : (p : ℕ) → p < N d → ReadsAt s (repeats (R d) value) (get_or parts (4 * p + 1) 0) (part_at d p).opening
  pub limit : (p : ℕ) → p < N d → ReadsAt s (expression (truths (own_only (R d)))) (get_or parts (4 * p + 2) 0) (part_at d p).limit

-- a row of eight numbers for each rule: the fifth, sixth and seventh are the offsets of default action, condition and action.
-- There is a row for each of 32 channels too
pub record RuleTable (s : List ℕ) (d : Deck) (rules : List ℕ) : Type 0 where
  pub long : 256 ≤ length rules
  pub room : 8 * M d ≤ length rules
  pub default : (r : ℕ) → r < M d → ReadsAt s (action (own_only (R d))) (get_or rules (8 * r + 4) 0) (rule_at d r).default
  pub condition : (r : ℕ) → r < M d
      → ReadsAt s (expression (truths (task_scope (R d) (rule_at d r).everywhere))) (get_or rules (8 * r + 5) 0) (rule_at d r).condition
  pub action : (r : ℕ) → r < M d
      → ReadsAt s (action (task_scope (R d) (rule_at d r).everywhere)) (get_or rules (8 * r + 6) 0) (rule_at d r).action

-- both tables of a deck, with their sets and kinds
pub record TablesIn (s : List ℕ) (l : Layout) (k : Counted.Deck) (rules parts : List ℕ) : Type 0 where
  pub counts : Counts l k
  pub rule_table : RuleTable s l.deck rules
  pub part_table : PartTable s l.deck parts
  pub sets : TablesOf l.deck rules parts
  pub ranged : Ranged l.deck

-- those of the deck that the bytes hold
abbrev pub Tabled : List ℕ → Counted.Deck → List ℕ → List ℕ → Type 0
Tabled s k rules parts = TablesIn s (layout_of s) k rules parts

-- what a test of the parts needs of them
pub record PartsKnown (s : List ℕ) (k : Counted.Deck) (parts : List ℕ) : Type 0 where
  pub counts : Counts (layout_of s) k
  pub table : PartTable s (deck_of s) parts
