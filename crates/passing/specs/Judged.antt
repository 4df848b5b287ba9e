-- What the tests of a deck answer, in code. Assumes nothing.
use Rattle.std.specs.Prelude.{ℕ, ◌≤◌, ◌<◌, ◌≡◌, ◌⊎◌, List, [], length, replicate, Result, Ok, Err}
use Rattle.refusals.specs.Outcome.{accepted}
use Rattle.refusals.specs.Numbers.{cyclic_graph, overcharged}
use Rattle.refusals.specs.Declined.{number_of, decline_outcome}
use Rattle.refusals.specs.declared.Declined.{Declined}
use Rattle.expression.specs.Bytes.{Bytes}
use Rattle.deck.specs.declared.Form.{Form}
use Rattle.deck.specs.Layout.{read}
use Rattle.deck.specs.Shape.{shape}
use Rattle.deck.specs.Marks.{RulesFit, Marked, marked_sections}
use Rattle.deck.specs.declared.Deck as Counted
use Rattle.graph.specs.Acyclic.{KnownTargets}
use Rattle.graph.specs.FirstCycle.{first_cycle}
use Rattle.graph.specs.Masks.{Sized}
use Rattle.charge.specs.Charge.{largest_charge}
use Rattle.charge.specs.Memo.{Noted, AcyclicTables, memo_size, Memo}
use Rattle.charge.specs.Answer.{bound_of}
use Rattle.passing.specs.Check.{passing}
use Rattle.passing.specs.Tabled.{layout_of, deck_of, Tabled}
use Rattle.passing.specs.declared.Passing.{Passing}

-- tables that the searches can take
pub record RulesKnown (rules parts : List ℕ) (k : Counted.Deck) : Type 0 where
  pub sized : Sized rules parts k.rules k.parts
  pub long : 256 ≤ length rules
  pub few : k.channels < 33
  pub known : KnownTargets (shape rules parts k)
  pub noted : Noted rules parts k.rules k.parts

-- the lowest cycle, else the lowest charge above the bound, else the largest charge, with a memo of charges
abbrev pub JudgesRules : List ℕ → List ℕ → List ℕ → Counted.Deck → Result Passing Declined → Type 0
JudgesRules rules parts memo k (Ok x) =
    (x.counts ≡ k)
    × (first_cycle (shape rules parts k) ≡ k.channels)
    × (bound_of (shape rules parts k) ≡ Ok x.charge)
    × AcyclicTables rules parts k
    × Memo (shape rules parts k) memo
JudgesRules rules parts memo k (Err x) =
    ((number_of x.refusal ≡ cyclic_graph) × (first_cycle (shape rules parts k) ≡ x.place) × (x.place < k.channels))
    ⊎ ((number_of x.refusal ≡ overcharged) × (first_cycle (shape rules parts k) ≡ k.channels) × (bound_of (shape rules parts k) ≡ Err x.place))

-- zeros, a row of eight for each of 32 channels and for each of the rules that the bytes tell of
pub record ZeroRules (s rules : List ℕ) : Type 0 where
  pub size : ℕ
  pub zeros : rules ≡ replicate size 0
  pub long : 256 ≤ size
  pub fits : RulesFit s size

-- zeros, as many as the deck needs if the bytes are read as one
abbrev pub ZeroMemo : List ℕ → List ℕ → Type 0
ZeroMemo s memo =
    (f : Form) (m : Marked) → marked_sections f s 0 ≡ accepted (record { value = m; rest = []; at = length s })
    → memo ≡ replicate (memo_size m.front.count) 0

-- a deck that was read, and its tables
pub record WholeKnown (s : List ℕ) (k : Counted.Deck) (rules parts : List ℕ) : Type 0 where
  pub tabled : Tabled s k rules parts
  pub bytes : Bytes s

-- a deck that passes, and what its tables and the memo of charges hold
pub record Passed (f : Form) (s rules parts memo : List ℕ) (k : Counted.Deck) (charge : ℕ) : Type 0 where
  pub passes : passing f s ≡ accepted (layout_of s)
  pub largest : largest_charge (deck_of s) ≡ charge
  pub tabled : Tabled s k rules parts
  pub acyclic : AcyclicTables rules parts k
  pub charges : Memo (shape rules parts k) memo
  pub bytes : Bytes s

abbrev pub Judges : Form → List ℕ → List ℕ → List ℕ → List ℕ → Result Passing Declined → Type 0
Judges f s rules parts memo (Ok x) = Passed f s rules parts memo x.counts x.charge
Judges f s rules parts memo (Err x) = passing f s ≡ decline_outcome x

-- the same of a deck that was read, in whichever form
abbrev pub JudgesRead : List ℕ → List ℕ → List ℕ → List ℕ → Result Passing Declined → Type 0
JudgesRead s rules parts memo r = (f : Form) → read f s ≡ accepted (layout_of s) → Judges f s rules parts memo r
