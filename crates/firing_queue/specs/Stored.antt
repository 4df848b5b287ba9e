-- A state that was tested: the numbers of a host's state and pool, and the values and pending updates that they stand for.
-- Assumes nothing.
use Rattle.std.specs.Prelude.{ℕ, ◌≡◌, List, length, ℤ}
use Rattle.deck.specs.Deck.{Deck}
use Rattle.deck.specs.declared.Deck as Counted
use Rattle.graph.specs.Acyclic.{Acyclic}
use Rattle.deck.specs.Facts.{NoDefaults}
use Rattle.charge.specs.Memo.{Ready}
use Rattle.pool.specs.Updates.{charge}
use Rattle.pool.specs.States.{Machine}
use Rattle.pool.specs.Fine.{Fine}
use Rattle.passing.specs.Tabled.{deck_of, Tabled}
use Rattle.pool_holes.specs.Slots.{Slot, standing, holes}
use Rattle.firing_queue.specs.Queue.{Held, Kept, Room}

-- the numbers stand for the values and pending updates x, a good state of charge C, held in these slots
pub record Stored (d : Deck) (C : ℕ) (slots : List Slot) (x : Machine) (vs : List ℤ) (used total : ℕ) (held : Held) : Type 0 where
  pub fine : Fine d C x
  pub values : vs ≡ x.values
  pub stands : standing slots ≡ x.pending
  pub count : used ≡ length slots
  pub kept : Kept slots held
  pub charged : total ≡ charge d x.pending

-- what a commit takes: tables without a cycle, a memo that is right, and such a state with room for C updates beside its holes
pub record Committing (s : List ℕ) (k : Counted.Deck) (rules parts memo : List ℕ) (held : Held) (C : ℕ) (values : List ℤ)
    (used total : ℕ) : Type 0 where
  pub tabled : Tabled s k rules parts
  pub none : NoDefaults (deck_of s)
  pub ready : Ready rules parts k memo
  pub acyclic : Acyclic (deck_of s)
  pub slots : List Slot
  pub room : Room C (holes slots) held
  pub machine : Machine
  pub stored : Stored (deck_of s) C slots machine values used total held
