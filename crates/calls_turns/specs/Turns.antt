-- Commits of one place, again and again: what commit and settle share, once deck, pool and state are tested. Assumes nothing.
use Rattle.std.specs.Prelude.{ℕ, zero, suc, ◌≤◌, ◌<◌, ◌≡◌, Bool, List, length, ℤ}
use Rattle.deck.specs.Deck.{Deck}
use Rattle.deck.specs.declared.Deck as Counted
use Rattle.pool.specs.Updates.{charge}
use Rattle.pool.specs.States.{Machine}
use Rattle.pool_holes.specs.Slots.{whole}
use Rattle.passing.specs.Tabled.{deck_of}
use Rattle.firing.specs.Firing.{committed}
use Rattle.firing_queue.specs.Queue.{held_of}
use Rattle.firing_queue.specs.Stored.{Stored, Committing}
use Rattle.calls_tests.specs.Tested.{Left}

-- what is taken: no update was taken out yet, and `first` stand before the one that is committed first
pub record Beginning (s : List ℕ) (k : Counted.Deck) (rules parts memo index : List ℕ) (pool : List ℤ) (C : ℕ) (vs : List ℤ)
    (pending total first : ℕ) : Type 0 where
  pub committing : Committing s k rules parts memo (held_of index pool) C vs pending total
  pub whole_slots : committing.slots ≡ whole committing.machine.pending
  pub inside : first ≤ pending

-- n commits of the place `first` lead from x to y, each where an update is pending there
pub data Repeats (d : Deck) (first : ℕ) (x : Machine) : ℕ → Machine → Type 0 where
  none : Repeats d first x zero x
  more : {n : ℕ} {y : Machine} → Repeats d first x n y → first < length y.pending
      → Repeats d first x (suc n) (committed d first y).machine

-- the numbers stood for x at first
abbrev pub Began : List ℕ → ℕ → List ℤ → ℕ → ℕ → List ℕ → List ℤ → Machine → Type 0
Began s C vs pending total index pool x = Stored (deck_of s) C (whole x.pending) x vs pending total (held_of index pool)

-- what is left: the commits made, the updates pending and their charge, and of a single commit whether it was applied
pub record Turned (s : List ℕ) (C : ℕ) (vs₀ : List ℤ) (pending₀ total₀ : ℕ) (index₀ : List ℕ) (pool₀ : List ℤ) (first budget : ℕ)
    (made pending total : ℕ) (applied : Bool) (vs pool : List ℤ) : Type 0 where
  pub within : made ≤ budget
  pub ended : made < budget → pending ≤ first
  pub few : pending ≤ 65535
  pub result : (x : Machine) → Began s C vs₀ pending₀ total₀ index₀ pool₀ x
      → (y : Machine) × (Repeats (deck_of s) first x made y × (Left y vs pending pool × (total ≡ charge (deck_of s) y.pending)))
  pub told : (x : Machine) → Began s C vs₀ pending₀ total₀ index₀ pool₀ x → made ≡ 1 → applied ≡ (committed (deck_of s) first x).applied
