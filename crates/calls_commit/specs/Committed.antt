-- What a commit leaves, once deck, pool and state are tested. Assumes nothing.
use Rattle.std.specs.Prelude.{ℕ, ◌≡◌, Bool, cond, List, length, ℤ}
use Rattle.refusals.specs.Outcome.{Outcome, accepted}
use Rattle.pool.specs.Updates.{charge}
use Rattle.pool.specs.Places.{capacity}
use Rattle.pool.specs.States.{Machine}
use Rattle.passing.specs.Tabled.{deck_of}
use Rattle.firing.specs.Firing.{committed}
use Rattle.pool_holes.specs.Slots.{whole}
use Rattle.firing_queue.specs.Queue.{held_of}
use Rattle.firing_queue.specs.Stored.{Stored}
use Rattle.calls.specs.Calls.{Answer, applied, discarded}
use Rattle.calls_tests.specs.Tested.{Left}

-- the answer of a commit
abbrev pub committed_as : Bool → ℕ → Answer
committed_as b now = cond b (applied now) (discarded now)

-- what is left of a commit behind the tests, for a pending place
abbrev pub CommitsAs : List ℕ → List ℤ → ℕ → ℕ → List ℕ → List ℤ → ℕ → Outcome Answer → List ℤ → ℕ → List ℤ → Type 0
CommitsAs s vs₀ pending₀ total index₀ pool₀ k answer vs pending pool =
    (x : Machine) → Stored (deck_of s) (capacity (length pool₀)) (whole x.pending) x vs₀ pending₀ total (held_of index₀ pool₀)
    → (answer ≡ accepted (committed_as (committed (deck_of s) k x).applied (charge (deck_of s) (committed (deck_of s) k x).machine.pending)))
    × Left (committed (deck_of s) k x).machine vs pending pool
