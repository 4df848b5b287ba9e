-- What a settle leaves, once deck, pool and state are tested. Assumes nothing.
use Rattle.std.specs.Prelude.{ℕ, ◌≡◌, cond, List, ℤ}
use Rattle.lists.specs.Lists.{is_empty}
use Rattle.refusals.specs.Outcome.{Outcome, accepted}
use Rattle.deck.specs.declared.Deck as Counted
use Rattle.pool.specs.States.{Machine}
use Rattle.passing.specs.Tabled.{deck_of}
use Rattle.pool_holes.specs.Slots.{whole}
use Rattle.firing_queue.specs.Queue.{held_of}
use Rattle.firing_queue.specs.Stored.{Stored}
use Rattle.calls.specs.Calls.{Answer, settled, spent, Settling, settling}
use Rattle.calls_tests.specs.Tested.{Left}

-- what a settle answers
unfoldable pub settled_as : Settling → Answer
settled_as s = cond (is_empty s.machine.pending) (settled s.made) (spent s.made)

abbrev pub Settles : List ℕ → ℕ → List ℤ → ℕ → ℕ → List ℕ → List ℤ → ℕ → Outcome Answer → List ℤ → ℕ → List ℤ → Type 0
Settles s C vs₀ pending₀ total index₀ pool₀ budget answer vs pending pool =
    (x : Machine) → Stored (deck_of s) C (whole x.pending) x vs₀ pending₀ total (held_of index₀ pool₀)
    → (answer ≡ accepted (settled_as (settling (deck_of s) budget x)))
    × Left (settling (deck_of s) budget x).machine vs pending pool
