-- What the functions behind an input take and leave, once deck, pool and state are tested. Assumes nothing.
use Rattle.std.specs.Prelude.{ℕ, ◌-◌, ◌≡◌, Bool, List, leb, ltb, length, ℤ}
use Rattle.refusals.specs.Outcome.{Outcome, refused, accepted, ◌>>◌, require}
use Rattle.refusals.specs.Numbers.{unknown_part, bad_input, input_outside, over_capacity}
use Rattle.deck.specs.Deck.{Deck, R, N}
use Rattle.pool.specs.Updates.{assign, charge}
use Rattle.pool.specs.Places.{capacity, pairs_of}
use Rattle.pool.specs.States.{Machine}
use Rattle.passing.specs.Check.{within}
use Rattle.passing.specs.Tabled.{deck_of}
use Rattle.firing.specs.Firing.{set_and_fire}
use Rattle.pool_holes.specs.Slots.{whole}
use Rattle.firing_queue.specs.Queue.{held_of}
use Rattle.firing_queue.specs.Stored.{Stored}
use Rattle.calls.specs.Calls.{Answer, added, Done, good_input}
use Rattle.calls_tests.specs.Tested.{Left}

-- the test of an input list sees of a deck only how many channels it has
abbrev pub GoodInput : ℕ → List ℤ → Bool → Type 0
GoodInput channels pairs r = (d : Deck) → R d ≡ channels → r ≡ good_input d pairs

-- what is left of an input behind the tests 1 to 10 and 18 to 20, on values and pending updates, with C places
unfoldable pub entered : Deck → ℕ → Machine → ℕ → List ℤ → Outcome Done
entered d C x p l =
    require (ltb p (N d)) unknown_part 0
    >> (require (good_input d l) bad_input 0
    >> (require (within d p (assign p (pairs_of l) x.values)) input_outside 0
    >> (require (leb (charge d (set_and_fire d p (pairs_of l) x).pending) C) over_capacity 0
    >> accepted (record {
      answer = added (charge d (set_and_fire d p (pairs_of l) x).pending - charge d x.pending);
      machine = set_and_fire d p (pairs_of l) x;
    }))))

-- the numbers that are left are those of the outcome: of a refusal, what they were
abbrev pub Leaves : Outcome Done → List ℤ → ℕ → List ℤ → Outcome Answer → List ℤ → ℕ → List ℤ → Type 0
Leaves (refused n p) vs₀ pending₀ pool₀ answer vs pending pool =
    (answer ≡ refused n p) × (vs ≡ vs₀) × (pending ≡ pending₀) × (pool ≡ pool₀)
Leaves (accepted a) vs₀ pending₀ pool₀ answer vs pending pool = (answer ≡ accepted a.answer) × Left a.machine vs pending pool

abbrev pub Enters : List ℕ → List ℤ → ℕ → ℕ → List ℕ → List ℤ → ℕ → List ℤ → Outcome Answer → List ℤ → ℕ → List ℤ → Type 0
Enters s vs₀ pending₀ total index₀ pool₀ p l answer vs pending pool =
    (x : Machine) → Stored (deck_of s) (capacity (length pool₀)) (whole x.pending) x vs₀ pending₀ total (held_of index₀ pool₀)
    → Leaves (entered (deck_of s) (capacity (length pool₀)) x p l) vs₀ pending₀ pool₀ answer vs pending pool
