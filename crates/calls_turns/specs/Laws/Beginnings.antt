-- The turns begin on what was tested, and one turn is one commit. Assumes nothing.
use Rattle.std.specs.Prelude.{ℕ, ◌≤◌, ◌<◌, ◌≡◌, refl, List, length}
use Rattle.std.proofs.Common.{sym, ap, ◌∙◌, arith}
use Rattle.deck.specs.Deck.{Deck}
use Rattle.deck.specs.declared.Deck as Counted
use Rattle.pool.specs.Places.{capacity}
use Rattle.pool.specs.States.{Machine, Memory, load}
use Rattle.pool_holes.specs.Slots.{standing, whole}
use Rattle.pool_holes.proofs.Laws.Standing.{whole-standing}
use Rattle.firing.specs.Firing.{committed}
use Rattle.calls_tests.specs.Tested.{TestsPassed}
use Rattle.calls_turns.specs.Turns.{Beginning, Repeats, none, more}

pub turns-begin : {s rules parts memo index : List ℕ} {m : Memory} {k : Counted.Deck} {total : ℕ}
    → TestsPassed s rules parts memo index m k total → (first : ℕ) → first ≤ m.state.pending
    → Beginning s k rules parts memo index m.pool (capacity (length m.pool)) m.state.values m.state.pending total first
turns-begin {m} w first h =
    let e = w.entering in
    let same = sym (whole-standing (load m).pending) ∙ ap standing (sym w.whole_slots) ∙ e.stored.stands in
    record { committing = e; whole_slots = w.whole_slots ∙ ap whole same; inside = h }

-- an update is pending there, and the budget is one commit
pub one-turn : {d : Deck} {first n : ℕ} {x y : Machine} → Repeats d first x n y → n ≤ 1 → (n < 1 → length y.pending ≤ first)
    → first < length x.pending → (n ≡ 1) × (y ≡ (committed d first x).machine)
one-turn none few ended h = absurd (omega (arith, ended (omega arith), h))
one-turn (more none there) few ended h = (refl, refl)
one-turn (more (more r before) there) few ended h = absurd (omega (arith, few))
