-- `passing_tests::first_outside` meets its contract. The loop's invariant: the parts before p open within their limits. Assumes nothing.
use Prim.Native.Nat.{ℕ, ◌<◌}
use mathlib.Core.Path.{◌≡◌}
use mathlib.Core.Bool.{false, not}
use Rattle.passing.specs.Check.{within, opening_values}
use Rattle.passing.specs.Tabled.{deck_of}
use Rattle.passing_tests.proofs.first_outside.Given as goal

abbrev pub invariant-loop-p : goal.invariant-loop-p
invariant-loop-p l = (k : ℕ) → k < l.p → not (within (deck_of l.rig.deck.now) k (opening_values (deck_of l.rig.deck.now))) ≡ false
