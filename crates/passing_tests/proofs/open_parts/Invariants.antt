-- `passing_tests::open_parts` meets its contract. The loop's invariant: the first p parts have their opening values. Assumes nothing.
use mathlib.Core.Path.{◌≡◌}
use Rattle.passing.specs.Tabled.{deck_of}
use Rattle.passing.proofs.Laws.Opening.{open_to}
use Rattle.deck.specs.Facts.{Formed}
use Rattle.passing_tests.proofs.open_parts.Given as goal

abbrev pub invariant-loop-p : goal.invariant-loop-p
invariant-loop-p l = (f : Formed (deck_of l.rig.deck.now)) → l.values ≡ open_to (deck_of l.rig.deck.now) f l.p
