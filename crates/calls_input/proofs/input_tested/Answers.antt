-- `calls_input::input_tested` meets its contract: the part is not known, the input list is not good, or the input is entered. Assumes
-- nothing.
use mathlib.Core.Bool.{not}
use mathlib.Core.Path.{refl, ap}
use Rattle.refusals.specs.Declined.{decline_outcome}
use Rattle.calls_input.specs.Laws.InputAnswers.{input-answers}
use Rattle.calls_input.specs.Laws.Entering.{enter-unknown, enter-bad, enter-good}
use Rattle.calls_input.proofs.input_tested.Goals as goal

pub returns-then-p-rig : goal.returns-then-p-rig
returns-then-p-rig c = let w = c.requires in
    input-answers w _ _ refl
    (enter-unknown w.entering _ _ c.if-p-rig.true (ap decline_outcome c.unplaced.ensures) refl refl)

pub returns-then-not-good_input : goal.returns-then-not-good_input
returns-then-not-good_input c = let w = c.requires in
    input-answers w _ _ refl
    (enter-bad w.entering _ _ c.if-p-rig.false c.good_input.ensures (ap not c.if-not-good_input.true)
    (ap decline_outcome c.unplaced-then-not-good_input.ensures) refl refl)

pub enter-requires : goal.enter-requires
enter-requires c = let w = c.requires in
    let known = c.if-p-rig.false in
    (w, known, enter-good w.entering _ _ known c.good_input.ensures (ap not c.if-not-good_input.false))
