-- `calls_input::enter` meets its contract: the limit, the firing on values that are set, and the values stored unless that is too much.
-- Assumes nothing.
use mathlib.Core.Bool.{not}
use mathlib.Core.Path.{refl, sym, ap, ◌∙◌}
use native.Mathlib.Omega.{arith}
use borrow.Author.Rules.{rules}
use Rattle.refusals.specs.Declined.{decline_outcome}
use Rattle.passing.proofs.Laws.Judged.{parts-known}
use Rattle.calls_tests.specs.Laws.Entering.{enter-room}
use Rattle.calls_input.specs.Laws.InputAnswers.{input-answers}
use Rattle.calls_input.specs.Laws.Entering.{enter-low, enter-assignable, enter-pairs, enter-long, enter-after, enter-outside}
use Rattle.calls_input.specs.Laws.Entering.{enter-reacting, enter-full, enter-cut, enter-all, enter-grows, enter-few, enter-done}
use Rattle.calls_input.proofs.enter.Goals as goal

-- the copy is as long as the values
pub slice_bounds-assign_pairs-end : goal.slice_bounds-assign_pairs-end
slice_bounds-assign_pairs-end c = sym (enter-long c.requires.0.entering)

pub assign_pairs-requires : goal.assign_pairs-requires
assign_pairs-requires c =
    let w = c.requires.0.entering in
    (enter-long w, enter-low w c.requires.1, enter-assignable w _ _ c.requires.1 c.requires.2)

pub within-requires : goal.within-requires
within-requires c =
    let w = c.requires.0.entering in
    let long = enter-after w _ _ c.requires.1 c.requires.2 c.assign_pairs.ensures in
    (parts-known _ _ _ _ w.tabled, long, omega (arith, c.requires.1))

pub returns-then-not-within : goal.returns-then-not-within
returns-then-not-within c =
    input-answers c.requires.0 _ _ refl
    (enter-outside c.requires.0.entering _ _ c.requires.1 c.requires.2 c.assign_pairs.ensures c.within.ensures (ap not c.if-not-within.true)
    (ap decline_outcome c.unplaced.ensures) refl refl)

pub changed_by-channels-requires : goal.changed_by-channels-requires
changed_by-channels-requires c =
    let w = c.requires.0.entering in
    let size = enter-pairs w _ _ c.requires.1 c.requires.2 in
    (enter-long w, enter-low w c.requires.1, enter-assignable w _ _ c.requires.1 c.requires.2, size.0, size.1)

pub overflow_cast-queue : goal.overflow_cast-queue
overflow_cast-queue c = omega (arith, enter-room c.requires.0.entering)

pub react-grown-requires : goal.react-grown-requires
react-grown-requires c =
    let w = c.requires.0.entering in
    (enter-reacting w, enter-after w _ _ c.requires.1 c.requires.2 c.assign_pairs.ensures, c.requires.1)

pub take_back-requires : goal.take_back-requires
take_back-requires c =
    omega (
      arith,
      enter-cut c.requires.0.entering _ _ c.requires.1 c.requires.2 c.assign_pairs.ensures c.within.ensures (ap not c.if-not-within.false)
          c.changed_by-channels.ensures c.react-grown.ensures,
      enter-all c.requires.0.entering _ _ c.requires.1 c.requires.2 c.assign_pairs.ensures c.within.ensures (ap not c.if-not-within.false)
          c.changed_by-channels.ensures c.react-grown.ensures _ c.requires.0.loaded,
    )

pub returns-then-grown : goal.returns-then-grown
returns-then-grown c =
    input-answers c.requires.0 _ _ (search rules)
    (enter-full c.requires.0.entering _ _ c.requires.1 c.requires.2 c.assign_pairs.ensures c.within.ensures (ap not c.if-not-within.false)
    c.changed_by-channels.ensures c.react-grown.ensures c.if-grown.true
    (ap decline_outcome c.unplaced-then-grown.ensures) refl refl c.take_back.ensures)

pub assign_pairs-requires-2 : goal.assign_pairs-requires-2
assign_pairs-requires-2 c =
    let w = c.requires.0.entering in
    (enter-long w, enter-low w c.requires.1, enter-assignable w _ _ c.requires.1 c.requires.2)

pub overflow_sub-result : goal.overflow_sub-result
overflow_sub-result c =
    enter-grows c.requires.0.entering _ _ c.requires.1 c.requires.2 c.assign_pairs.ensures c.within.ensures (ap not c.if-not-within.false)
    c.changed_by-channels.ensures c.react-grown.ensures _ c.requires.0.loaded c.if-grown.false

pub overflow_cast-result : goal.overflow_cast-result
overflow_cast-result c =
    omega (
      arith,
      enter-few c.requires.0.entering _ _ c.requires.1 c.requires.2 c.assign_pairs.ensures c.within.ensures (ap not c.if-not-within.false)
          c.changed_by-channels.ensures c.react-grown.ensures _ c.requires.0.loaded c.if-grown.false,
    )

pub returns : goal.returns
returns c =
    let stored = c.assign_pairs-2.ensures ∙ sym c.assign_pairs.ensures in
    input-answers c.requires.0 _ _ (search rules)
    (rw stored (enter-done c.requires.0.entering _ _ c.requires.1 c.requires.2 c.assign_pairs.ensures c.within.ensures
    (ap not c.if-not-within.false) c.changed_by-channels.ensures c.react-grown.ensures c.if-grown.false))
