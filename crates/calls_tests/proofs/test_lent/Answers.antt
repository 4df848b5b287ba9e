-- `calls_tests::test_lent` meets its contract: 1 to 8 and 18 to 20, and then 9 and 10. Assumes nothing.
use Rattle.refusals.specs.Laws.HandedOn.{handed_on}
use Rattle.calls_tests.specs.Laws.Tested.{tested-refused, state-ready, state-tests}
use Rattle.calls_tests.proofs.test_lent.Goals as goal

pub returns-in_err-passing : goal.returns-in_err-passing
returns-in_err-passing c = rw (handed_on c.from_residual.ensures.1) (tested-refused _ _ _ _ c.in_err-passing.ensures)

pub test_state-requires : goal.test_state-requires
test_state-requires c = let r = state-ready _ _ _ _ _ _ c.in_ok-passing.ensures in (r.0, r.1, c.requires.3)

pub returns : goal.returns
returns c = state-tests _ _ _ _ _ _ c.in_ok-passing.ensures _ _ _ _ _ c.test_state.result c.test_state.ensures
