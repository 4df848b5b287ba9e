-- `calls_check::check_with` meets its contract. Assumes nothing.
use mathlib.Core.Path.{sym}
use native.Mathlib.Omega.{arith}
use Rattle.refusals.specs.Laws.HandedOn.{handed_on}
use Rattle.calls_check.specs.Laws.CheckAnswers.{check-refused, check-whole}
use Rattle.calls_check.proofs.check_with.Goals as goal

pub returns-in_err-passing : goal.returns-in_err-passing
returns-in_err-passing c =
    rw (handed_on c.from_residual.ensures.1) (sym (check-refused _ _ _ c.in_err-passing.ensures))

pub overflow_cast-result : goal.overflow_cast-result
overflow_cast-result c = let w = c.in_ok-passing.ensures in
    omega (arith, w.tabled.counts.channels, w.tabled.counts.formed.channels)

pub returns : goal.returns
returns c = sym (check-whole _ _ _ _ _ _ c.in_ok-passing.ensures)
