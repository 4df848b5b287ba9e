-- `expression_values::truth_value` meets its contract. Assumes nothing.
use borrow.Author.Tests.{eq-eqb, ne_eqb}
use Rattle.expression.proofs.Laws.WholeAnswers.{whole-truth}
use Rattle.expression_values.proofs.truth_value.Goals as goal

pub returns-in_err-value : goal.returns-in_err-value
returns-in_err-value c =
    let a = c.args in
    rw c.from_residual.ensures (rw (← whole-truth a.own.now a.far.now a.s.now (rw c.in_err-value.was at c.truth_at.ensures)))

pub returns-then-at-s : goal.returns-then-at-s
returns-then-at-s c =
    let a = c.args in
    let d = rw c.in_ok-value.was at c.truth_at.ensures in
    rw (← whole-truth a.own.now a.far.now a.s.now d, eq-eqb _ _ c.if-at-s.true)

pub returns-else-at-s : goal.returns-else-at-s
returns-else-at-s c =
    let a = c.args in
    let d = rw c.in_ok-value.was at c.truth_at.ensures in
    rw (← whole-truth a.own.now a.far.now a.s.now d, ne_eqb _ _ c.if-at-s.false)
