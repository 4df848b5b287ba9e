-- `expression_values::num_value` meets its contract. Assumes nothing.
use mathlib.Core.Path.{ap}
use mir.Syntax.{w32}
use mir.Val.{SFits}
use mir.ValLaws.{to_z-of_z}
use borrow.Author.Rules.{rules}
use borrow.Author.Tests.{eq-eqb, ne_eqb}
use Rattle.std.specs.Prelude.{Some}
use Rattle.expression.proofs.Laws.WholeAnswers.{whole-num}
use Rattle.expression_values.proofs.num_value.Goals as goal

pub returns-in_err-value : goal.returns-in_err-value
returns-in_err-value c =
    let a = c.args in
    rw c.from_residual.ensures (rw (← whole-num a.own.now a.far.now a.s.now (rw c.in_err-value.was at c.num_at.ensures)))

pub returns-then-at-s : goal.returns-then-at-s
returns-then-at-s c =
    let a = c.args in
    let d = rw c.in_ok-value.was at c.num_at.ensures in
    let f : SFits w32 c.in_ok-value.value = search rules in
    rw (← whole-num a.own.now a.far.now a.s.now d, eq-eqb _ _ c.if-at-s.true) (ap Some (to_z-of_z w32 _ f))

pub returns-else-at-s : goal.returns-else-at-s
returns-else-at-s c =
    let a = c.args in
    let d = rw c.in_ok-value.was at c.num_at.ensures in
    rw (← whole-num a.own.now a.far.now a.s.now d, ne_eqb _ _ c.if-at-s.false)
