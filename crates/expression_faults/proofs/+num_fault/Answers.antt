-- `expression_faults::num_fault` meets its contract. It calls itself where fewer bytes are left. Assumes nothing.
use borrow.Author.Rules.{rules}
use Rattle.std.specs.Prelude.{◌≡◌, [], Err}
use Rattle.expression.specs.Answers.{scope}
use Rattle.expression.specs.Faults.{a_number}
use Rattle.expression.proofs.Laws.Searches.{missing}
use Rattle.expression_faults.proofs.Operators.{as-literal, as_own, as-far, as-no-far, as-two, as-two-first, as-negation}
use Rattle.expression_faults.proofs.Operators.{as-no-number}
use Rattle.expression_faults.proofs.+num_fault.Goals as goal

pub returns-then-s-at : goal.returns-then-s-at
returns-then-s-at t c =
    rw c.fault.ensures (missing (scope c.args.own c.args.far) c.args.s.now a_number [] c.args.at c.if-s-at.true)

pub returns-in_err-n-in-Two : goal.returns-in_err-n-in-Two
returns-in_err-n-in-Two t c =
    let e : c.from_residual.result ≡ Err c.in_err-n-in-Two.field-0.0 = search rules in
    rw e (as-two-first (record { inside = c.if-s-at.false; is = c.num_op-op.ensures }) c.in-Two.is
    (rw c.in_err-n-in-Two.was at c.num_fault.ensures))

pub returns-in-Literal : goal.returns-in-Literal
returns-in-Literal t c =
    as-literal (record { inside = c.if-s-at.false; is = c.num_op-op.ensures }) c.in-Literal.is c.literal_fault.ensures

pub returns-in-Own : goal.returns-in-Own
returns-in-Own t c =
    as_own (record { inside = c.if-s-at.false; is = c.num_op-op.ensures }) c.in-Own.is c.channel_fault.ensures

pub returns-then-far-eq0 : goal.returns-then-far-eq0
returns-then-far-eq0 t c =
    rw c.fault-then-far-eq0.ensures
    (as-no-far (record { inside = c.if-s-at.false; is = c.num_op-op.ensures }) c.in-Far.is c.if-far-eq0.true)

pub returns-else-far-eq0 : goal.returns-else-far-eq0
returns-else-far-eq0 t c =
    as-far (record { inside = c.if-s-at.false; is = c.num_op-op.ensures }) c.in-Far.is c.if-far-eq0.false
    c.channel_fault-else-far-eq0.ensures

pub returns-in_ok-n-in-Two : goal.returns-in_ok-n-in-Two
returns-in_ok-n-in-Two t c =
    as-two (record { inside = c.if-s-at.false; is = c.num_op-op.ensures }) c.in-Two.is
    (rw c.in_ok-n-in-Two.was at c.num_fault.ensures)
    c.num_fault-in-Two.ensures

pub returns-in-Negation : goal.returns-in-Negation
returns-in-Negation t c =
    as-negation (record { inside = c.if-s-at.false; is = c.num_op-op.ensures }) c.in-Negation.is c.num_fault-in-Negation.ensures

pub returns-in-Unknown : goal.returns-in-Unknown
returns-in-Unknown t c =
    as-no-number (record { inside = c.if-s-at.false; is = c.num_op-op.ensures }) c.in-Unknown.is c.other_than_number.ensures
