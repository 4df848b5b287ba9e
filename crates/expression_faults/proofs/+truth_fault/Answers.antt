-- `expression_faults::truth_fault` meets its contract. It calls itself where fewer bytes are left. Assumes nothing.
use borrow.Author.Rules.{rules}
use Rattle.std.specs.Prelude.{◌≡◌, [], Err}
use Rattle.expression.specs.Answers.{scope}
use Rattle.expression.specs.Faults.{a_truth}
use Rattle.expression.proofs.Laws.Searches.{missing}
use Rattle.expression_faults.proofs.Operators.{as-constant, as-not, as-both, as-both-first, as-compared, as-compared-first}
use Rattle.expression_faults.proofs.Operators.{as-no-truth}
use Rattle.expression_faults.proofs.+truth_fault.Goals as goal

pub returns-then-s-at : goal.returns-then-s-at
returns-then-s-at t c =
    rw c.fault.ensures (missing (scope c.args.own c.args.far) c.args.s.now a_truth [] c.args.at c.if-s-at.true)

pub returns-in_err-n-in-Both : goal.returns-in_err-n-in-Both
returns-in_err-n-in-Both t c =
    let e : c.from_residual.result ≡ Err c.in_err-n-in-Both.field-0.0 = search rules in
    rw e (as-both-first (record { inside = c.if-s-at.false; is = c.truth_op-op.ensures }) c.in-Both.is
    (rw c.in_err-n-in-Both.was at c.truth_fault-in-Both.ensures))

pub returns-in_err-n-in-Two : goal.returns-in_err-n-in-Two
returns-in_err-n-in-Two t c =
    let e : c.from_residual-in_err-n-in-Two.result ≡ Err c.in_err-n-in-Two.field-0.0 = search rules in
    rw e (as-compared-first (record { inside = c.if-s-at.false; is = c.truth_op-op.ensures }) c.in-Two.is
    (rw c.in_err-n-in-Two.was at c.num_fault.ensures))

pub returns-in-Constant : goal.returns-in-Constant
returns-in-Constant t c =
    as-constant (record { inside = c.if-s-at.false; is = c.truth_op-op.ensures }) c.in-Constant.is

pub returns-in-Not : goal.returns-in-Not
returns-in-Not t c =
    as-not (record { inside = c.if-s-at.false; is = c.truth_op-op.ensures }) c.in-Not.is c.truth_fault.ensures

pub returns-in_ok-n-in-Both : goal.returns-in_ok-n-in-Both
returns-in_ok-n-in-Both t c =
    as-both (record { inside = c.if-s-at.false; is = c.truth_op-op.ensures }) c.in-Both.is
    (rw c.in_ok-n-in-Both.was at c.truth_fault-in-Both.ensures)
    c.truth_fault-in-Both-2.ensures

pub returns-in_ok-n-in-Two : goal.returns-in_ok-n-in-Two
returns-in_ok-n-in-Two t c =
    as-compared (record { inside = c.if-s-at.false; is = c.truth_op-op.ensures }) c.in-Two.is
    (rw c.in_ok-n-in-Two.was at c.num_fault.ensures)
    c.num_fault-in-Two.ensures

pub returns-in-Unknown : goal.returns-in-Unknown
returns-in-Unknown t c =
    as-no-truth (record { inside = c.if-s-at.false; is = c.truth_op-op.ensures }) c.in-Unknown.is c.other_than_truth.ensures
