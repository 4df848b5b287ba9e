-- `expression_types::truth_end` meets its contract. It calls itself where fewer bytes are left. Assumes nothing.
use native.Mathlib.Omega.{arith}
use Rattle.expression_types.proofs.Checking.{op-here, no_truth, as-constant, as-no-truth, as-not}
use Rattle.expression_types.proofs.Checking.{as-both, as-both-nothing, as-compared, as-compared-nothing}
use Rattle.expression_types.proofs.+truth_end.Goals as goal

pub returns-in_err-get : goal.returns-in_err-get
returns-in_err-get t c =
    let outside = c.in_err-get.ensures.lookup in
    rw c.from_residual.ensures (no_truth _ _ _ (omega arith))

pub returns-in-Constant : goal.returns-in-Constant
returns-in-Constant t c = as-constant (op-here c.in_ok-get.ensures.lookup.3 c.truth_op-op.ensures) c.in-Constant.is

pub returns-in-Not : goal.returns-in-Not
returns-in-Not t c = as-not (op-here c.in_ok-get.ensures.lookup.3 c.truth_op-op.ensures) c.in-Not.is c.truth_end.ensures

pub returns-in_err-truth_end-in-Both : goal.returns-in_err-truth_end-in-Both
returns-in_err-truth_end-in-Both t c =
    rw c.from_residual-in_err-truth_end-in-Both.ensures
    (as-both-nothing (op-here c.in_ok-get.ensures.lookup.3 c.truth_op-op.ensures) c.in-Both.is
    (rw c.in_err-truth_end-in-Both.was at c.truth_end-in-Both.ensures))

pub returns-in_ok-truth_end-in-Both : goal.returns-in_ok-truth_end-in-Both
returns-in_ok-truth_end-in-Both t c =
    as-both (op-here c.in_ok-get.ensures.lookup.3 c.truth_op-op.ensures) c.in-Both.is
    (rw c.in_ok-truth_end-in-Both.was at c.truth_end-in-Both.ensures)
    c.truth_end-in-Both-2.ensures

pub returns-in_err-num_end-in-Two : goal.returns-in_err-num_end-in-Two
returns-in_err-num_end-in-Two t c =
    rw c.from_residual-in_err-num_end-in-Two.ensures
    (as-compared-nothing (op-here c.in_ok-get.ensures.lookup.3 c.truth_op-op.ensures) c.in-Two.is
    (rw c.in_err-num_end-in-Two.was at c.num_end.ensures))

pub returns-in_ok-num_end-in-Two : goal.returns-in_ok-num_end-in-Two
returns-in_ok-num_end-in-Two t c =
    as-compared (op-here c.in_ok-get.ensures.lookup.3 c.truth_op-op.ensures) c.in-Two.is
    (rw c.in_ok-num_end-in-Two.was at c.num_end.ensures)
    c.num_end-in-Two.ensures

pub returns-in-Unknown : goal.returns-in-Unknown
returns-in-Unknown t c = as-no-truth (op-here c.in_ok-get.ensures.lookup.3 c.truth_op-op.ensures) c.in-Unknown.is
