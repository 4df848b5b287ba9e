-- `expression_types::num_end` meets its contract. It calls itself where fewer bytes are left. Assumes nothing.
use mathlib.Core.Path.{sym, ap}
use native.Mathlib.Omega.{arith}
use Rattle.expression.specs.Reading.{num_op}
use Rattle.expression.proofs.Laws.OperatorBytes.{num-past}
use Rattle.expression_types.proofs.Checking.{byte-here, no-num, operation, as-two, as-two-nothing, as-negation, as-unknown}
use Rattle.expression_types.proofs.+num_end.Goals as goal

pub returns-in_err-b : goal.returns-in_err-b
returns-in_err-b t c =
    let outside = c.in_err-b.ensures.lookup in
    rw c.from_residual.ensures (no-num _ _ _ (omega arith))

pub returns-then-b-gt6 : goal.returns-then-b-gt6
returns-then-b-gt6 t c =
    let b = c.in_ok-b.ensures.lookup.3 in
    as-unknown (byte-here b) (sym (num-past _ c.if-b-gt6.true))

pub returns-then-b-eq6 : goal.returns-then-b-eq6
returns-then-b-eq6 t c =
    let b = c.in_ok-b.ensures.lookup.3 in
    as-negation (byte-here b) (ap num_op c.if-b-eq6.true) c.num_end.ensures

pub returns-in_err-num_end : goal.returns-in_err-num_end
returns-in_err-num_end t c =
    let b = c.in_ok-b.ensures.lookup.3 in
    let two = operation _ c.if-b-lt3.false (omega (arith, c.if-b-gt6.false, c.if-b-eq6.false)) in
    rw c.from_residual-in_err-num_end.ensures (as-two-nothing (byte-here b) two.1 (rw c.in_err-num_end.was at c.num_end-2.ensures))

pub returns : goal.returns
returns t c =
    let b = c.in_ok-b.ensures.lookup.3 in
    let two = operation _ c.if-b-lt3.false (omega (arith, c.if-b-gt6.false, c.if-b-eq6.false)) in
    as-two (byte-here b) two.1 (rw c.in_ok-num_end.was at c.num_end-2.ensures) c.num_end-3.ensures
