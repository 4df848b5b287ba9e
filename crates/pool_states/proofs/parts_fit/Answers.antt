-- `pool_states::parts_fit` meets its contract. The loop's invariant: the answer for the parts from p on is the answer for all.
-- Assumes nothing.
use Prim.Native.Nat.{◌*◌}
use mathlib.Core.Bool.{not}
use mathlib.Core.Path.{sym, ap, ◌∙◌}
use native.Mathlib.Omega.{arith}
use Rattle.pool_states.proofs.Turns.{part-next, part-stop, value-end}
use Rattle.pool_states.proofs.parts_fit.Goals as goal

pub returns-then-not-all_zero : goal.returns-then-not-all_zero
returns-then-not-all_zero c d e_r e_n =
    let s = c.args in
    let stop = part-stop d s.channels c.loop-p.p s.values.now e_r (omega arith) (omega arith) (omega arith)
    c.all_zero.ensures (ap not c.if-not-all_zero.true) in
    sym stop ∙ c.loop-p.invariant d e_r e_n

pub loop-p-preserved : goal.loop-p-preserved
loop-p-preserved c d e_r e_n =
    let s = c.args in
    let next = part-next d s.channels c.loop-p.p s.values.now e_r (omega arith) (omega arith) (omega arith)
    c.all_zero.ensures (ap not c.if-not-all_zero.false) in
    sym next ∙ c.loop-p.invariant d e_r e_n

pub returns : goal.returns
returns c d e_r e_n =
    sym (sym (c.loop-p.invariant d e_r e_n) ∙ value-end d c.args.values.now (32 * c.loop-p.p) (omega arith))
