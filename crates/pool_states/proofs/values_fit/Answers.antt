-- `pool_states::values_fit` meets its contract: the parts, and what is behind the last of them. Assumes nothing.
use mathlib.Core.Path.{sym, ◌∙◌}
use native.Mathlib.Omega.{arith}
use Rattle.pool_states.proofs.Deciding.{tail-zeros}
use Rattle.pool_states.proofs.Turns.{values-stop, values-last}
use Rattle.pool_states.proofs.values_fit.Goals as goal

pub returns-then-not-parts_fit : goal.returns-then-not-parts_fit
returns-then-not-parts_fit c d e_r e_n =
    sym (values-stop d c.args.parts c.args.values.now e_n (omega arith)
    (sym (c.parts_fit.ensures d e_r e_n) ∙ c.if-not-parts_fit.true))

pub returns : goal.returns
returns c d e_r e_n =
    tail-zeros c.args.values.now _ c.all_zero.ensures
    ∙ sym (values-last d c.args.parts c.args.values.now e_n (omega arith)
    (sym (c.parts_fit.ensures d e_r e_n) ∙ c.if-not-parts_fit.false))
