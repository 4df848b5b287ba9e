-- `pool::all_zero` meets its contract. Assumes nothing.
use Prim.Native.Nat.{◌/◌, ◌*◌}
use mathlib.Core.Path.{sym, ◌∙◌}
use lib.ListN.{length}
use Rattle.pool.proofs.Scanning.{zero-halves, zero-behind}
use Rattle.pool.proofs.all_zero.Goals as goal

pub returns-then-not-last_zero : goal.returns-then-not-last_zero
returns-then-not-last_zero c =
    let l = c.args.tail.now in
    zero-behind l (2 * (length l / 2)) (sym c.last_zero.ensures ∙ c.if-not-last_zero.true)

pub returns : goal.returns
returns c =
    let l = c.args.tail.now in
    c.both_zero.ensures ∙ zero-halves l (length l / 2) (sym c.last_zero.ensures ∙ c.if-not-last_zero.false)
