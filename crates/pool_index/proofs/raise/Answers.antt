-- `pool_index::raise` meets its contract. Assumes nothing.
use Prim.Native.Nat.{◌<◌, ◌^◌}
use mathlib.Core.Path.{ap}
use lib.ListN.{get_or}
use lib.IntN.{pos, nat_abs}
use lib.Signed.{mag}
use Rattle.std.proofs.Common.{rules}
use Rattle.pool_index.proofs.Raising.{raised-small, sum_back}
use Rattle.pool_index.proofs.raise.Goals as goal

pub returns : goal.returns
returns c =
    let x = get_or c.args.place.now c.args.i (pos 0) in
    let small : mag x < 2 ^ 31 = search rules in
    let e = sum_back x small in
    rw c.from-x.ensures (ap nat_abs e, rw e (raised-small x small))
