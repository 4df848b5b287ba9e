-- `conversion_bytes::rules_of` meets its contract, in either case. Assumes nothing.
use Prim.Native.Nat.{suc, ◌-◌}
use mathlib.Core.Path.{◌≡◌, sym, ap}
use native.Mathlib.Omega.{arith}
use Rattle.conversion_bytes.specs.Pieces.{becomes}
use Rattle.conversion_bytes.proofs.rules_of.Goals as goal

pub returns-then-defaults-eq0 : goal.returns-then-defaults-eq0
unfolding becomes
returns-then-defaults-eq0 c = ap becomes (sym c.if-defaults-eq0.true)

pub returns-else-defaults-eq0 : goal.returns-else-defaults-eq0
unfolding becomes
returns-else-defaults-eq0 c =
    let n = c.args.defaults in
    let e : n ≡ suc (n - 1) = omega (arith, c.if-defaults-eq0.false) in
    ap becomes (sym e)
