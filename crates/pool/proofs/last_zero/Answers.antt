-- `pool::last_zero` meets its contract. Assumes nothing.
use mathlib.Core.Bool.{true}
use native.Mathlib.Omega.{arith}
use Rattle.std.proofs.Common.{rules}
use Rattle.pool.proofs.Scanning.{zero-last, zero-end}
use Rattle.pool.proofs.last_zero.Goals as goal

pub returns-then-end-tail : goal.returns-then-end-tail
returns-then-end-tail c = zero-last c.args.tail.now c.args.end c.if-end-tail.true c.requires (search rules)

pub returns : goal.returns
returns c = zero-end c.args.tail.now c.args.end true (omega (arith, c.if-end-tail.false))
