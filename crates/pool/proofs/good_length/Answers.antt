-- `pool::good_length` meets its contract. Assumes nothing.
use mathlib.Core.Path.{sym}
use native.Mathlib.Omega.{arith}
use Rattle.pool.proofs.Laws.Lengths.{length-low, length_high, length-mid}
use Rattle.pool.proofs.good_length.Goals as goal

pub returns-then-n-lt-PLACE : goal.returns-then-n-lt-PLACE
returns-then-n-lt-PLACE c = sym (length-low c.args.n c.if-n-lt-PLACE.true)

pub returns-then-n : goal.returns-then-n
returns-then-n c = sym (length_high c.args.n (omega (arith, c.if-n-lt-PLACE.false)) (omega (arith, c.if-n.true)))

pub returns : goal.returns
returns c = sym (length-mid c.args.n (omega (arith, c.if-n-lt-PLACE.false)) (omega (arith, c.if-n.false)))
