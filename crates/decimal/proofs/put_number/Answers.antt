-- `decimal::put_number` meets its contract: a number of 32 bits has at most ten digits. Assumes nothing.
use Prim.Native.Nat.{ℕ, ◌≤◌}
use native.Mathlib.Nat.{lt_trans}
use native.Mathlib.Omega.{arith}
use lib.Dec.{lit<}
use lib.ListN.{length}
use mir.Syntax.{w32}
use mir.Val.{Fits}
use Rattle.decimal.specs.Digits.{digits}
use Rattle.decimal.specs.Laws.{digits_long}
use Rattle.decimal.proofs.put_number.Goals as goal

-- at most ten digits
ten : (n : ℕ) → Fits w32 n → length (digits n n) ≤ 10
ten n f = digits_long 9 n (lt_trans f.fits (lit< tt))

pub put_digits-requires : goal.put_digits-requires
put_digits-requires c =
    omega (arith, c.requires, c.put_byte-next.ensures.ends, c.put_byte-next.auto.out, ten c.args.n c.ranges.n)

pub returns-clause-upper_bound : goal.returns-clause-upper_bound
returns-clause-upper_bound c =
    omega (arith, c.put_byte-next.ensures.ends, c.put_digits.ensures.ends, ten c.args.n c.ranges.n)
