-- `pool::both_zero` meets its contract. The loop's invariant, for each list: no bit is set so far and the numbers from i on are zeros
-- exactly if all are. Assumes nothing.
use Prim.Native.Nat.{ℕ, ◌^◌, ◌<◌}
use mathlib.Core.Path.{◌≡◌, ap₂, ◌∙◌}
use mathlib.Core.Bool.{◌&&◌}
use native.Mathlib.Omega.{arith}
use lib.Bits.{bit_or}
use lib.Dec.{eqb}
use lib.IntN.{ℤ, pos}
use lib.Signed.{mag}
use Rattle.std.proofs.Common.{rules}
use mir.Syntax.{w32}
use mir.Val.{Fits, SFits, of_z, to_z}
use Rattle.std.proofs.Math.Facts.{of_z-to_z, Fits-or, Fits-of_z}
use lib.ListN.{get_or}
use Rattle.pool.proofs.Scanning.{or-none, zero_turn, zero-end}
use Rattle.pool.proofs.both_zero.Goals as goal

-- the bits of a number of the loop, also with those of one number more
back : (bits : ℕ) → Fits w32 bits → of_z w32 (to_z w32 bits) ≡ bits
back bits f = of_z-to_z f

more : (bits : ℕ) (x : ℤ) → Fits w32 bits → SFits w32 x → of_z w32 (to_z w32 (bit_or bits (of_z w32 x))) ≡ bit_or bits (of_z w32 x)
more bits x f s = of_z-to_z (Fits-or f (Fits-of_z s))

pub loop-i-preserved : goal.loop-i-preserved
loop-i-preserved c =
    let l = c.loop-i in
    let x = get_or c.args.a.now l.i (pos 0) in
    let y = get_or c.args.b.now l.i (pos 0) in
    let fx : mag x < 2 ^ 31 = search rules in
    let fy : mag y < 2 ^ 31 = search rules in (
      rw (more l.first-bits x l.auto.first-fits (record { sfits = fx }))
          (zero_turn c.args.a.now l.i l.first-bits (omega arith) fx
          ∙ (rw (back l.first-bits l.auto.first-fits) at l.invariant.0)),
      rw (more l.second-bits y l.auto.second-fits (record { sfits = fy }))
          (zero_turn c.args.b.now l.i l.second-bits (omega (arith, c.requires)) fy
          ∙ (rw (back l.second-bits l.auto.second-fits) at l.invariant.1)),
    )

pub returns : goal.returns
returns c =
    let l = c.loop-i in
    or-none l.first-bits l.second-bits
    ∙ ap₂ (λ x y. x && y)
    (zero-end c.args.a.now l.i (eqb l.first-bits 0) (omega arith) ∙ (rw (back l.first-bits l.auto.first-fits) at l.invariant.0))
    (zero-end c.args.b.now l.i (eqb l.second-bits 0) (omega (arith, c.requires))
    ∙ (rw (back l.second-bits l.auto.second-fits) at l.invariant.1))
