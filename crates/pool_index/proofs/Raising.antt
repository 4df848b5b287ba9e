-- A signed number of 32 bits, widened to 64 and raised by 2^31: the sum fits, is not negative and is below 2^32. Assumes
-- nothing.
use Prim.Native.Nat.{suc, ◌-◌, ◌<◌, ◌^◌}
use mathlib.Core.Path.{◌≡◌, refl, ap, ◌∙◌}
use mathlib.Core.Bool.{cond}
use native.Mathlib.Omega.{arith}
use lib.IntN.{ℤ, pos, negsuc, ◌+ℤ◌}
use lib.Signed.{mag}
use mir.Syntax.{w32, w64}
use mir.Val.{SFits, to_z, of_z}
use mir.Facts.{sfits_widen, to_z-of_z}
use borrow.Author.Tests.{le-ltb}
use Rattle.pool_index.specs.Hash.{raised}

sum_is : (x : ℤ) → mag x < 2 ^ 31 → x +ℤ pos 2147483648 ≡ pos (raised x)
unfolding raised
sum_is (pos n) h = refl
sum_is (negsuc n) h =
    ap (λ t. cond t (negsuc (suc n - 2147483649)) (pos (2147483648 - suc n))) (le-ltb 2147483648 (suc n) (omega arith))
    ∙ ap pos (omega arith)

pub raised-small : (x : ℤ) → mag x < 2 ^ 31 → raised x < 4294967296
unfolding raised
raised-small (pos n) h = omega arith
raised-small (negsuc n) h = omega arith

-- the number as it is widened
abbrev wide : ℤ → ℤ
wide x = to_z w64 (of_z w64 (to_z w32 (of_z w32 x)))

module _ (x : ℤ) (h : mag x < 2 ^ 31) where
  fits : SFits w32 x
  fits = record { sfits = h }

  widened : wide x ≡ x
  widened = ap (λ (y : ℤ). to_z w64 (of_z w64 y)) (to_z-of_z fits) ∙ to_z-of_z {w = w64} (sfits_widen tt fits)

  wide-sum : wide x +ℤ pos 2147483648 ≡ pos (raised x)
  wide-sum = ap (λ y. y +ℤ pos 2147483648) widened ∙ sum_is x h

  sum_fits : SFits w64 (wide x +ℤ pos 2147483648)
  sum_fits = rw wide-sum (record { sfits = omega (arith, raised-small x h) })

  pub sum_back : to_z w64 (of_z w64 (wide x +ℤ pos 2147483648)) ≡ pos (raised x)
  sum_back = to_z-of_z sum_fits ∙ wide-sum
