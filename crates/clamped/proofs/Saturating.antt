-- The library's operations that saturate are those that clamp. Assumes nothing.
use Rattle.std.specs.Prelude.{◌≡◌, refl, ℤ, pos, negsuc}
use Rattle.std.specs.Int.{saturate_signed, int_max, int_min}
use native.Mathlib.Omega.{arith}
use mathlib.Core.Path.{ap, ◌∙◌}
use mir.Syntax.{w32}
use mir.Val.{SFits, to_z, of_z}
use mir.Facts.{to_z-of_z}
use Rattle.clamped.specs.Clamp.{clamp, clamping}

saturates : (z : ℤ) → saturate_signed w32 z ≡ clamp z
unfolding clamping
saturates (pos n) = refl
saturates (negsuc n) = refl

-- what an operation says of two arguments, which it reads from their bits, and of its result, which is read back
pub clamps : (op : ℤ → ℤ → ℤ) {a b r : ℤ} → SFits w32 a → SFits w32 b → SFits w32 r
    → r ≡ saturate_signed w32 (op (to_z w32 (of_z w32 a)) (to_z w32 (of_z w32 b))) → to_z w32 (of_z w32 r) ≡ clamp (op a b)
clamps op {a} {b} fa fb fr e = to_z-of_z fr ∙ e ∙ saturates _ ∙ ap clamp (rw (to_z-of_z fa, to_z-of_z fb))

pub nearest : (z : ℤ) → int_max (negsuc 2147483647) (int_min z (pos 2147483647)) ≡ clamp z
unfolding clamping
nearest (pos n) = grind arith
nearest (negsuc n) = grind arith
