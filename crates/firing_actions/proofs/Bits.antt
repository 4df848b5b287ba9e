-- Signed 32-bit numbers are compared by their bits. Assumes nothing.
use Prim.Native.Nat.{◌^◌, ◌<◌}
use mathlib.Core.Path.{◌≡◌, sym, ap, ◌∙◌}
use lib.IntN.{ℤ}
use lib.Signed.{mag}
use mir.Syntax.{w32}
use mir.Val.{of_z, to_z}
use mir.ValLaws.{to_z-of_z}

-- equal bits, equal numbers
pub bits-same : (x y : ℤ) → mag x < 2 ^ 31 → mag y < 2 ^ 31 → of_z w32 x ≡ of_z w32 y → x ≡ y
bits-same x y hx hy e = sym (to_z-of_z w32 x (record { sfits = hx })) ∙ ap (to_z w32) e ∙ to_z-of_z w32 y (record { sfits = hy })
