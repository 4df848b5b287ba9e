-- Cases: one step past each end, and a result that stays within. Assumes nothing.
use Rattle.std.specs.Prelude.{◌≡◌, refl, [], ◌∷◌, ℤ, pos, negsuc}
use Rattle.clamped.specs.Clamp.{plus, minus, times, negated, clamping}

abbrev highest : ℤ
highest = pos 2147483647

abbrev lowest : ℤ
lowest = negsuc 2147483647

pub clamped-cases : negated lowest ∷ times lowest highest ∷ minus (plus highest lowest) (pos 4) ∷ []
    ≡ highest ∷ lowest ∷ negsuc 4 ∷ []
unfolding clamping
clamped-cases = refl
