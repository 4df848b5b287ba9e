-- A signed number as one from 0 to below a bound. Assumes nothing.
use mathlib.Core.Path.{◌≡◌, refl}
use mathlib.Core.Bool.{true, false}
use Prim.Native.Nat.{ℕ, ◌≤◌, ◌<◌}
use native.Mathlib.Omega.{arith}
use borrow.Author.Tests.{ltb-true}
use lib.IntN.{ℤ, pos, negsuc, nat_abs}
use lib.Signed.{lt_z}
use Rattle.pool_states.specs.Fits.{within}

pub below-zero : (b : ℕ) (x : ℤ) → lt_z x (pos 0) ≡ true → within b x ≡ b
unfolding within
below-zero b (pos n) e = let h : n < 0 = ltb-true n 0 e in absurd (omega arith)
below-zero b (negsuc n) e = refl

pub within-small : (b : ℕ) (x : ℤ) → lt_z x (pos 0) ≡ false → nat_abs x < b → nat_abs x ≡ within b x
unfolding within
within-small b (pos n) e h = omega arith
within-small b (negsuc n) e h = let q : ◌≡◌ {A = ℕ} 0 1 = cc in absurd (omega arith)

pub within-large : (b : ℕ) (x : ℤ) → lt_z x (pos 0) ≡ false → b ≤ nat_abs x → within b x ≡ b
unfolding within
within-large b (pos n) e h = omega arith
within-large b (negsuc n) e h = refl
