-- Signed 32-bit numbers: a call hands them over as their bits, and they are read back from these. Assumes nothing.
use mathlib.Core.Path.{◌≡◌, refl, ◌∙◌}
use mathlib.Core.Bool.{Bool, true, false}
use Prim.Native.Nat.{ℕ, suc, ◌-◌, ◌^◌}
use native.Mathlib.Omega.{arith}
use lib.Dec.{eqb}
use lib.IntN.{ℤ, pos, negsuc}
use mir.Syntax.{w32}
use mir.Val.{SFits, to_z, of_z}
use mir.Facts.{to_z-of_z}
use borrow.Author.Tests.{eq-eqb, ne_eqb, eqb-true, eqb-false}
use Rattle.lists.specs.Lists.{eq_z, lists}

abbrev back : ℤ → ℤ
back z = to_z w32 (of_z w32 z)

-- what a callee says of two arguments, and of a result as well
pub read_back : {A : Type 0} (f : ℤ → ℤ → A) {a b : ℤ} {r : A} → SFits w32 a → SFits w32 b
    → r ≡ f (back a) (back b) → r ≡ f a b
read_back f fa fb e = e ∙ rw (to_z-of_z fa, to_z-of_z fb)

pub result-back : (f : ℤ → ℤ → ℤ) {a b r : ℤ} → SFits w32 r → SFits w32 a → SFits w32 b
    → r ≡ f (back a) (back b) → back r ≡ f a b
result-back f fr fa fb e = to_z-of_z fr ∙ read_back f fa fb e

-- ---- two numbers are equal exactly where their bits are

same_test : (a b c d : ℕ) → (a ≡ b → c ≡ d) → (c ≡ d → a ≡ b) → eqb a b ≡ eqb c d
same_test a b c d f g = go (eqb c d) refl
  where
    go : (t : Bool) → eqb c d ≡ t → eqb a b ≡ t
    go true e = eq-eqb a b (g (eqb-true c d e))
    go false e = ne_eqb a b (λ q. eqb-false c d e (f q))

pub bits-equal : (a b : ℤ) → SFits w32 a → SFits w32 b → eqb (of_z w32 a) (of_z w32 b) ≡ eq_z a b
unfolding lists
bits-equal (pos a) (pos b) fa fb = refl
bits-equal (pos a) (negsuc b) fa fb = ne_eqb a (2 ^ 32 - suc b) (omega arith)
bits-equal (negsuc a) (pos b) fa fb = ne_eqb (2 ^ 32 - suc a) b (omega arith)
bits-equal (negsuc a) (negsuc b) fa fb = same_test (2 ^ 32 - suc a) (2 ^ 32 - suc b) a b (omega arith) (omega arith)
