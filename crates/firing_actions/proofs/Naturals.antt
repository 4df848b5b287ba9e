-- Small numbers that are held as signed ones. Assumes nothing.
use Prim.Native.Nat.{ℕ, ◌+◌, ◌*◌, ◌^◌, ◌<◌}
use mathlib.Core.Path.{◌≡◌, ap, ◌∙◌}
use mathlib.Core.List.{List}
use native.Mathlib.Omega.{arith}
use lib.Dec.{T}
use lib.ListN.{length, get_or}
use lib.IntN.{ℤ, pos, nat_abs}
use lib.Signed.{non_neg}
use mir.Syntax.{w32, w64}
use mir.Val.{Fits, of_z, to_z}
use mir.ValLaws.{to_z-of_z}
use Rattle.firing.specs.Evaluated.{Assignable}

abbrev back : ℤ → ℤ
back z = to_z w32 (of_z w32 z)

-- a signed number that is c, as an index
pub back-small : (x : ℤ) (c : ℕ) → x ≡ pos c → c < 2 ^ 31 → back x ≡ pos c
back-small x c e h = ap back e ∙ to_z-of_z w32 (pos c) (record { sfits = h })

pub index-there : (x : ℤ) (c : ℕ) → x ≡ pos c → c < 2 ^ 31 → T (non_neg (back x)) × Fits w64 (nat_abs (back x))
index-there x c e h = rw (back-small x c e h) (tt, record { fits = omega arith })

pub index_is : (x : ℤ) (c : ℕ) → x ≡ pos c → c < 2 ^ 31 → nat_abs (back x) ≡ c
index_is x c e h = ap nat_abs (back-small x c e h)

-- a small number, cast to a signed one
pub cast-small : (n : ℕ) → n < 2 ^ 31 → to_z w32 n ≡ pos n
cast-small n h = to_z-of_z w32 (pos n) (record { sfits = h })

-- the channel of a pair, as an index
module _ (l : List ℤ) (i : ℕ) (a : Assignable l) (h : 2 * i + 1 < length l) where
  pub pair-there : T (non_neg (back (get_or l (2 * i) (pos 0)))) × Fits w64 (nat_abs (back (get_or l (2 * i) (pos 0))))
  pair-there = let c = a i h in index-there (get_or l (2 * i) (pos 0)) c.0 c.1 (omega (arith, c.2))

  pub pair-low : nat_abs (back (get_or l (2 * i) (pos 0))) < 32
  pair-low = let c = a i h in omega (arith, index_is (get_or l (2 * i) (pos 0)) c.0 c.1 (omega (arith, c.2)), c.2)
