-- The hash of a place, and a bucket from it. Assumes nothing.
use Prim.Native.Nat.{ℕ, ◌+◌, ◌*◌, ◌≤◌, ◌<◌}
use mathlib.Core.Path.{◌≡◌, refl, sym}
use mathlib.Core.Bool.{true, false}
use mathlib.Core.List.{List}
use native.Mathlib.Nat.{add-zero, le_refl, mul-le-mul}
use native.Mathlib.Omega.{arith}
use borrow.Author.Tests.{eq-eqb, ne_eqb}
use lib.ListN.{get_or}
use lib.IntN.{ℤ, pos, negsuc}
use mir.Syntax.{w32}
use mir.Val.{SFits, of_z}
use Rattle.lists.specs.Lists.{lists, eq_z}
use Rattle.pool_index.specs.Hash.{factored, hash_of}

-- a number below 2^32 times a factor below 2^31
pub product-low : (x j : ℕ) → x < 4294967296 → x * j ≤ 4294967295 * j
product-low x j l =
    let e : x ≤ 4294967295 = omega arith in
    mul-le-mul e (le_refl j)

-- the count is 1 exactly where its bits are
is_one : (x : ℤ) → SFits w32 x → of_z w32 x ≡ 1 → eq_z x (pos 1) ≡ true
unfolding lists
is_one (pos n) f e = eq-eqb n 1 e
is_one (negsuc n) f e = absurd (omega arith)

is-other : (x : ℤ) → (of_z w32 x ≡ 1 → ⊥) → eq_z x (pos 1) ≡ false
unfolding lists
is-other (pos n) e = ne_eqb n 1 e
is-other (negsuc n) e = refl

module _ (l : List ℤ) where
  pub one-pair : SFits w32 (get_or l 1 (pos 0)) → of_z w32 (get_or l 1 (pos 0)) ≡ 1
      → factored l 0 748982257 374761393 + factored l 2 668265263 1640531527 ≡ hash_of l
  unfolding hash_of
  one-pair f e = rw (is_one (get_or l 1 (pos 0)) f e) (sym (add-zero _))

  pub more-pairs : (of_z w32 (get_or l 1 (pos 0)) ≡ 1 → ⊥)
      → factored l 0 748982257 374761393 + factored l 2 668265263 1640531527
      + (factored l 4 122949823 141650939 + factored l 6 160481183 179424673 + factored l 8 104395301 86028121)
      ≡ hash_of l
  unfolding hash_of
  more-pairs e = rw (is-other (get_or l 1 (pos 0)) e) refl

-- a hash below 2^32, times the number of buckets, fits 64 bits
pub product-fits : (h heads : ℕ) → h < 4294967296 → heads ≤ 65536 → h * heads < 281474976710656
product-fits h heads small few =
    let e : h ≤ 4294967295 = omega arith in
    omega (arith, mul-le-mul e few)
