-- Numbers written into a pool, into a lent tail. Assumes nothing.
use Prim.Native.Nat.{ℕ, ◌+◌, ◌-◌}
use mathlib.Core.Path.{◌≡◌, ap}
use mathlib.Core.List.{List, [], ◌++◌, append-nil}
use native.Mathlib.Nat.{le_refl}
use lib.ListN.{length, take, drop, length-drop, drop_of_length-le}
use lib.Seq.{take_all, drop-drop}
use lib.IntN.{ℤ}
use Rattle.pool.specs.Moves.{written}

-- the tail from an index on, as it is lent
pub tail-is : (p : List ℤ) (at : ℕ) → take (length p - at) (drop at p) ≡ drop at p
tail-is p at = take_all (length p - at) (drop at p) (simp length-drop (le_refl _))

tail-rest : (p : List ℤ) (at : ℕ) → drop (length p - at) (drop at p) ≡ []
tail-rest p at = drop_of_length-le (drop at p) {i = length p - at} (simp length-drop (le_refl _))

-- a tail that was lent to the writer of ten numbers, back in its pool
pub lent_written : (p : List ℤ) (at : ℕ) (t u : List ℤ) → length u ≡ 10
    → t ≡ u ++ drop (length u) (take (length p - at) (drop at p))
    → take at p ++ (t ++ drop (length p - at) (drop at p)) ≡ written p at u
lent_written p at t u l e =
    rw (e, l, tail-is, tail-rest, drop-drop) (ap (λ (r : List ℤ). take at p ++ r) (append-nil (u ++ drop (at + 10) p)))
