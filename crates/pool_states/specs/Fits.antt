-- A place as the code tests it, number by number. Assumes nothing.
use Rattle.std.specs.Prelude.{ℕ, zero, suc, ◌+◌, ◌*◌, ◌^◌, ◌<◌, ◌≡◌, min, Bool, true, false, not, ◌&&◌, List, [], ◌∷◌, map, ltb, get_or, take, drop, ℤ, pos, negsuc, nat_abs, Option, None, Some}
use Rattle.std.specs.Int.Bits.{bit_or}
use Rattle.lists.specs.Lists.{all_of}
use Rattle.lists.specs.Bits.{bit}
use Rattle.pool.specs.Places.{is_zero, pairs_of}

-- a number from 0 to below b, and b for the others
unfoldable pub within : ℕ → ℤ → ℕ
within b (pos n) = min n b
within b (negsuc n) = b

-- what the test of a number against a bound answers: the number if it is from 0 to below b, else none
abbrev pub Bounded : ℕ → ℤ → Option ℕ → Type 0
Bounded b z None = within b z ≡ b
Bounded b z (Some n) = (n ≡ within b z) × (n < b)

-- not below 0
abbrev pub IsNatural : ℤ → Type 0
IsNatural z = z ≡ pos (nat_abs z)

-- the channels of the first n pairs
abbrev pub channels_of : ℕ → List ℤ → List ℕ
channels_of n t = map (λ a. a.channel) (take n (pairs_of t))

-- the first n pairs have channels below R
unfoldable pub in_range : ℕ → ℕ → List ℤ → Bool
in_range R zero t = true
in_range R (suc n) [] = false
in_range R (suc n) (c ∷ []) = false
in_range R (suc n) (c ∷ v ∷ t) = ltb (within R c) R && in_range R n t

-- the first n pairs have different channels below R, and none of those in the set m
unfoldable pub channels_fit : ℕ → ℕ → ℕ → List ℤ → Bool
channels_fit R m zero t = true
channels_fit R m (suc n) [] = false
channels_fit R m (suc n) (c ∷ []) = false
channels_fit R m (suc n) (c ∷ v ∷ t) =
    ltb (within R c) R && not (bit m (within R c)) && channels_fit R (bit_or m (2 ^ within R c)) n t

-- 1 to 4 pairs, their channels, and zeros behind them
unfoldable pub pairs_fit : ℕ → List ℤ → Bool
pairs_fit R l =
    let n = within 5 (get_or l 1 (pos 0)) in
    ltb 0 n && ltb n 5 && channels_fit R 0 n (drop 2 l) && all_of is_zero (drop (2 + 2 * n) l)

-- part and pairs
unfoldable pub fits : ℕ → ℕ → List ℤ → Bool
fits R N l = ltb (within N (get_or l 0 (pos 0))) N && pairs_fit R l
