-- Sets of small numbers as the bits of a number. Assumes nothing.
use Rattle.std.specs.Prelude.{ℕ, ◌/◌, ◌%◌, ◌^◌, ◌≤◌, ◌<◌, ◌≡◌, Bool, true, false, ◌&&◌, List, [], ◌∷◌, eqb, ltb}
use Rattle.std.specs.Int.Bits.{bit_or}

-- c is in the set
unfoldable pub bit : ℕ → ℕ → Bool
bit m c = eqb (m / 2 ^ c % 2) 1

-- the set m with the numbers of a list added
unfoldable pub mask_from : ℕ → List ℕ → ℕ
mask_from m [] = m
mask_from m (c ∷ cs) = mask_from (bit_or m (2 ^ c)) cs

-- the set of the numbers of a list
unfoldable pub mask_of : List ℕ → ℕ
mask_of cs = mask_from 0 cs

-- r is the lowest number of the set from one on, or 64 where there is none
pub record NextIn (set from r : ℕ) : Type 0 where
  pub most : r ≤ 64
  pub on : from ≤ 64 → from ≤ r
  pub found : r < 64 → bit set r ≡ true
  pub passed : (i : ℕ) → from ≤ i → i < r → bit set i ≡ false

-- r is the set without its lowest number
pub record RestOf (set r : ℕ) : Type 0 where
  pub each : (l i : ℕ) → NextIn set 0 l → bit r i ≡ (ltb l i && bit set i)
