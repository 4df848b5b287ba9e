-- What the iterator over a set gives. Assumes nothing.
use Rattle.std.specs.Prelude.{ℕ, min, ◌<◌, ◌≤◌, ◌≡◌, Option}
use Rattle.std.specs.Option.{MatchOption}
use Rattle.std.specs.Int.Count.{count_trailing_zeros}
use Rattle.lists.specs.Bits.{RestOf}

-- the lowest number of a set, or 64 where there is none
abbrev pub lowest_of : ℕ → ℕ
lowest_of set = count_trailing_zeros 64 set

-- the lowest number of what was left, which is below the end, and the rest of it is left; or none that is left is below the end
abbrev pub MemberGiven : ℕ → ℕ → Option ℕ → ℕ → Type 0
MemberGiven end left r left' =
    MatchOption r ((min end 64 ≤ lowest_of left) × (left' ≡ left))
    (λ c. (c ≡ lowest_of left) × (c < end) × (c < 64) × RestOf left left')
