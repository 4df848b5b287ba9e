-- Document 01, "Expressions": "Each operation works on whole numbers, then clamps to -2,147,483,648 .. 2,147,483,647".
-- Assumes nothing.
use Rattle.std.specs.Prelude.{min, ℤ, pos, negsuc, neg_ℤ, ◌+ℤ◌, ◌-ℤ◌, ◌*ℤ◌}

-- `negsuc n` is -n - 1, so that both ends are reached at 2,147,483,647
unfoldable pub clamp : ℤ → ℤ
clamp (pos n) = pos (min n 2147483647)
clamp (negsuc n) = negsuc (min n 2147483647)

unfoldable pub plus : ℤ → ℤ → ℤ
plus a b = clamp (a +ℤ b)

unfoldable pub minus : ℤ → ℤ → ℤ
minus a b = clamp (a -ℤ b)

unfoldable pub times : ℤ → ℤ → ℤ
times a b = clamp (a *ℤ b)

unfoldable pub negated : ℤ → ℤ
negated a = clamp (neg_ℤ a)

-- to open all definitions of this file, on an `unfolding` line
unfoldable pub clamping : Unit {0}
unfolding clamp plus minus times negated
clamping = tt
