-- Document 01, "Expressions": what they come to. `owns` and `fars` give the values of the own and of the far channels.
-- Assumes nothing.
use Rattle.std.specs.Prelude.{ℕ, Bool, not, ◌&&◌, ◌||◌, ℤ}
use Rattle.std.specs.Int.Signed.{lt_z}
use Rattle.lists.specs.Lists.{eq_z}
use Rattle.clamped.specs.Clamp.{plus, minus, times, negated, clamping}
use Rattle.expression.specs.Syntax.{Num, literal, own, far, two, negation}
use Rattle.expression.specs.Syntax.{Truth, constant, opposite, both, compared}
use Rattle.expression.specs.declared.Arith.{Arith}
use Rattle.expression.specs.declared.Arith.TheVariants.{Sum, Difference, Product}
use Rattle.expression.specs.declared.Join.{Join}
use Rattle.expression.specs.declared.Join.TheVariants.{And, Or}
use Rattle.expression.specs.declared.Compare.{Compare}
use Rattle.expression.specs.declared.Compare.TheVariants.{Less, Equal}

abbrev pub arith : Arith → ℤ → ℤ → ℤ
arith Sum a b = plus a b
arith Difference a b = minus a b
arith Product a b = times a b

abbrev pub join : Join → Bool → Bool → Bool
join And a b = a && b
join Or a b = a || b

abbrev pub comparison : Compare → ℤ → ℤ → Bool
comparison Less a b = lt_z a b
comparison Equal a b = eq_z a b

unfoldable pub num_value : (ℕ → ℤ) → (ℕ → ℤ) → Num → ℤ
num_value owns fars (literal z) = z
num_value owns fars (own c) = owns c
num_value owns fars (far c) = fars c
num_value owns fars (two k a b) = arith k (num_value owns fars a) (num_value owns fars b)
num_value owns fars (negation a) = negated (num_value owns fars a)

unfoldable pub truth_value : (ℕ → ℤ) → (ℕ → ℤ) → Truth → Bool
truth_value owns fars (constant b) = b
truth_value owns fars (opposite t) = not (truth_value owns fars t)
truth_value owns fars (both k t u) = join k (truth_value owns fars t) (truth_value owns fars u)
truth_value owns fars (compared k a b) = comparison k (num_value owns fars a) (num_value owns fars b)

-- to open all definitions of this file, and those that clamp, on an `unfolding` line
unfoldable pub evaluation : Unit {0}
unfolding clamping num_value truth_value
evaluation = tt
