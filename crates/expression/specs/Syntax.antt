-- Document 01, "Expressions": numbers and truths, as they are after reading. Assumes nothing.
use Rattle.std.specs.Prelude.{ℕ, Bool, ℤ}
use Rattle.expression.specs.declared.Arith.{Arith}
use Rattle.expression.specs.declared.Join.{Join}
use Rattle.expression.specs.declared.Compare.{Compare}

-- `own` and `far` are channels by their number; `two` is a sum, a difference or a product
pub data Num : Type 0 where
  literal : ℤ → Num
  own far : ℕ → Num
  two : Arith → Num → Num → Num
  negation : Num → Num

-- `opposite` is "not", `both` is "and" or "or", `compared` is "less" or "equal"
pub data Truth : Type 0 where
  constant : Bool → Truth
  opposite : Truth → Truth
  both : Join → Truth → Truth → Truth
  compared : Compare → Num → Num → Truth
