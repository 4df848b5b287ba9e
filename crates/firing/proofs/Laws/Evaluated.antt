-- The value of a number that stands in the deck, as the code answers it. Assumes nothing.
use Rattle.std.specs.Prelude.{ℕ, ◌+◌, ◌≡◌, List, length, get_or, take, drop, ℤ, pos, Option, Some, None}
use Rattle.std.proofs.Common.{ap, subst}
use Rattle.expression.specs.Syntax.{Num}
use Rattle.expression.specs.Reading.{whole_num}
use Rattle.expression.specs.Answers.{scope, map_read, num_in, num_result, whole_num_value}
use Rattle.passing.specs.Stands.{Stands}

-- what was read, evaluated
pub number-there : (s : List ℕ) (at : ℕ) (own far : List ℤ) (e : Num) → Stands (whole_num (scope (length own) (length far))) s at e
    → whole_num_value own far (take (get_or s at 0) (drop (at + 1) s)) ≡ Some (num_in own far e)
number-there s at own far e h = ap (λ r. num_result (map_read (num_in own far) r)) h.holds

pub told : (x y : ℤ) → Some x ≡ Some y → x ≡ y
told x y e = ap value_of e
  where
    value_of : Option ℤ → ℤ
    value_of (Some x) = x
    value_of None = pos 0

pub not_none : {A : Type 0} {o : Option ℤ} {x : ℤ} → o ≡ None → o ≡ Some x → A
not_none n e = absurd (cc)
