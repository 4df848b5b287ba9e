-- What the code answers. It reads and evaluates, or checks, in one pass and builds no syntax, so its answers are what the
-- readers give, with an expression's value, or only its end, in place of the expression. Assumes nothing.
use Rattle.std.specs.Prelude.{ℕ, ◌+◌, ◌<◌, ◌≤◌, ◌≡◌, Bool, true, false, List, eqb, ℤ, pos, length, get_or, Option, Some, None}
use Rattle.expression.specs.Syntax.{Num, Truth}
use Rattle.expression.specs.Values.{num_value, truth_value}
use Rattle.expression.specs.Reading.{Read, got, nothing, then, Scope, num, truth, whole_num, whole_truth}

-- ---- at a place

-- what was read, with f of it in its place
abbrev pub map_read : {A B : Type 0} → (A → B) → Read A → Read B
map_read f r = then r (λ a n. got (f a) n)

-- the place after what was read is past `at`, and at most `end`
abbrev pub Ahead : {A : Type 0} → ℕ → ℕ → Read A → Type 0
Ahead at end (got a n) = (at < n) × (n ≤ end)
Ahead at end nothing = Unit {0}

-- r is what the reader gives at a place of s, whatever its fuel, if that is enough
pub record Answers {A : Type 0} (read : ℕ → List ℕ → ℕ → Read A) (s : List ℕ) (at : ℕ) (r : Read A) : Type 0 where
  pub ahead : Ahead at (length s) r
  pub equal : (fuel : ℕ) → length s ≤ at + fuel → r ≡ read fuel s at

abbrev pub scope : ℕ → ℕ → Scope
scope own far = record { owns = own; fars = far }

-- a channel's value, of those that are lent
abbrev pub value_in : List ℤ → ℕ → ℤ
value_in xs c = get_or xs c (pos 0)

-- the values of a number and of a truth, with the values of the own and of the far channels
abbrev pub num_in : List ℤ → List ℤ → Num → ℤ
num_in own far e = num_value (value_in own) (value_in far) e

abbrev pub truth_in : List ℤ → List ℤ → Truth → Bool
truth_in own far t = truth_value (value_in own) (value_in far) t

-- what stands at a place, evaluated
unfoldable pub num_at : List ℤ → List ℤ → ℕ → List ℕ → ℕ → Read ℤ
num_at own far fuel s at = map_read (num_in own far) (num (scope (length own) (length far)) fuel s at)

unfoldable pub truth_at : List ℤ → List ℤ → ℕ → List ℕ → ℕ → Read Bool
truth_at own far fuel s at = map_read (truth_in own far) (truth (scope (length own) (length far)) fuel s at)

-- what was read is forgotten, and only its end is kept
abbrev pub end_of : {A : Type 0} → Read A → Read (Unit {0})
end_of r = map_read (λ _. tt) r

-- where a number, and a truth, ends
unfoldable pub num_end : Scope → ℕ → List ℕ → ℕ → Read (Unit {0})
num_end sc fuel s at = end_of (num sc fuel s at)

unfoldable pub truth_end : Scope → ℕ → List ℕ → ℕ → Read (Unit {0})
truth_end sc fuel s at = end_of (truth sc fuel s at)

-- the code's answers, as readers give them: n is the place that it has come to
abbrev pub of_num : Option ℤ → ℕ → Read ℤ
of_num (Some z) n = got z n
of_num None n = nothing

abbrev pub of_truth : Option Bool → ℕ → Read Bool
of_truth (Some b) n = got b n
of_truth None n = nothing

abbrev pub of_end : Option (Unit {0}) → ℕ → Read (Unit {0})
of_end (Some u) n = got tt n
of_end None n = nothing

-- ---- whole expressions

-- something was read, and it ends at the place n
abbrev pub ends_at : {A : Type 0} → ℕ → Read A → Bool
ends_at n (got a m) = eqb m n
ends_at n nothing = false

abbrev pub is_got : {A : Type 0} → Read A → Bool
is_got (got a n) = true
is_got nothing = false

abbrev pub num_result : Read ℤ → Option ℤ
num_result (got z n) = Some z
num_result nothing = None

abbrev pub truth_result : Read Bool → Option Bool
truth_result (got b n) = Some b
truth_result nothing = None

-- the value of the number, and of the truth, that the bytes s hold
abbrev pub whole_num_value : List ℤ → List ℤ → List ℕ → Option ℤ
whole_num_value own far s = num_result (map_read (num_in own far) (whole_num (scope (length own) (length far)) s))

abbrev pub whole_truth_value : List ℤ → List ℤ → List ℕ → Option Bool
whole_truth_value own far s = truth_result (map_read (truth_in own far) (whole_truth (scope (length own) (length far)) s))
