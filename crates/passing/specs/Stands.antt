-- What stands at an offset of the deck: expressions, and opening values. Assumes nothing.
use Rattle.std.specs.Prelude.{ℕ, zero, suc, ◌+◌, ◌-◌, ◌≤◌, ◌<◌, ◌≡◌, Bool, List, [], ◌∷◌, length, get_or, take, drop, ℤ}
use Rattle.expression.specs.Syntax.{Truth}
use Rattle.expression.specs.Reading.{Read, got, word, signed, whole_truth}
use Rattle.expression.specs.Answers.{scope, truth_in}

-- its length byte stands there, its bytes behind it, and they hold it
pub record Stands {A : Type 0} (whole : List ℕ → Read A) (s : List ℕ) (at : ℕ) (a : A) : Type 0 where
  pub inside : at < length s
  pub ends : at + 1 + get_or s at 0 ≤ length s
  pub end : ℕ
  pub holds : whole (take (get_or s at 0) (drop (at + 1) s)) ≡ got a end

-- the truth at an offset, for given numbers of own and far channels, and its value
abbrev pub HasTruth : List ℕ → ℕ → ℕ → ℕ → Type 0
HasTruth s at owns fars = (t : Truth) × Stands (whole_truth (scope owns fars)) s at t

-- a stretch of n values as it is lent, from one index to another
abbrev pub stretch : List ℤ → ℕ → ℕ → List ℤ
stretch values at n = take (at + n - at) (drop at values)

abbrev pub TruthIs : List ℕ → ℕ → List ℤ → List ℤ → Bool → Type 0
TruthIs s at own far r = (t : Truth) → Stands (whole_truth (scope (length own) (length far))) s at t → r ≡ truth_in own far t

-- four bytes as a signed number; n of them
unfoldable pub value_from : List ℕ → ℕ → ℤ
value_from s at = signed (word (get_or s at 0) (get_or s (at + 1) 0) (get_or s (at + 2) 0) (get_or s (at + 3) 0))

unfoldable pub values_from : List ℕ → ℕ → ℕ → List ℤ
values_from s at zero = []
values_from s at (suc n) = value_from s at ∷ values_from s (at + 4) n
