-- Document 02, Req 02, "the exact byte": what the place of a fault says of the bytes before it and behind it. Which of 3 and 18 it is
-- stands in `judgement` alone. Assumes nothing.
use Rattle.std.specs.Prelude.{ℕ, suc, ◌≤◌, ◌<◌, ◌≡◌, ◌⊎◌, Bool, true, false, List, ◌++◌, ltb, length, take}
use Rattle.lists.specs.Lists.{all_of}
use Rattle.refusals.specs.Numbers.{unknown_byte, wrong_type, wrong_end}
use Rattle.expression.specs.Faults.{Found, faulty}

-- 3, 18 or 19
abbrev pub InExpression : ℕ → Type 0
InExpression n = (n ≡ unknown_byte) ⊎ ((n ≡ wrong_type) ⊎ (n ≡ wrong_end))

-- with at least one byte more the bytes `before` are an expression, without regard to the 64 bytes that one may have
pub record Completed (whole : List ℕ → Bool) (before : List ℕ) : Type 0 where
  pub more : List ℕ
  pub bytes : all_of (λ b. ltb b 256) more ≡ true
  pub some : 0 < length more
  pub sound : whole (before ++ more) ≡ true

-- `whole` says whether bytes are an expression, `find` finds their first fault; in s it finds n at the place p
pub record ExactByte (whole : List ℕ → Bool) (find : List ℕ → Found) (s : List ℕ) (n p : ℕ) : Type 0 where
  pub number : InExpression n
  pub within : p ≤ length s
  -- where it is placed at a byte: whatever follows that byte, the fault is the same, and no expression begins so
  pub same : p < length s → (t : List ℕ) → find (take (suc p) s ++ t) ≡ faulty n p
  pub never : p < length s → (t : List ℕ) → whole (take (suc p) s ++ t) ≡ false
  -- 3 and 18 are placed at a byte, and could not be placed earlier
  pub on_a_byte : ¬ (n ≡ wrong_end) → p < length s
  pub completes : ¬ (n ≡ wrong_end) → Completed whole (take p s)
  -- 19 is at the end of bytes that are too few, or at the first one behind an expression
  pub ends_early : p ≡ length s → Completed whole s
  pub left_over : n ≡ wrong_end → p < length s → whole (take p s) ≡ true
