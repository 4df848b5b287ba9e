-- Document 02, Req 02: the first fault of an expression's bytes, 3, 18 or 19 at the exact byte. Assumes nothing.
use Rattle.std.specs.Prelude.{ℕ, suc, Bool, true, false, cond, List, [], ◌∷◌, ◌++◌, ltb, eqb}
use Rattle.refusals.specs.Numbers.{unknown_byte, wrong_type, wrong_end}
use Rattle.expression.specs.Reading.{Scope, num_op, truth_op}
use Rattle.expression.specs.declared.NumOp.{NumOp}
use Rattle.expression.specs.declared.NumOp.TheVariants as OfNum
use Rattle.expression.specs.declared.TruthOp.{TruthOp}
use Rattle.expression.specs.declared.TruthOp.TheVariants as OfTruth

-- what is awaited: a number or a truth, which begins with its operator; a channel's number; one byte of a literal
pub data Awaited : Type 0 where
  a_number a_truth an_own_channel a_far_channel a_literal_byte : Awaited

-- what a byte comes to where something is awaited: it is unknown; it is of the wrong type, or a far channel where none may stand;
-- or it is taken, and these are awaited after it
pub data Judgement : Type 0 where
  unknown mistyped : Judgement
  asks_for : List Awaited → Judgement

-- a byte that is no operator of the awaited type: one of the other type is mistyped, any other is unknown
abbrev pub other_truth : TruthOp → Judgement
other_truth (OfTruth.Constant b) = mistyped
other_truth OfTruth.Not = mistyped
other_truth (OfTruth.Both k) = mistyped
other_truth (OfTruth.Two k) = mistyped
other_truth OfTruth.Unknown = unknown

abbrev pub other_number : NumOp → Judgement
other_number OfNum.Literal = mistyped
other_number OfNum.Own = mistyped
other_number OfNum.Far = mistyped
other_number (OfNum.Two k) = mistyped
other_number OfNum.Negation = mistyped
other_number OfNum.Unknown = unknown

abbrev pub four_bytes : List Awaited
four_bytes = a_literal_byte ∷ a_literal_byte ∷ a_literal_byte ∷ a_literal_byte ∷ []

-- "a far channel that isn't allowed is placed at its operator byte": before its channel is looked at
abbrev pub if_far_allowed : ℕ → Judgement
if_far_allowed fars = cond (eqb fars 0) mistyped (asks_for (a_far_channel ∷ []))

-- what a number's operator asks for; `other` is what a byte comes to that is none
abbrev pub as_number : Scope → NumOp → Judgement → Judgement
as_number sc OfNum.Literal other = asks_for four_bytes
as_number sc OfNum.Own other = asks_for (an_own_channel ∷ [])
as_number sc OfNum.Far other = if_far_allowed sc.fars
as_number sc (OfNum.Two k) other = asks_for (a_number ∷ a_number ∷ [])
as_number sc OfNum.Negation other = asks_for (a_number ∷ [])
as_number sc OfNum.Unknown other = other

-- and a truth's
abbrev pub as_truth : TruthOp → Judgement → Judgement
as_truth (OfTruth.Constant b) other = asks_for []
as_truth OfTruth.Not other = asks_for (a_truth ∷ [])
as_truth (OfTruth.Both k) other = asks_for (a_truth ∷ a_truth ∷ [])
as_truth (OfTruth.Two k) other = asks_for (a_number ∷ a_number ∷ [])
as_truth OfTruth.Unknown other = other

-- "an unknown operator or channel": a channel is known if its number is below how many there are
abbrev pub if_known : Bool → Judgement
if_known true = asks_for []
if_known false = unknown

-- what a byte comes to, by what is awaited there
unfoldable pub judgement : Scope → Awaited → ℕ → Judgement
judgement sc a_number b = as_number sc (num_op b) (other_truth (truth_op b))
judgement sc a_truth b = as_truth (truth_op b) (other_number (num_op b))
judgement sc an_own_channel b = if_known (ltb b sc.owns)
judgement sc a_far_channel b = if_known (ltb b sc.fars)
judgement sc a_literal_byte b = asks_for []

-- no fault, or its number and place
pub data Found : Type 0 where
  sound : Found
  faulty : ℕ → ℕ → Found

-- 3 and 18 at the byte itself; `go` goes on with what the byte asks for
abbrev pub placed : ℕ → Judgement → (List Awaited → Found) → Found
placed at unknown go = faulty unknown_byte at
placed at mistyped go = faulty wrong_type at
placed at (asks_for more) go = go more

-- The bytes from the offset `at` on, one by one, with the list of what is awaited. "At each byte a missing byte is noticed first, an
-- unknown one next, a wrong type last". 19: "bytes left over at the first of them"; "for an expression that ends too soon … the first
-- byte past its end"
unfoldable pub first_fault : Scope → List Awaited → List ℕ → ℕ → Found
first_fault sc [] [] at = sound
first_fault sc [] (b ∷ s) at = faulty wrong_end at
first_fault sc (w ∷ ws) [] at = faulty wrong_end at
first_fault sc (w ∷ ws) (b ∷ s) at = placed at (judgement sc w b) (λ more. first_fault sc (more ++ ws) s (suc at))

-- the first fault of bytes that are to be a number, and of bytes that are to be a truth
abbrev pub num_fault : Scope → List ℕ → ℕ → Found
num_fault sc s at = first_fault sc (a_number ∷ []) s at

abbrev pub truth_fault : Scope → List ℕ → ℕ → Found
truth_fault sc s at = first_fault sc (a_truth ∷ []) s at

-- to open all definitions of this file, on an `unfolding` line
unfoldable pub faults : Unit {0}
unfolding judgement first_fault
faults = tt
