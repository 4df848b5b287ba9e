-- The replies of the seven calls as a host in C sees them. Assumes nothing.
use Rattle.std.specs.Prelude.{ℕ, Bool, true, false, List, [], ◌∷◌}
use Rattle.refusals.specs.Outcome.{Outcome, refused, accepted}
use Rattle.pool.specs.States.{Memory}
use Rattle.calls.specs.Calls.{Answer, Reply, Section}
use Rattle.calls.specs.Answers.{Numbers, numbers_of}
use Rattle.conversion.specs.Conversion as Conversion

-- the number that a function returns, 0 when the call is accepted, and the lent array of five: the place, then the answer numbers
pub record Answered : Type 0 where
  pub number : ℕ
  pub answer : List ℕ

abbrev pub answered_of : ℕ → List ℕ → Answered
answered_of number answer = record { number = number; answer = answer }

abbrev pub array_of : Numbers → Answered
array_of n = answered_of n.number (n.place ∷ n.values)

-- an outcome as it is returned
abbrev pub answered : Outcome Answer → Answered
answered o = array_of (numbers_of o)

-- a flag as a number
unfoldable pub bit : Bool → ℕ
bit true = 1
bit false = 0

-- the numbers of a call that answers at most two
abbrev pub numbers_at : ℕ → ℕ → ℕ → ℕ → Numbers
numbers_at number place first second =
    record { number = number; place = place; values = first ∷ second ∷ 0 ∷ 0 ∷ [] }

-- a call that works on a state and a pool: what lies behind the pointers afterwards
pub record Returned : Type 0 where
  pub answered : Answered
  pub memory : Memory

abbrev pub returned_of : ℕ → List ℕ → Memory → Returned
returned_of number answer memory = record { answered = answered_of number answer; memory = memory }

abbrev pub returned : Reply → Returned
returned r = record { answered = answered r.answer; memory = r.memory }

-- section: the stretch, the number and the array, whose answer numbers are all 0
pub record ReturnedSection : Type 0 where
  pub stretch : List ℕ
  pub answered : Answered

abbrev pub returned_section_of : List ℕ → ℕ → List ℕ → ReturnedSection
returned_section_of stretch number answer = record { stretch = stretch; answered = answered_of number answer }

abbrev pub returned_section : Section → ReturnedSection
returned_section s = returned_section_of s.stretch s.number (s.place ∷ 0 ∷ 0 ∷ 0 ∷ 0 ∷ [])

-- convert: the number and the array, whose first answer number is the length, and the buffer
pub record ReturnedConversion : Type 0 where
  pub answered : Answered
  pub buffer : List ℕ

abbrev pub returned_conversion_of : ℕ → List ℕ → List ℕ → ReturnedConversion
returned_conversion_of number answer buffer = record { answered = answered_of number answer; buffer = buffer }

abbrev pub converted_numbers : Outcome ℕ → Answered
converted_numbers (refused number place) = answered_of number (place ∷ 0 ∷ 0 ∷ 0 ∷ 0 ∷ [])
converted_numbers (accepted length) = answered_of 0 (0 ∷ length ∷ 0 ∷ 0 ∷ 0 ∷ [])

abbrev pub returned_conversion : Conversion.Reply → ReturnedConversion
returned_conversion r = record { answered = converted_numbers r.answer; buffer = r.buffer }
