-- Cases: what is easy to get wrong in reading and evaluating an expression, and in finding its first fault. Assumes nothing.
use Rattle.std.specs.Prelude.{◌≡◌, refl, Bool, false, List, [], ◌∷◌, map, ℕ, ◌+◌, ℤ, pos}
use Rattle.lists.specs.Lists.{lists}
use Rattle.expression.specs.Syntax.{Num, Truth}
use Rattle.expression.specs.Values.{num_value, truth_value, evaluation}
use Rattle.expression.specs.Reading.{Read, got, nothing, Scope, whole_num, whole_truth, reading_expressions}
use Rattle.expression.specs.Faults.{Found, sound, faulty, num_fault, truth_fault, faults}

-- own channels have the values 10, 11 and 12, far ones 20, 21 and 22
abbrev own_only : Scope
own_only = record { owns = 3; fars = 0 }

abbrev own_and_far : Scope
own_and_far = record { owns = 3; fars = 3 }

-- what the bytes come to; nothing where they are no such expression
abbrev pub number_values : Read Num → List ℤ
number_values (got e n) = num_value (λ c. pos (10 + c)) (λ c. pos (20 + c)) e ∷ []
number_values nothing = []

abbrev pub truth_values : Read Truth → List Bool
truth_values (got t n) = truth_value (λ c. pos (10 + c)) (λ c. pos (20 + c)) t ∷ []
truth_values nothing = []

pub number-cases : map number_values
    (whole_num own_and_far (4 ∷ 2 ∷ 2 ∷ 0 ∷ 254 ∷ 255 ∷ 255 ∷ 255 ∷ [])  -- far 2 less the literal -2, low byte first
    ∷ whole_num own_only (2 ∷ 0 ∷ [])  -- a far channel where none may stand
    ∷ whole_num own_and_far (1 ∷ 0 ∷ 1 ∷ [])  -- a byte left over
    ∷ [])
    ≡ (pos 24 ∷ []) ∷ [] ∷ [] ∷ []
unfolding lists evaluation reading_expressions
number-cases = refl

pub truth-cases : map truth_values
    (whole_truth own_and_far (21 ∷ 1 ∷ 2 ∷ 1 ∷ 2 ∷ [])  -- 12 less than 12
    ∷ whole_truth own_and_far (19 ∷ 16 ∷ [])  -- an operand is missing, though the other one decides
    ∷ whole_truth own_and_far (18 ∷ 1 ∷ 0 ∷ [])  -- a number where a truth belongs
    ∷ [])
    ≡ (false ∷ []) ∷ [] ∷ [] ∷ []
unfolding lists evaluation reading_expressions
truth-cases = refl

-- number and place of a fault, and nothing where there is none
abbrev pub fault_shown : Found → List ℕ
fault_shown sound = []
fault_shown (faulty n p) = n ∷ p ∷ []

-- bytes that are to be a number, from offset 20 on
pub number-fault-cases : map (λ s. fault_shown (num_fault own_and_far s 20))
    ((3 ∷ 1 ∷ 2 ∷ 2 ∷ 2 ∷ [])
    ∷ (2 ∷ 3 ∷ [])  -- far channel 3 of three, at its own byte
    ∷ (3 ∷ 17 ∷ 7 ∷ [])  -- the first operand's fault, not the second one's
    ∷ (16 ∷ 9 ∷ [])  -- a truth, not the byte left over
    ∷ (0 ∷ 7 ∷ 7 ∷ 7 ∷ [])  -- a literal's byte is missing
    ∷ (1 ∷ 0 ∷ 17 ∷ 99 ∷ [])  -- two bytes left over, at the first of them
    ∷ [])
    ≡ [] ∷ (3 ∷ 21 ∷ []) ∷ (18 ∷ 21 ∷ []) ∷ (18 ∷ 20 ∷ []) ∷ (19 ∷ 24 ∷ []) ∷ (19 ∷ 22 ∷ []) ∷ []
unfolding lists faults
number-fault-cases = refl

-- and a truth, where no far channel may stand
pub truth-fault-cases : map (λ s. fault_shown (truth_fault own_only s 20))
    ((19 ∷ 17 ∷ 22 ∷ 1 ∷ 2 ∷ 0 ∷ 7 ∷ 7 ∷ 7 ∷ 7 ∷ [])
    ∷ (22 ∷ 2 ∷ 0 ∷ 1 ∷ 0 ∷ [])  -- a far channel, at its operator
    ∷ (20 ∷ 16 ∷ [])  -- the second operand is missing
    ∷ (18 ∷ 15 ∷ [])  -- between the operators of numbers and of truths
    ∷ [])
    ≡ [] ∷ (18 ∷ 21 ∷ []) ∷ (19 ∷ 22 ∷ []) ∷ (3 ∷ 21 ∷ []) ∷ []
unfolding lists faults
truth-fault-cases = refl
