-- The replies of the calls, as they are returned. Assumes nothing.
use Rattle.std.specs.Prelude.{ℕ, ◌≡◌, refl, Bool, true, false, cond, List, [], ◌∷◌, ℤ}
use Rattle.std.proofs.Common.{ap, ap₂, ◌∙◌}
use Rattle.refusals.specs.Outcome.{Outcome, accepted}
use Rattle.pool.specs.declared.State.{State}
use Rattle.calls.specs.Calls.{Answer, applied, discarded, settled, spent, Reply, Section}
use Rattle.calls.specs.Answers.{numbers_of, section_of, memory_at, reply_of, reply_at}
use Rattle.conversion.specs.Conversion as Conversion
use Rattle.abi_call.specs.Returned.{answered_of, answered, bit, numbers_at, returned_of, returned, returned_section_of, returned_section}
use Rattle.abi_call.specs.Returned.{returned_conversion_of, converted_numbers, returned_conversion}

-- the array holds the numbers of an outcome
abbrev AnswerHolds : List ℕ → Outcome Answer → Type 0
AnswerHolds array o = array ≡ (numbers_of o).place ∷ (numbers_of o).values

pub written : {o r : Outcome Answer} {array : List ℕ} → AnswerHolds array o → o ≡ r → answered_of (numbers_of o).number array ≡ answered r
written {o} w e = ap (answered_of (numbers_of o).number) w ∙ ap answered e

pub section-written : {stretch array : List ℕ} {number place : ℕ} {s : Section} → array ≡ place ∷ 0 ∷ 0 ∷ 0 ∷ 0 ∷ []
    → section_of stretch number place ≡ s → returned_section_of stretch number array ≡ returned_section s
section-written {stretch} {number = number} w e = ap (returned_section_of stretch number) w ∙ ap returned_section e

-- the array is written, and the call left the state where the host holds it
pub left : {o : Outcome Answer} {values pool : List ℤ} {pending : ℕ} {array : List ℕ} {r : Reply}
    → AnswerHolds array o → reply_at o values pending pool ≡ r
    → returned_of (numbers_of o).number array (memory_at values pending pool) ≡ returned r
left {o} {values} {pool} {pending} w e =
    ap (λ a. returned_of (numbers_of o).number a (memory_at values pending pool)) w ∙ ap returned e

-- the array is written, and the state is stored
pub stored : {o : Outcome Answer} {st : State} {values pool : List ℤ} {pending : ℕ} {array : List ℕ} {r : Reply}
    → AnswerHolds array o → (values ≡ st.values) × (pending ≡ st.pending) → reply_of o st pool ≡ r
    → returned_of (numbers_of o).number array (memory_at values pending pool) ≡ returned r
stored {o} {pool = pool} w h e = left w (ap₂ (λ v n. reply_at o v n pool) h.0 h.1 ∙ e)

-- a flag as a number
commit-flag : (flag : Bool) (n : ℕ) → numbers_at 0 0 (bit flag) n ≡ numbers_of (accepted (cond flag (applied n) (discarded n)))
unfolding bit
commit-flag true n = refl
commit-flag false n = refl

settle-flag : (flag : Bool) (n : ℕ) → numbers_at 0 0 n (bit flag) ≡ numbers_of (accepted (cond flag (settled n) (spent n)))
unfolding bit
settle-flag true n = refl
settle-flag false n = refl

module _ (flag : Bool) {one n : ℕ} (e : one ≡ bit flag) where
  pub commit-numbers : numbers_at 0 0 one n ≡ numbers_of (accepted (cond flag (applied n) (discarded n)))
  commit-numbers = ap (λ x. numbers_at 0 0 x n) e ∙ commit-flag flag n

  pub settle-numbers : numbers_at 0 0 n one ≡ numbers_of (accepted (cond flag (settled n) (spent n)))
  settle-numbers = ap (numbers_at 0 0 n) e ∙ settle-flag flag n

-- the numbers of a response are written, and the call left the state where the host holds it
pub told : {o : Outcome Answer} {number place first second : ℕ} {values pool : List ℤ} {pending : ℕ} {array : List ℕ} {r : Reply}
    → numbers_at number place first second ≡ numbers_of o → array ≡ place ∷ first ∷ second ∷ 0 ∷ 0 ∷ []
    → reply_at o values pending pool ≡ r
    → returned_of number array (memory_at values pending pool) ≡ returned r
told {values = values} {pool} {pending} {array} n w e =
    ap (λ x. returned_of x.number array (memory_at values pending pool)) n ∙ left (w ∙ ap (λ x. x.place ∷ x.values) n) e

-- the array holds the numbers of a conversion
pub conversion-written : {o : Outcome ℕ} {array buffer : List ℕ} {r : Conversion.Reply} → array ≡ (converted_numbers o).answer
    → Conversion.reply_of o buffer ≡ r → returned_conversion_of (converted_numbers o).number array buffer ≡ returned_conversion r
conversion-written {o} {buffer = buffer} w e =
    ap (λ a. returned_conversion_of (converted_numbers o).number a buffer) w ∙ ap returned_conversion e
