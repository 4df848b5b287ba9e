-- What the search for a fault answers, in terms of the first fault. Assumes nothing.
use Rattle.std.specs.Prelude.{ℕ, ◌-◌, ◌≤◌, ◌≡◌, Bool, true, false, List, [], ◌∷◌, ◌++◌, ltb, length, take, drop, Result, Ok, Err}
use Rattle.refusals.specs.declared.Refusal.{Refusal}
use Rattle.refusals.specs.declared.Refusal.TheVariants.{UnknownByte, WrongType}
use Rattle.refusals.specs.declared.Fault.{Fault}
use Rattle.refusals.specs.Outcome.{Outcome, refused, accepted}
use Rattle.refusals.specs.Declined.{number_of, fault_outcome}
use Rattle.expression.specs.Reading.{Scope}
use Rattle.expression.specs.Faults.{Awaited, a_number, a_truth, four_bytes, Judgement, unknown, mistyped, asks_for, if_known, judgement}
use Rattle.expression.specs.Faults.{Found, sound, faulty, first_fault}

-- what the search answers: the place after what was read, or its first fault
abbrev pub Search : Type 0
Search = Result ℕ Fault

-- this fault, at this place
abbrev pub fault : Refusal → ℕ → Fault
fault r p = record { refusal = r; place = p }

-- the first fault from a place of s on, with these awaited
abbrev pub fault_from : Scope → List ℕ → List Awaited → ℕ → Found
fault_from sc s ws at = first_fault sc ws (drop at s) at

-- the values vs end at a place, and what is awaited behind them is awaited there; or the fault is theirs, whatever that is
abbrev pub Says : Scope → List ℕ → List Awaited → ℕ → Search → Type 0
Says sc s vs at (Ok n) = (at ≤ n) × (n ≤ length s) × ((ws : List Awaited) → fault_from sc s (vs ++ ws) at ≡ fault_from sc s ws n)
Says sc s vs at (Err f) = (ws : List Awaited) → fault_from sc s (vs ++ ws) at ≡ faulty (number_of f.refusal) f.place

-- r is what the search answers for the values vs from a place of s on
pub record Searched (sc : Scope) (s : List ℕ) (vs : List Awaited) (at : ℕ) (r : Search) : Type 0 where
  pub says : Says sc s vs at r

-- a literal's bytes; and a channel's byte, of n that are known, whichever kind of channels that is
abbrev pub LiteralSearched : List ℕ → ℕ → Search → Type 0
LiteralSearched s at r = (sc : Scope) → Searched sc s four_bytes at r

abbrev pub ChannelSearched : List ℕ → ℕ → ℕ → Search → Type 0
ChannelSearched s n at r = (sc : Scope) (w : Awaited) → ((b : ℕ) → judgement sc w b ≡ if_known (ltb b n)) → Searched sc s (w ∷ []) at r

-- a byte that is not taken, as the search answers it
abbrev pub refused_at : ℕ → Judgement → Search
refused_at at unknown = Err (fault UnknownByte at)
refused_at at mistyped = Err (fault WrongType at)
refused_at at (asks_for ws) = Ok at

-- what the search answers, with a fault's number
abbrev pub of_search : Search → Outcome ℕ
of_search (Ok n) = accepted n
of_search (Err f) = fault_outcome f

-- what is found of whole bytes, of which the place after the last is n
abbrev pub answer_for : ℕ → Found → Outcome ℕ
answer_for n sound = accepted n
answer_for n (faulty k p) = refused k p

-- r is what the search answers for the whole bytes s, if `found` is what it answers for a value at their beginning
abbrev pub WholeSearched : List ℕ → Search → Search → Type 0
WholeSearched s found r =
    (sc : Scope) (w : Awaited) → Searched sc s (w ∷ []) 0 found → of_search r ≡ answer_for (length s) (first_fault sc (w ∷ []) s 0)

-- what an expression is to be: a truth, or else a number
abbrev pub awaited_for : Bool → Awaited
awaited_for true = a_truth
awaited_for false = a_number

-- what is found of the bytes of s from one place to another
abbrev pub found_between : Scope → Bool → List ℕ → ℕ → ℕ → Found
found_between sc truth s from to = first_fault sc (awaited_for truth ∷ []) (take (to - from) (drop from s)) from
