-- What the code's refusals stand for: their numbers, and the outcomes that they are. Assumes nothing.
use Rattle.std.specs.Prelude.{ℕ, Result, Ok, Err}
use Rattle.refusals.specs.Numbers as Number
use Rattle.refusals.specs.Outcome.{Outcome, refused, accepted}
use Rattle.refusals.specs.declared.Refusal.{Refusal}
use Rattle.refusals.specs.declared.Refusal.TheVariants as Of
use Rattle.refusals.specs.declared.Fault.{Fault}
use Rattle.refusals.specs.declared.Declined.{Declined}

abbrev pub number_of : Refusal → ℕ
number_of Of.DeckEnds = Number.deck_ends
number_of Of.OutOfRange = Number.out_of_range
number_of Of.UnknownByte = Number.unknown_byte
number_of Of.RepeatedTarget = Number.repeated_target
number_of Of.BytesFollow = Number.bytes_follow
number_of Of.OpensOutside = Number.opens_outside
number_of Of.CyclicGraph = Number.cyclic_graph
number_of Of.Overcharged = Number.overcharged
number_of Of.BadPool = Number.bad_pool
number_of Of.BadState = Number.bad_state
number_of Of.UnknownPart = Number.unknown_part
number_of Of.BadInput = Number.bad_input
number_of Of.OverCapacity = Number.over_capacity
number_of Of.PlaceNotPending = Number.place_not_pending
number_of Of.UnknownSection = Number.unknown_section
number_of Of.BudgetTooLarge = Number.budget_too_large
number_of Of.InputOutside = Number.input_outside
number_of Of.WrongType = Number.wrong_type
number_of Of.WrongEnd = Number.wrong_end
number_of Of.DefaultRetired = Number.default_retired
number_of Of.TooManyRules = Number.too_many_rules
number_of Of.BufferTooShort = Number.buffer_too_short

abbrev pub unplaced : Refusal → Declined
unplaced r = record { refusal = r; place = 0 }

-- a fault, and a call that declines, as outcomes
abbrev pub fault_outcome : {A : Type 0} → Fault → Outcome A
fault_outcome f = refused (number_of f.refusal) f.place

abbrev pub decline_outcome : {A : Type 0} → Declined → Outcome A
decline_outcome d = refused (number_of d.refusal) d.place

-- what a call comes to that answers a value or why it declines; `f` says what the value stands for
abbrev pub outcome_of : {T A : Type 0} → (T → A) → Result T Declined → Outcome A
outcome_of f (Ok x) = accepted (f x)
outcome_of f (Err d) = decline_outcome d
