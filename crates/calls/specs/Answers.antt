-- Number, place and values of each case of the code's answers. The promises of the calls use these. Assumes nothing.
use Rattle.std.specs.Prelude.{ℕ, List, [], ◌∷◌, ℤ, Result, Ok, Err}
use Rattle.refusals.specs.Outcome.{Outcome, refused, accepted}
use Rattle.refusals.specs.Declined.{decline_outcome}
use Rattle.refusals.specs.declared.Declined.{Declined}
use Rattle.pool.specs.declared.State.{State}
use Rattle.pool.specs.States.{Memory}
use Rattle.calls.specs.Calls.{Answer, passed, started, added, applied, discarded, settled, spent, Reply, Section}
use Rattle.calls.specs.declared.CheckAnswer.{CheckAnswer}
use Rattle.calls.specs.declared.CommitAnswer.{CommitAnswer}
use Rattle.calls.specs.declared.CommitAnswer.TheVariants as OfCommit
use Rattle.calls.specs.declared.SettleAnswer.{SettleAnswer}
use Rattle.calls.specs.declared.SettleAnswer.TheVariants as OfSettle

abbrev pub check_outcome : Result CheckAnswer Declined → Outcome Answer
check_outcome (Ok a) = accepted (passed a.channels a.rules a.parts a.charge)
check_outcome (Err d) = decline_outcome d

abbrev pub start_outcome : Result (Unit {0}) Declined → Outcome Answer
start_outcome (Ok _) = accepted started
start_outcome (Err d) = decline_outcome d

-- an input answers the charge added
abbrev pub input_outcome : Result ℕ Declined → Outcome Answer
input_outcome (Ok charge) = accepted (added charge)
input_outcome (Err d) = decline_outcome d

abbrev pub commit_outcome : Result CommitAnswer Declined → Outcome Answer
commit_outcome (Ok (OfCommit.Applied charge)) = accepted (applied charge)
commit_outcome (Ok (OfCommit.Discarded charge)) = accepted (discarded charge)
commit_outcome (Err d) = decline_outcome d

abbrev pub settle_outcome : Result SettleAnswer Declined → Outcome Answer
settle_outcome (Ok (OfSettle.Settled commits)) = accepted (settled commits)
settle_outcome (Ok (OfSettle.Spent commits)) = accepted (spent commits)
settle_outcome (Err d) = decline_outcome d

-- what section hands back, with the two lent numbers
abbrev pub section_of : List ℕ → ℕ → ℕ → Section
section_of stretch number place = record { stretch = stretch; number = number; place = place }

-- what a host lends, and what it holds after a call
abbrev pub memory_of : State → List ℤ → Memory
memory_of state pool = record { state = state; pool = pool }

abbrev pub reply_of : Outcome Answer → State → List ℤ → Reply
reply_of answer state pool = record { answer = answer; memory = memory_of state pool }

-- the same, where values and pending number are lent each by itself
abbrev pub memory_at : List ℤ → ℕ → List ℤ → Memory
memory_at values pending pool = memory_of (record { values = values; pending = pending }) pool

abbrev pub reply_at : Outcome Answer → List ℤ → ℕ → List ℤ → Reply
reply_at answer values pending pool = record { answer = answer; memory = memory_at values pending pool }

-- an outcome as numbers: the refusal's number and place, both 0 where the call is accepted, and the answer numbers, all 0 where
-- it is refused. "applied" and "settled" are 1, "discarded" and "spent" 0
pub record Numbers : Type 0 where
  pub number : ℕ
  pub place : ℕ
  pub values : List ℕ

abbrev pub values_of : Answer → List ℕ
values_of (passed r m n charge) = r ∷ m ∷ n ∷ charge ∷ []
values_of started = 0 ∷ 0 ∷ 0 ∷ 0 ∷ []
values_of (added charge) = charge ∷ 0 ∷ 0 ∷ 0 ∷ []
values_of (applied charge) = 1 ∷ charge ∷ 0 ∷ 0 ∷ []
values_of (discarded charge) = 0 ∷ charge ∷ 0 ∷ 0 ∷ []
values_of (settled commits) = commits ∷ 1 ∷ 0 ∷ 0 ∷ []
values_of (spent commits) = commits ∷ 0 ∷ 0 ∷ 0 ∷ []

abbrev pub numbers_of : Outcome Answer → Numbers
numbers_of (refused number place) = record { number = number; place = place; values = 0 ∷ 0 ∷ 0 ∷ 0 ∷ [] }
numbers_of (accepted a) = record { number = 0; place = 0; values = values_of a }
