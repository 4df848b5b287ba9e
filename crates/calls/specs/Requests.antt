-- Input, commit and settle by a request, for the code that they share. Assumes nothing.
use Rattle.std.specs.Prelude.{ℕ, List, ℤ, Result, Ok, Err}
use Rattle.refusals.specs.Outcome.{Outcome, refused, accepted}
use Rattle.refusals.specs.Declined.{decline_outcome}
use Rattle.refusals.specs.declared.Declined.{Declined}
use Rattle.pool.specs.States.{Memory}
use Rattle.calls.specs.Calls.{Answer, added, applied, discarded, settled, spent, Reply, input, commit, settle}
use Rattle.calls.specs.Answers.{reply_at}
use Rattle.calls.specs.declared.Request.{Request}
use Rattle.calls.specs.declared.Request.TheVariants.{Input, Commit, Settle}
use Rattle.calls.specs.declared.Response.{Response}
use Rattle.calls.specs.declared.Response.TheVariants as Told
use Rattle.calls.specs.declared.AfterCall.{AfterCall}

-- the call that is asked for; an input's pairs are lent beside the request
abbrev pub requested : List ℕ → Memory → Request → List ℤ → Reply
requested bytes m (Input part) pairs = input bytes m part pairs
requested bytes m (Commit place) pairs = commit bytes m place
requested bytes m (Settle budget) pairs = settle bytes m budget

-- what the code's answer stands for
abbrev pub answer_to : Response → Answer
answer_to (Told.Added charge) = added charge
answer_to (Told.Applied charge) = applied charge
answer_to (Told.Discarded charge) = discarded charge
answer_to (Told.Settled commits) = settled commits
answer_to (Told.Spent commits) = spent commits

abbrev pub outcome_to : Result Response Declined → Outcome Answer
outcome_to (Ok told) = accepted (answer_to told)
outcome_to (Err d) = decline_outcome d

-- what a host holds after a call on values, a pending number and a pool that are lent: the first and the last as they are then, and
-- the number that was pending unless another is
abbrev pub reply_after : Result AfterCall Declined → List ℤ → ℕ → List ℤ → Reply
reply_after (Ok after) values pending pool = reply_at (accepted (answer_to after.response)) values after.pending pool
reply_after (Err d) values pending pool = reply_at (decline_outcome d) values pending pool

-- ---- what a call of each kind answers, where it is accepted

abbrev pub Accepts : {A : Type 0} → (A → Type 0) → Outcome A → Type 0
Accepts P (accepted a) = P a
Accepts P (refused n p) = Unit {0}

abbrev pub IsOfInput : Answer → Type 0
IsOfInput (added charge) = Unit {0}
IsOfInput _ = ⊥

abbrev pub IsOfCommit : Answer → Type 0
IsOfCommit (applied charge) = Unit {0}
IsOfCommit (discarded charge) = Unit {0}
IsOfCommit _ = ⊥

abbrev pub IsOfSettle : Answer → Type 0
IsOfSettle (settled commits) = Unit {0}
IsOfSettle (spent commits) = Unit {0}
IsOfSettle _ = ⊥
