-- `calls_commit::commit_tested` meets its contract: the place is not pending, or it is committed. Assumes nothing.
use mathlib.Core.Path.{◌≡◌, refl, sym, ap, ◌∙◌}
use native.Mathlib.Omega.{arith}
use borrow.Author.Rules.{rules}
use Rattle.refusals.specs.Declined.{decline_outcome}
use Rattle.refusals.specs.Outcome.{accepted}
use Rattle.calls.specs.Answers.{reply_at}
use Rattle.calls_turns.specs.Laws.Beginnings.{turns-begin}
use Rattle.calls_commit.specs.Laws.CommitAnswers.{commit-no-place, commit-made, commit-pending, commit-below, commit-as}
use Rattle.calls_commit.proofs.commit_tested.Goals as goal

pub returns-then-not-may_take : goal.returns-then-not-may_take
returns-then-not-may_take c =
    let w = c.requires in
    let a = c.args in
    ap (λ d. reply_at (decline_outcome d) a.values.now a.pending.count a.pool.now) c.unplaced.ensures
    ∙ sym (commit-no-place _ _ _ _ w.accepted (sym (c.may_take.ensures _ (commit-pending w)) ∙ c.if-not-may_take.true))

pub take_turns-turn-requires : goal.take_turns-turn-requires
take_turns-turn-requires c =
    let w = c.requires in
    let taken = sym (c.may_take.ensures _ (commit-pending w)) ∙ c.if-not-may_take.false in
    turns-begin w _ (omega (arith, commit-below w _ taken))

pub overflow_cast-result : goal.overflow_cast-result
overflow_cast-result c = omega (arith, c.take_turns-turn.ensures.few)

pub returns : goal.returns
returns c =
    let w = c.requires in
    let taken = sym (c.may_take.ensures _ (commit-pending w)) ∙ c.if-not-may_take.false in
    commit-made _ _ _ w.accepted w.loaded
    (commit-as w (commit-below w _ taken) c.take_turns-turn.ensures (ap accepted c.response.ensures)) (search rules) taken
