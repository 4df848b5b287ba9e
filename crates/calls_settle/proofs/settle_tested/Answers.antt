-- `calls_settle::settle_tested` meets its contract: the budget is too large, or the turns are made. Assumes nothing.
use mathlib.Core.Path.{sym, ap, ◌∙◌}
use mathlib.Core.List.{[]}
use native.Mathlib.Omega.{arith}
use borrow.Author.Rules.{rules}
use Rattle.refusals.specs.Declined.{decline_outcome}
use Rattle.refusals.specs.Outcome.{accepted}
use Rattle.calls.specs.Answers.{reply_at}
use Rattle.calls_turns.specs.Laws.Beginnings.{turns-begin}
use Rattle.calls_settle.specs.Laws.SettleTurns.{turns-settle}
use Rattle.calls_settle.specs.Laws.SettleAnswers.{settle-over, settle-reply}
use Rattle.calls_settle.proofs.settle_tested.Goals as goal

pub returns-then-budget-gt-LARGEST_BUDGET : goal.returns-then-budget-gt-LARGEST_BUDGET
returns-then-budget-gt-LARGEST_BUDGET c =
    let a = c.args in
    ap (λ d. reply_at (decline_outcome d) a.values.now a.pending.count a.pool.now) c.unplaced.ensures
    ∙ sym (settle-over _ _ _ _ c.requires.accepted c.if-budget-gt-LARGEST_BUDGET.true)

pub take_turns-turns-requires : goal.take_turns-turns-requires
take_turns-turns-requires c = turns-begin c.requires _ (omega (arith, c.next_place-first.ensures []))

pub overflow_cast-result : goal.overflow_cast-result
overflow_cast-result c = omega (arith, c.take_turns-turns.ensures.few)

pub returns : goal.returns
returns c =
    settle-reply c.requires (omega (arith, c.if-budget-gt-LARGEST_BUDGET.false)) (search rules)
    (turns-settle c.next_place-first.ensures c.take_turns-turns.ensures (ap accepted c.response.ensures))
