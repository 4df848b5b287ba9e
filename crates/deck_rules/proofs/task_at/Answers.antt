-- `deck_rules::task_at` meets its contract: the kind, then the condition and the action with as many far channels as the kind says.
-- Assumes nothing.
use Prim.Native.Nat.{◌≤◌}
use native.Mathlib.Omega.{arith}
use native.Mathlib.Nat.{mul-le-mul}
use lib.ListN.{drop}
use Rattle.std.proofs.Common.{Ok, Err}
use Rattle.deck.proofs.Laws.Turns.{got-value, kept-below, hands_on_kept}
use Rattle.deck.proofs.Laws.RuleOffsets.{task-fault, condition-fault, task-reads}
use Rattle.deck_rules.proofs.task_at.Goals as goal

pub returns-in_err-kind : goal.returns-in_err-kind
returns-in_err-kind c =
    let a = c.args in
    hands_on_kept _ _ _ _ _ c.from_residual.ensures.1 (task-fault a.own (drop a.at a.s.now) a.at c.in_err-kind.ensures)

pub overflow_mul-far : goal.overflow_mul-far
overflow_mul-far c =
    let small : c.in_ok-kind.field-0.value ≤ 1 = omega (arith, kept-below _ _ _ _ _ _ c.in_ok-kind.ensures) in
    let own : c.args.own ≤ 32 = c.requires in
    omega (arith, mul-le-mul own small)

pub returns-in_err-action : goal.returns-in_err-action
returns-in_err-action c =
    let a = c.args in
    let kind = c.in_ok-kind.field-0 in
    hands_on_kept _ _ _ _ _ c.from_residual-in_err-action.ensures.1
    (condition-fault a.own a.s.now a.at kind.value kind.next (got-value a.s.now kind.next kind.value c.in_ok-kind.ensures)
    c.in_err-action.ensures)

pub returns-in_err-targets : goal.returns-in_err-targets
returns-in_err-targets c =
    let a = c.args in
    let kind = c.in_ok-kind.field-0 in
    let condition = c.in_ok-action.ensures in
    hands_on_kept _ _ _ _ _ c.from_residual-in_err-targets.ensures.1
    (task-reads a.own a.s.now a.at kind.value kind.next (got-value a.s.now kind.next kind.value c.in_ok-kind.ensures)
    condition.0 c.in_ok-action.action 0 (Err c.in_err-targets.field-0.0) condition.1
    c.in_err-targets.ensures)

pub returns : goal.returns
returns c =
    let a = c.args in
    let kind = c.in_ok-kind.field-0 in
    let condition = c.in_ok-action.ensures in
    let targets = c.in_ok-targets.field-0 in
    task-reads a.own a.s.now a.at kind.value kind.next (got-value a.s.now kind.next kind.value c.in_ok-kind.ensures)
    condition.0 c.in_ok-action.action targets.value (Ok targets.next) condition.1
    c.in_ok-targets.ensures
