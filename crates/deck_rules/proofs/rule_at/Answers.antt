-- `deck_rules::rule_at` meets its contract: the events, the default action and the task, and the row that is made of them. Assumes
-- nothing.
use lib.ListN.{drop}
use Rattle.std.proofs.Common.{Ok, Err}
use Rattle.deck.proofs.Laws.Turns.{got-value, hands_on_kept}
use Rattle.deck.proofs.Laws.RuleOffsets.{rule-fault, events-fault, default-fault, rule-reads}
use Rattle.deck_rules.proofs.rule_at.Goals as goal

pub returns-in_err-count : goal.returns-in_err-count
returns-in_err-count c =
    let a = c.args in
    hands_on_kept _ _ _ _ _ c.from_residual.ensures.1 (rule-fault a.form a.own (drop a.at a.s.now) a.at c.in_err-count.ensures)

pub returns-in_err-events : goal.returns-in_err-events
returns-in_err-events c =
    let a = c.args in
    let count = c.in_ok-count.count in
    hands_on_kept _ _ _ _ _ c.from_residual-in_err-events.ensures.1
    (events-fault a.form a.own a.s.now a.at count.value count.next (got-value a.s.now count.next count.value c.in_ok-count.ensures)
    c.in_err-events.ensures)

pub returns-in_err-default : goal.returns-in_err-default
returns-in_err-default c =
    let a = c.args in
    let count = c.in_ok-count.count in
    let events = c.in_ok-events.ensures in
    hands_on_kept _ _ _ _ _ c.from_residual-in_err-default.ensures.1
    (default-fault a.form a.own a.s.now a.at count.value count.next (got-value a.s.now count.next count.value c.in_ok-count.ensures)
    events.0 c.in_ok-events.events.next events.1
    c.in_err-default.ensures)

pub returns-in_err-task : goal.returns-in_err-task
returns-in_err-task c =
    let a = c.args in
    let count = c.in_ok-count.count in
    let events = c.in_ok-events.ensures in
    let default = c.in_ok-default.ensures in
    hands_on_kept _ _ _ _ _ c.from_residual-in_err-task.ensures.1
    (rule-reads a.form a.own a.s.now a.at count.value count.next (got-value a.s.now count.next count.value c.in_ok-count.ensures)
    events.0 c.in_ok-events.events.next events.1
    default.0 c.in_ok-default.default.next c.in_ok-events.events.value c.in_ok-default.default.value
    0 0 0 0 (Err c.in_err-task.field-0.0)
    events.3 default.3 default.1
    c.in_err-task.ensures)

pub returns : goal.returns
returns c =
    let a = c.args in
    let count = c.in_ok-count.count in
    let events = c.in_ok-events.ensures in
    let default = c.in_ok-default.ensures in
    let task = c.in_ok-task.field-0.value in
    rule-reads a.form a.own a.s.now a.at count.value count.next (got-value a.s.now count.next count.value c.in_ok-count.ensures)
    events.0 c.in_ok-events.events.next events.1
    default.0 c.in_ok-default.default.next c.in_ok-events.events.value c.in_ok-default.default.value
    task.kind task.condition task.action task.targets (Ok c.in_ok-task.field-0.next)
    events.3 default.3 default.1
    c.in_ok-task.ensures
