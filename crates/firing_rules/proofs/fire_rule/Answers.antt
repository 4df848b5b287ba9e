-- `firing_rules::fire_rule` meets its contract: by the rule's kind and the half it adds nothing, to the part itself, or to the others.
-- Assumes nothing.
use lib.Dec.{lit<}
use Rattle.charge.proofs.Laws.Tables.{Field}
use Rattle.firing_queue.specs.Laws.Queue.{offered-none, offered-as}
use Rattle.firing_rules.specs.Reactions.{Tasked}
use Rattle.firing_rules.specs.Laws.Sent.{tasked, field, is_wide, is-here, first-wide, first-here, second-wide, second-here}
use Rattle.firing_rules.proofs.fire_rule.Goals as goal
use Rattle.firing_rules.proofs.fire_rule.Goals.{Start}

task : (c : Start) → let a = c.args in
    Tasked a.rig.now.deck.now a.rig.now.counts a.rig.now.rules.now a.values.now a.turn.part a.turn.part a.turn.rule
task c = let r = c.requires in tasked r.0 r.2 r.3 r.3 r.4

kind : (c : Start) → Field c.args.rig.now.rules.now c.args.turn.rule 3
kind c = field (task c) 3 (lit< tt)

pub overflow_mul-everywhere : goal.overflow_mul-everywhere
overflow_mul-everywhere c = (kind (goal.at.overflow_mul-everywhere c).Start).row

pub overflow_add-everywhere : goal.overflow_add-everywhere
overflow_add-everywhere c = (kind (goal.at.overflow_add-everywhere c).Start).place

pub offset_bounds-rig-rule : goal.offset_bounds-rig-rule
offset_bounds-rig-rule c = (kind (goal.at.offset_bounds-rig-rule c).Start).bytes

pub bounds-rig-rule : goal.bounds-rig-rule
bounds-rig-rule c = (kind (goal.at.bounds-rig-rule c).Start).inside

pub returns-then-everywhere : goal.returns-then-everywhere
returns-then-everywhere c =
    offered-as
    (first-wide _ _ _ _ c.in-Here.is (c.requires.5 c.args.turn.rule)
    (is_wide (task (goal.at.returns-then-everywhere c).Start) c.if-everywhere.true))
    (offered-none _ c.requires.1.ready.memo)

pub fire_to-requires : goal.fire_to-requires
fire_to-requires c = (c.requires.0, c.requires.1, c.requires.2, c.requires.3, c.requires.3, c.requires.4)

pub returns-else-everywhere : goal.returns-else-everywhere
returns-else-everywhere c =
    offered-as
    (first-here _ _ _ _ c.in-Here.is (c.requires.5 c.args.turn.rule)
    (is-here (task (goal.at.returns-else-everywhere c).Start) c.if-everywhere.false))
    c.fire_to.ensures

pub returns-then-not-everywhere : goal.returns-then-not-everywhere
returns-then-not-everywhere c =
    offered-as
    (second-here _ _ _ _ c.in-Others.is (is-here (task (goal.at.returns-then-not-everywhere c).Start) c.if-not-everywhere.true))
    (offered-none _ c.requires.1.ready.memo)

pub fire_others-requires : goal.fire_others-requires
fire_others-requires c = (c.requires.0, c.requires.1, c.requires.2, c.requires.3, c.requires.4)

pub returns-else-not-everywhere : goal.returns-else-not-everywhere
returns-else-not-everywhere c =
    offered-as
    (second-wide _ _ _ _ c.in-Others.is (is_wide (task (goal.at.returns-else-not-everywhere c).Start) c.if-not-everywhere.false))
    c.fire_others.ensures
