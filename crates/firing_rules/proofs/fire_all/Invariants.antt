-- `firing_rules::fire_all` meets its contract. The loop's invariant: the rules of the set before the next one had their turn. Assumes
-- nothing.
use Rattle.lists.specs.Laws.Iterating.{Going}
use Rattle.passing.specs.Tabled.{deck_of}
use Rattle.firing_queue.specs.Queue.{held_of}
use Rattle.firing_rules.specs.Reactions.{fired_in}
use Rattle.firing_rules.specs.Laws.Halves.{Half}
use Rattle.firing_rules.proofs.fire_all.Given as goal

abbrev pub invariant-loop-rule : goal.invariant-loop-rule
invariant-loop-rule l =
    let r = l.rig in
    Going l.set r.counts.rules
    (λ n. Half r.rules.now r.parts.now r.counts (deck_of r.deck.now) (fired_in (deck_of r.deck.now) l.values l.part l.half) l.part l.set n
    (held_of l.initial.index l.initial.pool) l.initial.out l.memo (held_of l.index l.pool) l.out)
    l.rule-iterator
