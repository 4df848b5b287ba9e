-- `firing_rules::fire_others` meets its contract. The loop's invariant: the other parts below `to` had their turn. Assumes nothing.
use Rattle.deck.specs.Deck.{rule_at}
use Rattle.passing.specs.Tabled.{deck_of}
use Rattle.deck.specs.Shape.{shape}
use Rattle.firing_queue.specs.Queue.{held_of, Offered}
use Rattle.firing_rules.specs.Reactions.{adds}
use Rattle.firing_rules.specs.Laws.Turns.{turns, other}
use Rattle.firing_rules.proofs.fire_others.Given as goal

abbrev pub invariant-loop-to : goal.invariant-loop-to
invariant-loop-to l =
    let r = l.rig in
    Offered (shape r.rules.now r.parts.now r.counts)
    (turns (other l.from) (λ q. adds l.values l.from q (rule_at (deck_of r.deck.now) l.rule)) l.to)
    (held_of l.initial.index l.initial.pool) l.initial.out l.memo (held_of l.index l.pool) l.out
