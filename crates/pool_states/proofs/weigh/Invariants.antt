-- `pool_states::weigh` meets its contract. The loop's invariant: the first k places fit and are different, the total is the charge of
-- their updates, the memo is right, and the index has them. Assumes nothing.
use Rattle.deck.specs.Shape.{shape}
use Rattle.pool_states.proofs.Adding.{Adding}
use Rattle.pool_states.proofs.weigh.Given as goal

abbrev pub invariant-loop-k : goal.invariant-loop-k
invariant-loop-k l = Adding (shape l.rig.rules.now l.rig.parts.now l.rig.counts) l.pending l.pool l.initial.index l.memo l.index l.total l.k
