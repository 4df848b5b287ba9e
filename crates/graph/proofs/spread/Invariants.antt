-- `graph::spread` meets its contract: the edges from the channels below the next one are added. Assumes nothing.
use Rattle.lists.specs.Laws.Iterating.{Going}
use Rattle.graph.proofs.Spreading.{Spreading}
use Rattle.graph.proofs.spread.Given as goal

abbrev pub invariant-loop-b : goal.invariant-loop-b
invariant-loop-b l = Going l.fresh l.channels (Spreading l.channels l.edges l.fresh l.seen l.set) l.b-iterator
