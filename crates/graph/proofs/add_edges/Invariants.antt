-- `graph::add_edges` meets its contract: the events below the next one are done. Assumes nothing.
use Rattle.lists.specs.Laws.Iterating.{Going}
use Rattle.graph.proofs.Adding.{Adding}
use Rattle.graph.proofs.add_edges.Given as goal

abbrev pub invariant-loop-c : goal.invariant-loop-c
invariant-loop-c l = Going l.events 32 (Adding l.events l.targets l.initial.edges l.edges) l.c-iterator
