-- `graph::draw` meets its contract: the edges of the carried rules below the next one are drawn. Assumes nothing.
use Rattle.lists.specs.Laws.Iterating.{Going}
use Rattle.graph.specs.Masks.{Drawn}
use Rattle.graph.proofs.draw.Given as goal

abbrev pub invariant-loop-r : goal.invariant-loop-r
invariant-loop-r l = Going l.carried l.count (λ k. Drawn l.rules l.parts l.parts_count k l.edges) l.r-iterator
