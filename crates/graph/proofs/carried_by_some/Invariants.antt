-- `graph::carried_by_some` meets its contract: the rules that a part below `p` carries are in the set. Assumes nothing.
use Rattle.graph.specs.Masks.{CarriedIs}
use Rattle.graph.proofs.carried_by_some.Given as goal

abbrev pub invariant-loop-p : goal.invariant-loop-p
invariant-loop-p l = CarriedIs l.parts l.p l.set
