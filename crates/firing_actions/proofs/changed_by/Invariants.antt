-- `firing_actions::changed_by` meets its contract. The loop's invariant: the pairs before i are compared. Assumes nothing.
use Rattle.firing.proofs.Laws.Pairs.{Comparing}
use Rattle.firing_actions.proofs.changed_by.Given as goal

abbrev pub invariant-loop-i : goal.invariant-loop-i
invariant-loop-i l = Comparing l.part l.pairs l.values l.back l.mask l.i
