-- `pool_holes::gather` meets its contract. The loop's invariant: the places before `from` are looked at, and the updates that stood
-- there are in the first `to` places. Assumes nothing.
use Rattle.pool_holes.proofs.Laws.Gathering.{Passing}
use Rattle.pool_holes.proofs.gather.Given as goal

abbrev pub invariant-loop-from : goal.invariant-loop-from
invariant-loop-from l = Passing l.initial.pool l.first l.last l.used l.pool l.from l.to
