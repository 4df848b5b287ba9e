-- `pool_index::find` meets its contract. The loop's invariant: the way from the slot in hand is the rest of the whole way, and comes to
-- each place that has these numbers. Assumes nothing.
use Rattle.pool_index.proofs.Searching.{Searching, steps}
use Rattle.pool_index.proofs.find.Given as goal

abbrev pub invariant-loop-i : goal.invariant-loop-i
invariant-loop-i l = Searching l.used l.pool l.row l.index l.s l.i l.d

abbrev pub decreases-loop-i : goal.decreases-loop-i
decreases-loop-i l = steps l.i
