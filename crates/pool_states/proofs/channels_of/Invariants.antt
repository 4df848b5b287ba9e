-- `pool_states::channels_of` meets its contract. The loop's invariant: with the channels of the pairs from number i on, the set is
-- that of all pairs. Assumes nothing.
use Rattle.pool_states.proofs.Collecting.{Collected}
use Rattle.pool_states.proofs.channels_of.Given as goal

abbrev pub invariant-loop-i : goal.invariant-loop-i
invariant-loop-i l = Collected l.place l.count l.mask l.i
