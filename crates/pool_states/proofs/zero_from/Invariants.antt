-- `pool_states::zero_from` meets its contract. The loop's invariant: the numbers from i on are zeros exactly if all are. Assumes
-- nothing.
use mathlib.Core.Path.{◌≡◌}
use lib.ListN.{drop}
use Rattle.lists.specs.Lists.{all_of}
use Rattle.pool.specs.Places.{is_zero}
use Rattle.pool_states.proofs.zero_from.Given as goal

abbrev pub invariant-loop-i : goal.invariant-loop-i
invariant-loop-i l = all_of is_zero (drop l.i l.place) ≡ all_of is_zero (drop l.from l.place)
