-- `pool::both_zero` meets its contract. The loop's invariant, for each list: no bit is set so far and the numbers from i on are zeros
-- exactly if all are. Assumes nothing.
use mathlib.Core.Path.{◌≡◌}
use mathlib.Core.Bool.{◌&&◌}
use lib.Dec.{eqb}
use mir.Syntax.{w32}
use mir.Val.{of_z}
use lib.ListN.{drop}
use Rattle.lists.specs.Lists.{all_of}
use Rattle.pool.specs.Places.{is_zero}
use Rattle.pool.proofs.both_zero.Given as goal

abbrev pub invariant-loop-i : goal.invariant-loop-i
invariant-loop-i l =
    ((eqb (of_z w32 l.first) 0 && all_of is_zero (drop l.i l.a)) ≡ all_of is_zero l.a)
    × ((eqb (of_z w32 l.second) 0 && all_of is_zero (drop l.i l.b)) ≡ all_of is_zero l.b)
