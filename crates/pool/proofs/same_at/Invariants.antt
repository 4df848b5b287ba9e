-- `pool::same_at` meets its contract. The loop's invariant: the numbers from i on are equal exactly if all are. Assumes
-- nothing.
use mathlib.Core.Path.{◌≡◌}
use lib.ListN.{take, drop}
use Rattle.lists.specs.Lists.{eq_z, eq_list}
use Rattle.pool.proofs.same_at.Given as goal

abbrev pub invariant-loop-i : goal.invariant-loop-i
invariant-loop-i l = eq_list eq_z (drop l.i (take 10 (drop l.at l.pool))) (drop l.i l.update) ≡ eq_list eq_z (take 10 (drop l.at l.pool)) l.update
