-- `charge_tables::row_sum` meets its contract: the entries passed are added up. Assumes nothing.
use Prim.Native.Nat.{◌*◌, ◌≤◌}
use mathlib.Core.Path.{◌≡◌}
use lib.ListN.{get_or}
use Rattle.lists.specs.Lists.{sum_of, below}
use Rattle.charge_tables.proofs.row_sum.Given as goal

abbrev pub invariant-loop-q : goal.invariant-loop-q
invariant-loop-q l = (l.total ≤ 4194305 * l.q) × (l.total ≡ sum_of (λ k. get_or l.row k 0) (below l.q))
