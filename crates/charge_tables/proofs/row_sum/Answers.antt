-- `charge_tables::row_sum` meets its contract: the entries passed are added up. Assumes nothing.
use Prim.Native.Nat.{◌+◌}
use mathlib.Core.Path.{sym, ap, ◌∙◌}
use native.Mathlib.Omega.{arith}
use lib.ListN.{get_or}
use Rattle.lists.specs.Laws.Steps.{sum_of-start, sum_of-next}
use Rattle.charge_tables.proofs.row_sum.Goals as goal

pub loop-q-init : goal.loop-q-init
loop-q-init c = (omega arith, sym (sum_of-start _))

pub loop-q-preserved : goal.loop-q-preserved
loop-q-preserved c =
    let i = c.loop-q in (
      omega (arith, c.requires.0.each i.q),
      ap (λ x. x + get_or c.args.row.now i.q 0) i.invariant.1 ∙ sym (sum_of-next _ i.q),
    )
