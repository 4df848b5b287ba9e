-- `charge_bound::row_largest` meets its contract: most is the largest over the parts passed. Assumes nothing.
use mathlib.Core.Path.{sym, ◌∙◌}
use Rattle.charge_bound.proofs.LargestEntry.{largest-yes, largest-no}
use Rattle.charge_bound.proofs.row_largest.Goals as goal
use Rattle.charge_bound.proofs.row_largest.Goals.{then-carries, else-carries}

pub loop-q-preserved : goal.loop-q-preserved
loop-q-preserved c =
    let i = c.loop-q.invariant in
    elim c.if-carries.branch [
      | then-carries w ↦
          rw w.most-is (largest-yes i _ (sym c.carries.ensures ∙ w.if-carries.true) w.max-most.ensures)
      | else-carries w ↦ rw w.most-is (largest-no i (sym c.carries.ensures ∙ w.if-carries.false))
    ]
