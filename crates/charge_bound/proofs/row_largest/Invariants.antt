-- `charge_bound::row_largest` meets its contract: most is the largest over the parts passed. Assumes nothing.
use Rattle.charge.specs.Memo.{RowLargest}
use Rattle.charge_bound.proofs.row_largest.Given as goal

abbrev pub invariant-loop-q : goal.invariant-loop-q
invariant-loop-q l = RowLargest l.parts l.memo l.q l.r l.best l.most
