-- The invariant of `charge_tables::put_row`: the entries passed are written, the others as before. Assumes nothing.
use Rattle.charge_tables.proofs.Rows.{Putting}
use Rattle.charge_tables.proofs.put_row.Given as goal

abbrev pub invariant-loop-p : goal.invariant-loop-p
invariant-loop-p l = Putting l.parts_count l.r l.kind l.first l.second l.initial.memo l.memo l.p
