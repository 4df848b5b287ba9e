-- `charge_tables::add_row` meets its contract: the entries passed are added, the others as before. Assumes nothing.
use Rattle.charge_tables.proofs.Rows.{Adding}
use Rattle.charge_tables.proofs.add_row.Given as goal

abbrev pub invariant-loop-q : goal.invariant-loop-q
invariant-loop-q l = Adding l.parts l.memo l.parts_count l.r l.initial.sums l.sums l.q
