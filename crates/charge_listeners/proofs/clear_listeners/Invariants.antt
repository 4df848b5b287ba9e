-- `charge_listeners::clear_listeners` meets its contract: the channels below `c` are done. Assumes nothing.
use Rattle.charge_listeners.proofs.Columns.{Clearing}
use Rattle.charge_listeners.proofs.clear_listeners.Given as goal

abbrev pub invariant-loop-c : goal.invariant-loop-c
invariant-loop-c l = Clearing l.initial.rules l.rules l.c
