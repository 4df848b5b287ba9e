-- `charge_listeners::note_rule` meets its contract: the rule is noted for the events below the next one. Assumes nothing.
use Rattle.lists.specs.Laws.Iterating.{Going}
use Rattle.charge_listeners.proofs.Columns.{Noting}
use Rattle.charge_listeners.proofs.note_rule.Given as goal

abbrev pub invariant-loop-c : goal.invariant-loop-c
invariant-loop-c l = Going l.events 32 (Noting l.events l.r l.initial.rules l.rules) l.c-iterator
