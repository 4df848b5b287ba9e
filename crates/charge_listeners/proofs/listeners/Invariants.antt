-- `charge_listeners::listeners` meets its contract: the rules that listen to a channel of the mask below the next one are in the set.
-- Assumes nothing.
use Rattle.lists.specs.Laws.Iterating.{Going}
use Rattle.charge_listeners.proofs.Columns.{Collected}
use Rattle.charge_listeners.proofs.listeners.Given as goal

abbrev pub invariant-loop-c : goal.invariant-loop-c
invariant-loop-c l = Going l.mask 32 (Collected l.rules l.mask l.set) l.c-iterator
