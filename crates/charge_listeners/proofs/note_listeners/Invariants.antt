-- `charge_listeners::note_listeners` meets its contract: the carried rules below the next one are noted. Assumes nothing.
use Rattle.lists.specs.Laws.Iterating.{Going}
use Rattle.charge.specs.Memo.{Noted, OthersKept}
use Rattle.charge_listeners.proofs.note_listeners.Given as goal

abbrev pub invariant-loop-r : goal.invariant-loop-r
invariant-loop-r l =
    OthersKept l.initial.rules l.rules × Going l.carried l.count (λ k. Noted l.rules l.parts k l.parts_count) l.r-iterator
