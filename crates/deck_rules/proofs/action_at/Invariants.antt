-- `deck_rules::action_at` meets its contract. The loop's invariant: i assignments were read, and `value` is the set of their targets.
-- Assumes nothing.
use Prim.Native.Nat.{◌≤◌, ◌-◌}
use lib.ListN.{length, drop}
use Rattle.deck.specs.Layout.{action}
use Rattle.deck.specs.Marks.{scope_of}
use Rattle.deck.proofs.Laws.ActionTurns.{Assigning}
use Rattle.deck_rules.proofs.action_at.Given as goal

abbrev pub invariant-loop : goal.invariant-loop
invariant-loop l =
    (l.next ≤ length l.s)
    × Assigning (scope_of l.own l.far) (action (scope_of l.own l.far) (drop l.at l.s) l.at) (l.end - l.counter) l.s l.next l.value
