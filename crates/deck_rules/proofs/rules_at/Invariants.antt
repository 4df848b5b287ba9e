-- `deck_rules::rules_at` meets its contract. The loop's invariant: i rules were read, and the front of the table is their rows.
-- Assumes nothing.
use Prim.Native.Nat.{◌≤◌, ◌-◌}
use lib.ListN.{length, drop}
use Rattle.deck.specs.Reader.{repeats}
use Rattle.deck.specs.Marks.{marked_rule, rule_row}
use Rattle.deck.proofs.Laws.Turns.{Turns}
use Rattle.deck.proofs.Laws.Rows.{Filled}
use Rattle.deck_rules.proofs.rules_at.Given as goal

abbrev pub invariant-loop-i : goal.invariant-loop-i
invariant-loop-i l =
    (l.next ≤ length l.s)
    × Turns (repeats l.count (marked_rule l.form l.own) (drop l.at l.s) l.at)
    (repeats (l.count - l.i) (marked_rule l.form l.own) (drop l.next l.s) l.next)
    (Filled rule_row 8 l.i l.initial.table l.table)
