-- `deck_parts::parts_at` meets its contract. The loop's invariant: i parts were read, and the front of the table is their rows.
-- Assumes nothing.
use Prim.Native.Nat.{◌≤◌, ◌-◌}
use lib.ListN.{length, drop}
use Rattle.deck.specs.Reader.{repeats}
use Rattle.deck.specs.Marks.{marked_part, part_row}
use Rattle.deck.proofs.Laws.Turns.{Turns}
use Rattle.deck.proofs.Laws.Rows.{Filled}
use Rattle.deck_parts.proofs.parts_at.Given as goal

abbrev pub invariant-loop-i : goal.invariant-loop-i
invariant-loop-i l =
    (l.next ≤ length l.s)
    × Turns (repeats l.count (marked_part l.own l.rules) (drop l.at l.s) l.at)
    (repeats (l.count - l.i) (marked_part l.own l.rules) (drop l.next l.s) l.next)
    (Filled part_row 4 l.i l.initial.table l.table)
