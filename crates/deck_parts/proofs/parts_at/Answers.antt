-- `deck_parts::parts_at` meets its contract. The loop's invariant: i parts were read, and the front of the table is their rows.
-- Assumes nothing.
use mathlib.Core.Path.{◌≡◌, refl}
use native.Mathlib.Omega.{arith}
use native.Mathlib.Nat.{sub-zero}
use Rattle.deck.specs.Marks.{marked_part, part_row}
use Rattle.deck.proofs.Laws.Turns.{turns-none, repeats-next, repeats-fault, repeats-end, hands-on}
use Rattle.deck.proofs.Laws.Rows.{filled_none, filled_next, filled-all}
use Rattle.deck_parts.proofs.parts_at.Goals as goal

pub loop-i-init : goal.loop-i-init
loop-i-init c = (c.requires.0, rw sub-zero (turns-none (filled_none part_row 4 _)))

pub returns-in_err-part : goal.returns-in_err-part
returns-in_err-part c =
    let a = c.args in
    hands-on _ _ _ _ _ c.from_residual.ensures.1
    (repeats-fault (marked_part a.own a.rules) _ _ a.s.now c.loop-i.next c.loop-i-test.true c.in_err-part.ensures c.loop-i.invariant.1)

pub loop-i-preserved : goal.loop-i-preserved
unfolding part_row
loop-i-preserved c =
    let a = c.args in
    let read = c.in_ok-part.ensures in (
      read.2,
      repeats-next (marked_part a.own a.rules) _ _ a.s.now c.loop-i.next c.loop-i-test.true read.1
          (λ ms f.
          filled_next part_row 4 c.loop-i.i a.table.now c.loop-i.table ms read.0 refl f
          c.in_ok-part.part.value
          c.write_row.new.tail
          read.3
          c.write_row.ensures)
          c.loop-i.invariant.1,
    )

pub returns : goal.returns
returns c =
    let a = c.args in
    let e : c.loop-i.i ≡ a.count = omega arith in
    let all = repeats-end (marked_part a.own a.rules) a.count c.loop-i.i a.s.now c.loop-i.next c.loop-i-test.false
    c.loop-i.invariant.0 c.loop-i.invariant.1 in
    (all.0, all.1, all.2, filled-all part_row 4 c.loop-i.i a.count a.table.now c.loop-i.table all.0 e all.3)
