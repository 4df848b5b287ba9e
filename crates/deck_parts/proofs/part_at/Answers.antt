-- `deck_parts::part_at` meets its contract: opening values, count, carried rules and limit, one after the other. Assumes nothing.
use native.Mathlib.Numerals.{add-one}
use Rattle.std.proofs.Common.{Ok, Err}
use Rattle.deck.proofs.Laws.Turns.{got-value, hands_on_kept}
use Rattle.deck.proofs.Laws.PartSteps.{no-values, no-count, no-carried, part-read}
use Rattle.deck_parts.proofs.part_at.Goals as goal

pub returns-in_err-count_at : goal.returns-in_err-count_at
returns-in_err-count_at c =
    let a = c.args in
    hands_on_kept _ _ _ _ _ c.from_residual.ensures.1 (no-values a.own a.rules a.s.now a.at c.in_err-count_at.ensures)

pub returns-in_err-count : goal.returns-in_err-count
returns-in_err-count c =
    let a = c.args in
    let values = c.in_ok-count_at.ensures in
    hands_on_kept _ _ _ _ _ c.from_residual-in_err-count.ensures.1
    (no-count a.own a.rules a.s.now a.at values.0 c.in_ok-count_at.count_at values.1
    (rw (add-one a.rules) at c.in_err-count.ensures))

pub returns-in_err-carried : goal.returns-in_err-carried
returns-in_err-carried c =
    let a = c.args in
    let values = c.in_ok-count_at.ensures in
    let count = c.in_ok-count.count in
    let read = rw (add-one a.rules) at c.in_ok-count.ensures in
    hands_on_kept _ _ _ _ _ c.from_residual-in_err-carried.ensures.1
    (no-carried a.own a.rules a.s.now a.at values.0 c.in_ok-count_at.count_at values.1 count.value count.next
    (got-value a.s.now count.next count.value read)
    c.in_err-carried.ensures)

pub returns-in_err-next : goal.returns-in_err-next
returns-in_err-next c =
    let a = c.args in
    let values = c.in_ok-count_at.ensures in
    let count = c.in_ok-count.count in
    let read = rw (add-one a.rules) at c.in_ok-count.ensures in
    let carried = c.in_ok-carried.ensures in
    hands_on_kept _ _ _ _ _ c.from_residual-in_err-next.ensures.1
    (part-read a.own a.rules a.s.now a.at values.0 c.in_ok-count_at.count_at values.1 count.value count.next
    (got-value a.s.now count.next count.value read)
    carried.0 c.in_ok-carried.carried.next carried.1 c.in_ok-carried.carried.value (Err c.in_err-next.field-0.0) carried.3
    c.in_err-next.ensures)

pub returns : goal.returns
returns c =
    let a = c.args in
    let values = c.in_ok-count_at.ensures in
    let count = c.in_ok-count.count in
    let read = rw (add-one a.rules) at c.in_ok-count.ensures in
    let carried = c.in_ok-carried.ensures in
    part-read a.own a.rules a.s.now a.at values.0 c.in_ok-count_at.count_at values.1 count.value count.next
    (got-value a.s.now count.next count.value read)
    carried.0 c.in_ok-carried.carried.next carried.1 c.in_ok-carried.carried.value (Ok c.in_ok-next.next) carried.3
    c.in_ok-next.ensures
