-- `deck_reading::read` meets its contract: the first two sections, the count of parts, the parts and the end. Assumes nothing.
use Prim.Native.Nat.{◌≤◌}
use mathlib.Core.Path.{◌≡◌, ◌∙◌}
use native.Mathlib.Omega.{arith}
use lib.ListN.{length, drop_of_length-le}
use lib.Seq.{drop-cons}
use Rattle.std.proofs.lemmas.Result.{err_from_is_err_and}
use Rattle.deck.proofs.Laws.Turns.{got-value, kept-below}
use Rattle.deck.proofs.Laws.DeckSteps.{no_front, no-parts, same_parts, bad-part, bytes-follow, sections-end, same-deck}
use Rattle.deck_reading.proofs.read.Goals as goal

pub returns-in_err-front : goal.returns-in_err-front
returns-in_err-front c =
    let p = err_from_is_err_and c.from_residual.result c.from_residual.ensures.1 in
    rw (p.1, p.2) (no_front c.args.form c.args.deck.now c.in_err-front.ensures)

pub returns-in_err-count : goal.returns-in_err-count
returns-in_err-count c =
    let front = c.in_ok-front.ensures in
    let p = err_from_is_err_and c.from_residual-in_err-count.result c.from_residual-in_err-count.ensures.1 in
    rw (p.1, p.2) (no-parts c.args.form c.args.deck.now front.0 c.in_ok-front.field-0.next front.1 c.in_err-count.ensures)

pub parts_at-requires : goal.parts_at-requires
parts_at-requires c =
    let front = c.in_ok-front.ensures in
    let count = c.in_ok-count.count in
    let parts = kept-below 1 17 c.args.deck.now c.in_ok-front.field-0.next count.next count.value c.in_ok-count.ensures in
    (c.in_ok-count.ensures.2, omega (arith, front.3.0, front.3.3), omega (arith, front.3.1, front.3.4), omega (arith, parts, c.requires.1))

pub returns-in_err-end : goal.returns-in_err-end
returns-in_err-end c =
    let s = c.args.deck.now in
    let front = c.in_ok-front.ensures in
    let count = c.in_ok-count.count in
    let same = same_parts c.args.form s front.0 count.value count.next front.3.0 front.3.1 in
    let p = err_from_is_err_and c.from_residual-in_err-end.result c.from_residual-in_err-end.ensures.1 in
    rw (p.1, p.2)
    (bad-part c.args.form s front.0 c.in_ok-front.field-0.next front.1 count.value count.next
    (got-value s count.next count.value c.in_ok-count.ensures)
    (same ∙ c.in_err-end.ensures))

pub returns-then-end-deck : goal.returns-then-end-deck
returns-then-end-deck c =
    let s = c.args.deck.now in
    let front = c.in_ok-front.ensures in
    let count = c.in_ok-count.count in
    let same = same_parts c.args.form s front.0 count.value count.next front.3.0 front.3.1 in
    let read = c.in_ok-end.ensures in
    bytes-follow c.args.form s front.0 c.in_ok-front.field-0.next front.1 count.value count.next
    (got-value s count.next count.value c.in_ok-count.ensures)
    read.0 c.in_ok-end.end (same ∙ read.1) _ _
    (drop-cons s c.in_ok-end.end 0 c.if-end-deck.true)

pub returns : goal.returns
returns c =
    let s = c.args.deck.now in
    let front = c.in_ok-front.ensures in
    let parts_at = c.in_ok-front.field-0.next in
    let count = c.in_ok-count.count in
    let same = same_parts c.args.form s front.0 count.value count.next front.3.0 front.3.1 in
    let read = c.in_ok-end.ensures in
    let end = c.in_ok-end.end in
    let full : end ≡ length s = omega (arith, read.2, c.if-end-deck.false) in
    let past : length s ≤ end = omega (arith, c.if-end-deck.false) in
    let whole = sections-end c.args.form s front.0 parts_at front.1 count.value count.next
    (got-value s count.next count.value c.in_ok-count.ensures)
    read.0 end (same ∙ read.1)
    (drop_of_length-le s past) in (
      record { front = front.0; parts_at = parts_at; count = count.value; parts = read.0 },
      rw full at whole,
      same-deck front.0 count.value parts_at front.3.0 front.3.1 front.3.2,
      front.3.5,
      read.3,
    )
