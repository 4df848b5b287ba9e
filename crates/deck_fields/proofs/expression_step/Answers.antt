-- `deck_fields::expression_step` meets its contract: the length byte, the bytes that it counts, and then their judgement. Assumes nothing.
use native.Mathlib.Omega.{arith}
use native.Mathlib.Nat.{add-sub_cancel_left}
use lib.ListN.{drop}
use Rattle.deck.specs.Marks.{scope_of}
use Rattle.deck.proofs.Laws.Turns.{got-value, hands-on}
use Rattle.deck.proofs.Laws.Offsets.{expression-fault, expression-ends, expression-searched}
use Rattle.deck_fields.proofs.expression_step.Goals as goal

pub returns-in_err-n : goal.returns-in_err-n
returns-in_err-n c =
    let a = c.args in
    hands-on _ _ _ _ _ c.from_residual.ensures.1
    (expression-fault a.truth (scope_of a.own a.far) (drop a.at a.s.now) a.at c.in_err-n.ensures)

pub returns-then-s-from : goal.returns-then-s-from
returns-then-s-from c =
    let a = c.args in
    let read = c.in_ok-n.ensures in
    expression-ends a.truth (scope_of a.own a.far) a.s.now a.at c.in_ok-n.field-0.value c.in_ok-n.field-0.next
    (got-value a.s.now c.in_ok-n.field-0.next c.in_ok-n.field-0.value read)
    read.2
    (omega (arith, read.2, c.if-s-from.true))

pub returns : goal.returns
unfolding scope_of
returns c =
    let a = c.args in
    let n = c.in_ok-n.field-0 in
    let read = c.in_ok-n.ensures in
    expression-searched a.truth (scope_of a.own a.far) a.s.now a.at n.value n.next (got-value a.s.now n.next n.value read)
    (omega (arith, read.2, c.if-s-from.false))
    _
    (rw add-sub_cancel_left at c.expression_fault.ensures)
