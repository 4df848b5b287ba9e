-- `deck_rules::assignment_at` meets its contract: the target, whether it stands among the targets so far, and then the expression.
-- Assumes nothing.
use native.Mathlib.Omega.{arith}
use mathlib.Core.Path.{sym, ◌∙◌}
use lib.ListN.{drop}
use borrow.Author.Tests.{eq-eqb, ne_eqb}
use Rattle.std.proofs.Common.{Ok, Err}
use Rattle.lists.specs.Bits.{bit}
use Rattle.deck.specs.Marks.{scope_of}
use Rattle.deck.proofs.Laws.Turns.{got-value, kept-below, hands_on_kept}
use Rattle.deck.proofs.Laws.Offsets.{assignment-fault, assignment-repeated, assignment-value}
use Rattle.deck_rules.proofs.assignment_at.Goals as goal

pub returns-in_err-t : goal.returns-in_err-t
unfolding scope_of
returns-in_err-t c ts same =
    let a = c.args in
    hands_on_kept _ _ _ _ _ c.from_residual.ensures.1
    (assignment-fault (scope_of a.own a.far) ts (drop a.at a.s.now) a.at c.in_err-t.ensures)

pub overflow_shr-targets : goal.overflow_shr-targets
overflow_shr-targets c = omega (arith, kept-below _ _ _ _ _ _ c.in_ok-t.ensures, c.requires)

pub returns-then-targets-t-eq1 : goal.returns-then-targets-t-eq1
unfolding scope_of bit
returns-then-targets-t-eq1 c ts same =
    let a = c.args in
    let got = got-value a.s.now c.in_ok-t.t.next c.in_ok-t.t.value c.in_ok-t.ensures in
    assignment-repeated (scope_of a.own a.far) ts (drop a.at a.s.now) a.at got
    (sym (same _) ∙ eq-eqb _ 1 c.if-targets-t-eq1.true)

pub returns-in_err-next : goal.returns-in_err-next
unfolding scope_of bit
returns-in_err-next c ts same =
    let a = c.args in
    let t = c.in_ok-t.t in
    hands_on_kept _ _ _ _ _ c.from_residual-in_err-next.ensures.1
    (assignment-value (scope_of a.own a.far) ts a.s.now a.at t.value t.next (Err c.in_err-next.field-0.0)
    (got-value a.s.now t.next t.value c.in_ok-t.ensures)
    (sym (same _) ∙ ne_eqb _ 1 c.if-targets-t-eq1.false)
    c.in_err-next.ensures)

pub returns : goal.returns
unfolding scope_of bit
returns c ts same =
    let a = c.args in
    let t = c.in_ok-t.t in
    assignment-value (scope_of a.own a.far) ts a.s.now a.at t.value t.next (Ok c.in_ok-next.next)
    (got-value a.s.now t.next t.value c.in_ok-t.ensures)
    (sym (same _) ∙ ne_eqb _ 1 c.if-targets-t-eq1.false)
    c.in_ok-next.ensures
