-- `deck_fields::expression_end` meets its contract: the length byte, the bytes that it counts, and then their judgement. Assumes nothing.
use native.Mathlib.Omega.{arith}
use native.Mathlib.Nat.{add-sub_cancel_left}
use mathlib.Core.Path.{sym, ◌∙◌}
use Rattle.deck.specs.Marks.{scope_of}
use Rattle.deck.proofs.Laws.Turns.{number-reads}
use Rattle.deck.proofs.Laws.Offsets.{expression-good}
use Rattle.deck_fields.proofs.expression_end.Goals as goal

pub returns-then-is_whole : goal.returns-then-is_whole
returns-then-is_whole c =
    let a = c.args in
    let sc = scope_of a.own a.far in
    let at = c.in_ok-get.ensures.lookup.3 in
    let n = c.from-n.ensures ∙ at.1 0 in
    rw n
    (expression-good a.truth sc a.s.now a.at _ _ (number-reads _ _ _ _ at.0 (omega arith) (omega arith)) (omega arith)
    (rw (add-sub_cancel_left, n) at (sym c.is_whole.ensures ∙ c.if-is_whole.true)))
