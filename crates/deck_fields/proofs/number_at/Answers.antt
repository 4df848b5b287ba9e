-- `deck_fields::number_at` meets its contract: where the deck ends, where the byte is too small or too large, and where it is read.
-- Assumes nothing.
use mathlib.Core.Path.{◌∙◌}
use native.Mathlib.Omega.{arith}
use Rattle.deck.proofs.Laws.Turns.{number-ends, number_small, number-large, number-reads}
use Rattle.deck_fields.proofs.number_at.Goals.{then-value-lo-via-then-value-lo, then-value-lo-via-else-value-lo+then-hi-value}
use Rattle.deck_fields.proofs.number_at.Goals as goal

pub returns-in_default : goal.returns-in_default
returns-in_default c = number-ends _ _ _ _ c.in_default.ensures.lookup.3

pub returns-then-value-lo : goal.returns-then-value-lo
returns-then-value-lo c =
    let at = c.in-Some.ensures.lookup.3 in
    let e = c.from-value.ensures ∙ at.1 0 in
    elim c.then-value-lo.branch [
      | then-value-lo-via-then-value-lo w ↦ number_small _ _ _ _ at.0 (omega (arith, e, w.if-value-lo.true))
      | then-value-lo-via-else-value-lo+then-hi-value w ↦
          number-large _ _ _ _ at.0 (omega (arith, e, w.if-value-lo.false)) (omega (arith, e, w.if-hi-value.true))
    ]

pub returns : goal.returns
returns c =
    let at = c.in-Some.ensures.lookup.3 in
    let e = c.from-value.ensures ∙ at.1 0 in (
      _,
      number-reads _ _ _ _ at.0 (omega (arith, e, c.if-value-lo.false)) (omega (arith, e, c.if-hi-value.false)),
      omega (arith, at.0),
      e,
    )
