-- `deck_rules::none_at` meets its contract: the count, and what a new deck says of it. Assumes nothing.
use mathlib.Core.Path.{sym, refl}
use mathlib.Core.List.{[]}
use native.Mathlib.Omega.{arith}
use lib.ListN.{drop}
use Rattle.lists.specs.Lists.{lists}
use Rattle.lists.specs.Laws.Bits.{mask-empty}
use Rattle.deck.specs.Deck.{targets}
use Rattle.deck.proofs.Laws.Turns.{got-value, hands_on_kept}
use Rattle.deck.proofs.Laws.Forms.{default-count, default_none, default-some}
use Rattle.deck_rules.proofs.none_at.Goals as goal

pub returns-in_err-count : goal.returns-in_err-count
returns-in_err-count c =
    let a = c.args in
    hands_on_kept _ _ _ _ _ c.from_residual.ensures.1 (default-count a.own (drop a.at a.s.now) a.at c.in_err-count.ensures)

pub returns-then-count-ne0 : goal.returns-then-count-ne0
returns-then-count-ne0 c =
    let a = c.args in
    let count = c.in_ok-count.count in
    default-some a.own (drop a.at a.s.now) a.at (got-value a.s.now count.next count.value c.in_ok-count.ensures)
    (omega (arith, c.if-count-ne0.true))

pub returns : goal.returns
unfolding lists targets
returns c =
    let a = c.args in
    let count = c.in_ok-count.count in
    let read = c.in_ok-count.ensures in (
      [],
      default_none a.own (drop a.at a.s.now) a.at (got-value a.s.now count.next count.value read) c.if-count-ne0.false,
      read.2,
      sym ((mask-empty []).1 refl),
    )
