-- `deck_reading::offset` meets its contract. Assumes nothing.
use mathlib.Core.Path.{sym}
use native.Mathlib.Omega.{arith}
use borrow.Author.Rules.{rules}
use Rattle.deck.specs.Sections.{offset_of}
use Rattle.deck.proofs.Laws.Stretches.{offset-end}
use Rattle.deck_reading.proofs.offset.Goals as goal

pub returns-in-0 : goal.returns-in-0
unfolding offset_of
returns-in-0 c = search rules

pub returns-in-1 : goal.returns-in-1
unfolding offset_of
returns-in-1 c = search rules

pub returns-in-2 : goal.returns-in-2
unfolding offset_of
returns-in-2 c = search rules

pub returns-in_default : goal.returns-in_default
returns-in_default c =
    let a = c.args in
    sym (offset-end a.deck.rules_at a.deck.parts_at a.end a.number (omega arith))
