-- `deck_parts::values_at` meets its contract: four bytes a value are there, or the deck ends. Assumes nothing.
use native.Mathlib.Omega.{arith}
use Rattle.deck.proofs.Laws.Turns.{values-read, values-end}
use Rattle.deck_parts.proofs.values_at.Goals as goal

pub returns-then-s-at : goal.returns-then-s-at
returns-then-s-at c = values-end _ _ _ c.requires.0 (omega arith)

pub returns : goal.returns
returns c = values-read _ _ _ (omega arith)
