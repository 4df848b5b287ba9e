-- What the converter knows of a deck that the old check passed. Assumes nothing.
use Rattle.std.specs.Prelude.{ℕ, ◌≡◌, List}
use Rattle.refusals.specs.Outcome.{accepted}
use Rattle.deck.specs.declared.Form.TheVariants.{Old}
use Rattle.deck.specs.declared.Deck as Counted
use Rattle.passing.specs.Check.{passing}
use Rattle.passing.specs.Tabled.{layout_of, deck_of}
use Rattle.conversion_bytes.specs.Decks.{Encodes}

pub record OldDeck (s : List ℕ) (k : Counted.Deck) : Type 0 where
  pub passes : passing Old s ≡ accepted (layout_of s)
  pub encodes : Encodes s k (deck_of s)
