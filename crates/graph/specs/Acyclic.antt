-- What is known of a deck whose rules assign known channels, and of one without cycles. Assumes nothing.
use Rattle.std.specs.Prelude.{ℕ, ◌<◌, ◌≡◌, true}
use Rattle.deck.specs.Deck.{Deck, R}
use Rattle.graph.specs.Graph.{Reaches, assigns, edge}

-- every target is a channel of the deck
pub record KnownTargets (d : Deck) : Type 0 where
  pub known : (r b : ℕ) → assigns d r b ≡ true → b < R d

-- no channel can reach itself
abbrev pub Acyclic : Deck → Type 0
Acyclic d = (a : ℕ) → Reaches (edge d) a a → ⊥
