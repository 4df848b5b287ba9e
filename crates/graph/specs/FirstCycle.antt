-- 7: "the place is the lowest channel that can reach itself". Assumes nothing.
use Rattle.std.specs.Prelude.{ℕ, ◌<◌, ◌≡◌, Option, Some, None}
use Rattle.lists.specs.Lists.{first_or}
use Rattle.deck.specs.Deck.{Deck, R}
use Rattle.graph.specs.Graph.{cyclic}

-- the lowest channel that can reach itself, or R where none can
unfoldable pub first_cycle : Deck → ℕ
first_cycle d = first_or (R d) (cyclic d)

-- how the code answers with such a number c, which is n where there is none
abbrev pub FoundBelow : ℕ → ℕ → Option ℕ → Type 0
FoundBelow n c (Some x) = (c ≡ x) × (x < n)
FoundBelow n c None = c ≡ n
