-- Cases on tables: the diamond, a path back, and a rule that nobody carries. Assumes nothing.
use Rattle.std.specs.Prelude.{ℕ, ◌≡◌, refl, List, [], ◌∷◌, ◌++◌}
use Rattle.lists.specs.Lists.{lists, first_or}
use Rattle.lists.specs.Bits.{bit}
use Rattle.deck.specs.Deck.{decks}
use Rattle.deck.specs.Shape.{shape_of, shapes}
use Rattle.graph.specs.Graph.{graphs}
use Rattle.graph.specs.FirstCycle.{first_cycle}

-- a row of the table of rules: events, targets of the default action, targets of the action
abbrev row : ℕ → ℕ → ℕ → List ℕ
row events default action = events ∷ default ∷ action ∷ 0 ∷ 0 ∷ 0 ∷ 0 ∷ 0 ∷ []

-- four channels, four rules, and one part that carries some of them
abbrev first_of : List ℕ → ℕ → ℕ
first_of rules carried = first_cycle (shape_of rules (carried ∷ 0 ∷ 0 ∷ 0 ∷ []) 4 4 1)

pub first-cases : first_of (row 1 0 2 ++ (row 1 0 4 ++ (row 2 8 0 ++ row 4 0 8))) 15
    ∷ first_of (row 1 0 2 ++ (row 2 4 0 ++ (row 4 0 8 ++ row 8 0 2))) 15
    ∷ first_of (row 1 0 2 ++ (row 2 1 0 ++ (row 4 0 4 ++ row 0 0 0))) 5
    ∷ []
    ≡ 4 ∷ 1 ∷ 2 ∷ []
unfolding bit lists decks shapes graphs first_or first_cycle
first-cases = refl
