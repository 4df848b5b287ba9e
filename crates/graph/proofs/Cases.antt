-- Cases: the diamond, a path back, and a rule that nobody carries. Assumes nothing.
use Rattle.std.specs.Prelude.{ℕ, ◌≡◌, refl, true, false, List, [], ◌∷◌, map, pos}
use Rattle.lists.specs.Lists.{lists}
use Rattle.expression.specs.Syntax.{literal, constant}
use Rattle.deck.specs.Deck.{Action, Rule, Deck, decks}
use Rattle.graph.specs.Graph.{cyclic, graphs}

abbrev sets : ℕ → Action
sets t = record { target = t; value = literal (pos 0) } ∷ []

-- a rule from one channel to another by its action, the one after it by its default action
abbrev by_action : ℕ → ℕ → Rule
by_action a b = record { events = a ∷ []; default = []; everywhere = true; condition = constant true; action = sets b }

abbrev by_default : ℕ → ℕ → Rule
by_default a b = record { events = a ∷ []; default = sets b; everywhere = false; condition = constant true; action = [] }

-- four channels, and one part that carries these rules
abbrev deck_of : List Rule → List ℕ → Deck
deck_of rules carried =
    record {
      labels = 97 ∷ 98 ∷ 99 ∷ 100 ∷ [];
      rules = rules;
      parts = record { opening = []; carried = carried; limit = constant true } ∷ [];
    }

pub graph-cases : map cyclic
    (deck_of (by_action 0 1 ∷ by_action 0 2 ∷ by_default 1 3 ∷ by_action 2 3 ∷ []) (0 ∷ 1 ∷ 2 ∷ 3 ∷ [])  -- the diamond
    ∷ deck_of (by_action 0 1 ∷ by_default 1 2 ∷ by_action 2 3 ∷ by_action 3 1 ∷ []) (0 ∷ 1 ∷ 2 ∷ 3 ∷ [])  -- 1 to 2 to 3 to 1
    ∷ deck_of (by_action 0 1 ∷ by_default 1 0 ∷ by_action 2 2 ∷ []) (0 ∷ 2 ∷ [])  -- rule 1 is carried by nobody
    ∷ [])
    ≡ [] ∷ (1 ∷ 2 ∷ 3 ∷ []) ∷ (2 ∷ []) ∷ []
unfolding lists decks graphs
graph-cases = refl
