-- Cases: what makes a state a good one. Assumes nothing.
use Rattle.std.specs.Prelude.{ℕ, ◌≡◌, refl, true, false, List, [], ◌∷◌, ◌++◌, map, ℤ, pos, negsuc}
use Rattle.lists.specs.Lists.{lists}
use Rattle.expression.specs.Syntax.{literal, constant}
use Rattle.deck.specs.Deck.{Deck, decks}
use Rattle.charge.specs.Charge.{charges}
use Rattle.pool.specs.Updates.{updates}
use Rattle.pool.specs.Places.{zeros, pools}
use Rattle.pool.specs.States.{Memory, good, good_length, states}

-- two channels and one part; rule 0 goes from a to b
abbrev deck : Deck
deck =
    record {
      labels = 97 ∷ 98 ∷ [];
      rules = record {
        events = 0 ∷ [];
        default = [];
        everywhere = false;
        condition = constant true;
        action = record { target = 1; value = literal (pos 0) } ∷ [];
      }
          ∷ [];
      parts = record { opening = pos 0 ∷ pos 0 ∷ []; carried = 0 ∷ []; limit = constant true } ∷ [];
    }

-- how many are pending, and the pool
abbrev memory : ℕ → List ℤ → Memory
memory n pool = record { state = record { values = zeros 512; pending = n }; pool = pool }

-- the update b = 5; and a = 5, b = 6 in one order and in the other
abbrev b5 : List ℤ
b5 = pos 0 ∷ pos 1 ∷ pos 1 ∷ pos 5 ∷ zeros 6

abbrev a5b6 : List ℤ
a5b6 = pos 0 ∷ pos 2 ∷ pos 0 ∷ pos 5 ∷ pos 1 ∷ pos 6 ∷ zeros 4

abbrev b6a5 : List ℤ
b6a5 = pos 0 ∷ pos 2 ∷ pos 1 ∷ pos 6 ∷ pos 0 ∷ pos 5 ∷ zeros 4

pub good-cases : map (good deck)
    (memory 1 (b5 ++ zeros 10)
    ∷ memory 1 (b5 ++ zeros 9 ++ pos 1 ∷ [])  -- a number behind the pending places
    ∷ memory 2 (b5 ++ b5)  -- two equal updates
    ∷ memory 2 (a5b6 ++ b6a5 ++ zeros 20)  -- two lists of pairs, with a charge of 2 each
    ∷ memory 2 (a5b6 ++ b6a5 ++ zeros 10)  -- the same with three places
    ∷ memory 1 (pos 0 ∷ pos 1 ∷ negsuc 0 ∷ zeros 7)  -- channel -1
    ∷ memory 4294967295 (zeros 10)  -- more pending than places
    ∷ [])
    ≡ true ∷ false ∷ false ∷ true ∷ false ∷ false ∷ false ∷ []
unfolding lists decks charges updates pools states
good-cases = refl

pub length-cases : map good_length (0 ∷ 10 ∷ 15 ∷ 655350 ∷ 655360 ∷ []) ≡ false ∷ true ∷ false ∷ true ∷ false ∷ []
unfolding lists states
length-cases = refl
