-- Cases: what is easy to get wrong in the firing. Assumes nothing.
use Rattle.std.specs.Prelude.{ℕ, ◌≡◌, refl, Bool, true, false, ℤ, pos}
use mathlib.Core.List.{List, [], ◌∷◌, map, flat_map}
use Rattle.lists.specs.Lists.{lists}
use Rattle.expression.specs.Syntax.{Num, Truth, literal, own, far, two, constant, compared}
use Rattle.expression.specs.Values.{evaluation}
use Rattle.expression.specs.declared.Arith.TheVariants.{Difference}
use Rattle.expression.specs.declared.Compare.TheVariants.{Less}
use Rattle.deck.specs.Deck.{Action, Part, Deck, decks}
use Rattle.charge.specs.Charge.{charges}
use Rattle.pool.specs.Updates.{Update, value_at, updates}
use Rattle.pool.specs.Places.{pools}
use Rattle.pool.specs.States.{Machine}
use Rattle.passing.specs.Check.{opening_values, checks}
use Rattle.firing.specs.Firing.{Commit, set_and_fire, committed, firing, may_take, next_place}

abbrev sets : ℕ → Num → Action
sets t e = record { target = t; value = e } ∷ []

abbrev less : Num → Num → Truth
less a b = compared Less a b

-- a part with this value of b, which keeps b below 5
abbrev part_of : ℕ → List ℕ → Part
part_of b carried = record { opening = pos 0 ∷ pos b ∷ pos 0 ∷ []; carried = carried; limit = less (own 1) (literal (pos 5)) }

-- Channels a, b, c. Rule 0 sets c to a by default and, at every other part whose b is below a, b to a - b; rule 1 sets c to a.
-- Part 0 carries both; parts 1 and 2 open with b = 5 and b = 7.
abbrev deck : Deck
deck =
    record {
      labels = 97 ∷ 98 ∷ 99 ∷ [];
      rules = record {
        events = 0 ∷ [];
        default = sets 2 (own 0);
        everywhere = true;
        condition = less (far 1) (own 0);
        action = sets 1 (two Difference (own 0) (far 1));
      }
          ∷ record {
            events = 0 ∷ [];
            default = [];
            everywhere = false;
            condition = constant true;
            action = sets 2 (own 0);
          }
          ∷ [];
      parts = part_of 0 (0 ∷ 1 ∷ []) ∷ part_of 5 [] ∷ part_of 7 [] ∷ [];
    }

-- part 0's channel a is set, from the opening values
abbrev set_a : ℕ → Machine
set_a v =
    set_and_fire deck 0 (record { channel = 0; value = pos v } ∷ []) (record { values = opening_values deck; pending = [] })

-- an update as its part, and its channels and values
abbrev pub shown : Update → List ℤ
shown u = pos u.part ∷ flat_map (λ a. pos a.channel ∷ a.value ∷ []) u.pairs

-- Set to 6: c = 6 at part 0, once, and b = 1 at part 1. Set to what it is: nothing
pub firing-cases : map (λ x. map shown x.pending) (set_a 6 ∷ set_a 0 ∷ [])
    ≡ ((pos 0 ∷ pos 2 ∷ pos 6 ∷ []) ∷ (pos 1 ∷ pos 1 ∷ pos 1 ∷ []) ∷ []) ∷ [] ∷ []
unfolding lists evaluation decks charges updates pools checks firing
firing-cases = refl

-- a commit as what it did, part 1's b after it, and what is left pending
pub record Shown : Type 0 where
  pub applied : Bool
  pub b : ℤ
  pub left : List (List ℤ)

abbrev pub seen : Commit → Shown
seen c = record { applied = c.applied; b = value_at c.machine.values 1 1; left = map shown c.machine.pending }

-- the commit of place 1 takes b = 1 to part 1, which is outside its limit until then, and leaves place 0
pub commit-case : seen (committed deck 1 (set_a 6)) ≡ record { applied = true; b = pos 1; left = (pos 0 ∷ pos 2 ∷ pos 6 ∷ []) ∷ [] }
unfolding lists evaluation decks charges updates pools checks firing
commit-case = refl

-- of two pending updates places 0 and 1 may be taken and no other, and a settle takes place 0
pub place-cases : (map (may_take (set_a 6).pending) (0 ∷ 1 ∷ 2 ∷ []) ≡ true ∷ true ∷ false ∷ []) × (next_place (set_a 6).pending ≡ 0)
unfolding lists evaluation decks charges updates pools checks firing
place-cases = (refl, refl)
