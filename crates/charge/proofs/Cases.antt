-- Cases: what is easy to get wrong in a charge. Assumes nothing.
use Rattle.std.specs.Prelude.{ℕ, ◌≡◌, refl, Bool, true, false, List, [], ◌∷◌, map, pos}
use Rattle.lists.specs.Lists.{lists}
use Rattle.expression.specs.Syntax.{literal, constant}
use Rattle.deck.specs.Deck.{Action, Rule, Part, Deck, decks}
use Rattle.charge.specs.Charge.{update_charge, carried_charges, above_bound, charges}

abbrev sets : ℕ → Action
sets t = record { target = t; value = literal (pos 0) } ∷ []

abbrev rule_of : List ℕ → Action → Bool → Action → Rule
rule_of events default everywhere action =
    record { events = events; default = default; everywhere = everywhere; condition = constant true; action = action }

abbrev part_of : List ℕ → Part
part_of carried = record { opening = []; carried = carried; limit = constant true }

-- Rule 0 listens to a and b, sets c here by default, and d at all other parts. Rule 1 listens to d, and has no action at all.
-- Rule 2 listens to d and sets c there. Part 0 carries rule 0, part 1 rules 1 and 2, part 2 nothing; nobody carries rule 3.
abbrev deck : Deck
deck =
    record {
      labels = 97 ∷ 98 ∷ 99 ∷ 100 ∷ [];
      rules = rule_of (0 ∷ 1 ∷ []) (sets 2) true (sets 3)
          ∷ rule_of (3 ∷ []) [] false []
          ∷ rule_of (3 ∷ []) [] false (sets 2)
          ∷ rule_of (3 ∷ []) (sets 2) false (sets 2)
          ∷ [];
      parts = part_of (0 ∷ []) ∷ part_of (1 ∷ 2 ∷ []) ∷ part_of [] ∷ [];
    }

-- an update of a and b at part 0 counts rule 0 once: 1 + 1 at part 0, 1 + 1 at part 1, 1 at part 2
pub charge-cases : update_charge deck 0 (0 ∷ 1 ∷ []) ∷ update_charge deck 1 (0 ∷ []) ∷ map (λ x. x.charge) (carried_charges deck)
    ≡ 5 ∷ 1 ∷ 4 ∷ 0 ∷ 1 ∷ []
unfolding lists decks charges
charge-cases = refl

pub bound-case : above_bound
    (record { place = 3; charge = 65535 } ∷ record { place = 64; charge = 65536 } ∷ record { place = 70; charge = 70000 } ∷ [])
    ≡ 64 ∷ 70 ∷ []
unfolding lists charges
bound-case = refl
