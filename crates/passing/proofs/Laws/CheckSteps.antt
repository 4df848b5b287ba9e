-- The tests of a deck as a search makes them: 6, 7 and 8 each by the number that is found, or by its bound where none is.
-- Assumes nothing.
use Rattle.std.specs.Prelude.{ℕ, ◌<◌, ◌≡◌, refl, not, List, [], ◌∷◌, Result, Ok, Err}
use Rattle.std.proofs.Common.{sym, ap, ◌∙◌, subst}
use Rattle.lists.specs.Lists.{first_or}
use Rattle.lists.specs.Laws.First.{first-none, first_found}
use Rattle.refusals.specs.Outcome.{refused, accepted, outcomes}
use Rattle.refusals.specs.Numbers.{opens_outside, cyclic_graph, overcharged}
use Rattle.deck.specs.declared.Form.{Form}
use Rattle.deck.specs.Deck.{Deck, R, N}
use Rattle.deck.specs.Layout.{Layout, read}
use Rattle.graph.specs.Graph.{edge, reaches_itself, cyclic}
use Rattle.graph.specs.FirstCycle.{first_cycle}
use Rattle.charge.specs.Charge.{carried_charges, above_bound, largest_charge}
use Rattle.charge.specs.Answer.{bound_by, bound_of}
use Rattle.passing.specs.Check.{within, opening_values, outside, passing}
use Rattle.passing.proofs.Laws.Passing.{later_tests, later-clean, passing-judges}

-- the lowest part that opens outside its limit, or N where none does
unfoldable pub first_outside : Deck → ℕ
first_outside d = first_or (N d) (outside d)

none-outside : (d : Deck) → first_outside d ≡ N d → outside d ≡ []
unfolding first_outside outside
none-outside d h = first-none (λ p. not (within d p (opening_values d))) (N d) h

none-cyclic : (d : Deck) → first_cycle d ≡ R d → cyclic d ≡ []
unfolding first_cycle cyclic
none-cyclic d h = first-none (reaches_itself (R d) (edge d)) (R d) h

-- a bound is one of the two, with its number
abbrev charge_of : Result ℕ ℕ → ℕ
charge_of (Ok n) = n
charge_of (Err p) = 0

abbrev place_of : Result ℕ ℕ → ℕ
place_of (Ok n) = 0
place_of (Err p) = p

abbrev IsAbove : Result ℕ ℕ → Type 0
IsAbove (Ok n) = ⊥
IsAbove (Err p) = Unit {0}

within-bound : (l : List ℕ) (n k : ℕ) → bound_by l n ≡ Ok k → (l ≡ []) × (n ≡ k)
unfolding bound_by
within-bound [] n k e = (refl, ap charge_of e)
within-bound (x ∷ xs) n k e = absurd (subst IsAbove e tt)

pub above-bound : (l : List ℕ) (n p : ℕ) → bound_by l n ≡ Err p → (ps : List ℕ) × (l ≡ p ∷ ps)
unfolding bound_by
above-bound [] n p e = absurd (subst IsAbove (sym e) tt)
above-bound (x ∷ xs) n p e = (xs, ap (λ y. y ∷ xs) (ap place_of e))

-- bytes that were read
module _ (f : Form) (bytes : List ℕ) (l : Layout) (e : read f bytes ≡ accepted l) where
  abbrev d : Deck
  d = l.deck

  pub passing-6 : (p : ℕ) → first_outside d ≡ p → p < N d → passing f bytes ≡ refused opens_outside p
  unfolding first_outside later_tests outcomes
  passing-6 p h k = passing-judges f bytes l e ∙ rw (first_found (N d) p (outside d) h k).1

  module _ (six : first_outside d ≡ N d) where
    pub passing-7 : (c : ℕ) → first_cycle d ≡ c → c < R d → passing f bytes ≡ refused cyclic_graph c
    unfolding first_cycle later_tests outcomes
    passing-7 c h k = passing-judges f bytes l e ∙ rw (none-outside d six, (first_found (R d) c (cyclic d) h k).1)

    module _ (seven : first_cycle d ≡ R d) where
      pub passing-8 : (p : ℕ) → bound_of d ≡ Err p → passing f bytes ≡ refused overcharged p
      unfolding bound_of later_tests outcomes
      passing-8 p h =
          passing-judges f bytes l e
          ∙ rw (none-outside d six, none-cyclic d seven, (above-bound (above_bound (carried_charges d)) (largest_charge d) p h).1)

      pub passing-whole : (n : ℕ) → bound_of d ≡ Ok n → (passing f bytes ≡ accepted l) × (largest_charge d ≡ n)
      unfolding bound_of
      passing-whole n h =
          let b = within-bound (above_bound (carried_charges d)) (largest_charge d) n h in
          (passing-judges f bytes l e ∙ later-clean l (none-outside d six) (none-cyclic d seven) b.0, b.1)
