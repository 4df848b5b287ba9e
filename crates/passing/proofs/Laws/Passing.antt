-- The tests of a deck one after the other: reading first, then 6, 7 and 8, each only where those before it found nothing.
-- Assumes nothing.
use Rattle.std.specs.Prelude.{ℕ, suc, ◌≡◌, refl, List, [], ◌∷◌, take}
use Rattle.std.proofs.Common.{sym, ◌∙◌, subst}
use Rattle.std.proofs.Math.Path.{ap}
use Rattle.refusals.specs.Outcome.{Outcome, refused, accepted, ◌>>=◌, ◌>>◌, require_none, outcomes}
use Rattle.refusals.specs.Laws.Outcomes.{refused≢accepted, accepted-inj}
use Rattle.refusals.specs.Numbers.{opens_outside, cyclic_graph, overcharged}
use Rattle.deck.specs.declared.Form.{Form}
use Rattle.deck.specs.Limits.{longest}
use Rattle.deck.specs.Layout.{Layout, read}
use Rattle.deck.proofs.Laws.Prefix.{read-prefix}
use Rattle.graph.specs.Graph.{cyclic}
use Rattle.charge.specs.Charge.{carried_charges, above_bound}
use Rattle.passing.specs.Check.{outside, passing, checks}

-- ---- the tests behind reading

-- 6, 7 and 8 of a deck that was read
unfoldable pub later_tests : Layout → Outcome Layout
later_tests l =
    require_none (outside l.deck) opens_outside
    >> (require_none (cyclic l.deck) cyclic_graph >> (require_none (above_bound (carried_charges l.deck)) overcharged >> accepted l))

-- what they come to: nothing is found, or the first place that the first of them finds
pub data TestsFind (l : Layout) (o : Outcome Layout) : Type 0 where
  clean : outside l.deck ≡ [] → cyclic l.deck ≡ [] → above_bound (carried_charges l.deck) ≡ [] → o ≡ accepted l → TestsFind l o
  found-6 : (p : ℕ) (ps : List ℕ) → outside l.deck ≡ p ∷ ps → o ≡ refused opens_outside p → TestsFind l o
  found-7 : (p : ℕ) (ps : List ℕ) → outside l.deck ≡ [] → cyclic l.deck ≡ p ∷ ps → o ≡ refused cyclic_graph p → TestsFind l o
  found-8 : (p : ℕ) (ps : List ℕ) → outside l.deck ≡ [] → cyclic l.deck ≡ [] → above_bound (carried_charges l.deck) ≡ p ∷ ps
      → o ≡ refused overcharged p → TestsFind l o

pub later-find : (l : Layout) → TestsFind l (later_tests l)
unfolding later_tests outcomes
later-find l = six (outside l.deck) refl
  where
    eight : outside l.deck ≡ [] → cyclic l.deck ≡ [] → (c : List ℕ) → above_bound (carried_charges l.deck) ≡ c
        → TestsFind l (later_tests l)
    eight e f [] g = clean e f g (rw (e, f, g))
    eight e f (p ∷ ps) g = found-8 p ps e f g (rw (e, f, g))

    seven : outside l.deck ≡ [] → (b : List ℕ) → cyclic l.deck ≡ b → TestsFind l (later_tests l)
    seven e [] f = eight e f (above_bound (carried_charges l.deck)) refl
    seven e (p ∷ ps) f = found-7 p ps e f (rw (e, f))

    six : (a : List ℕ) → outside l.deck ≡ a → TestsFind l (later_tests l)
    six [] e = seven e (cyclic l.deck) refl
    six (p ∷ ps) e = found-6 p ps e (rw e)

-- nothing to be found, so accepted
pub later-clean : (l : Layout) → outside l.deck ≡ [] → cyclic l.deck ≡ [] → above_bound (carried_charges l.deck) ≡ []
    → later_tests l ≡ accepted l
unfolding later_tests outcomes
later-clean l a b c = rw (a, b, c)

passing-is : (f : Form) (bytes : List ℕ) → passing f bytes ≡ (read f bytes >>= later_tests)
unfolding checks later_tests
passing-is f bytes = refl

module _ (f : Form) (bytes : List ℕ) where
  pub passing-judges : (l : Layout) → read f bytes ≡ accepted l → passing f bytes ≡ later_tests l
  unfolding outcomes
  passing-judges l e = passing-is f bytes ∙ ap (λ o. o >>= later_tests) e

  -- where reading refuses, the deck is refused with the same number and place
  pub passing-reads : (n p : ℕ) → read f bytes ≡ refused n p → passing f bytes ≡ refused n p
  unfolding outcomes
  passing-reads n p e = passing-is f bytes ∙ ap (λ o. o >>= later_tests) e

  -- what passes was read, and no test found anything
  pub passing-clean : (l : Layout) → passing f bytes ≡ accepted l
      → (read f bytes ≡ accepted l) × (outside l.deck ≡ []) × (cyclic l.deck ≡ []) × (above_bound (carried_charges l.deck) ≡ [])
  passing-clean l e = of (read f bytes) refl
    where
      Clean : Layout → Type 0
      Clean k =
          (read f bytes ≡ accepted k) × (outside k.deck ≡ []) × (cyclic k.deck ≡ []) × (above_bound (carried_charges k.deck) ≡ [])

      by : (k : Layout) → read f bytes ≡ accepted k → later_tests k ≡ accepted l → TestsFind k (later_tests k) → Clean l
      by k r q (clean a b c h) = subst Clean (accepted-inj (sym h ∙ q)) (r, a, b, c)
      by k r q (found-6 p ps a f) = refused≢accepted (sym f ∙ q)
      by k r q (found-7 p ps a b f) = refused≢accepted (sym f ∙ q)
      by k r q (found-8 p ps a b c f) = refused≢accepted (sym f ∙ q)

      of : (o : Outcome Layout) → read f bytes ≡ o → Clean l
      of (refused n p) r = refused≢accepted (sym (passing-reads n p r) ∙ e)
      of (accepted k) r = by k r (sym (passing-judges k r) ∙ e) (later-find k)

-- ---- one byte more than the longest deck decides

pub passing-prefix : (f : Form) (bytes : List ℕ) → passing f (take (suc (longest f)) bytes) ≡ passing f bytes
passing-prefix f bytes =
    passing-is f (take (suc (longest f)) bytes) ∙ ap (λ o. o >>= later_tests) (read-prefix f bytes) ∙ sym (passing-is f bytes)
