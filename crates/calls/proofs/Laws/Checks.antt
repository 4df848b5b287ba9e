-- What check answers: the three counts and the largest charge of any carried rule, or the refusal of its deck. Assumes nothing.
use Rattle.std.specs.Prelude.{ℕ, suc, ◌≡◌, List, take}
use Rattle.std.proofs.Math.Path.{ap}
use Rattle.refusals.specs.Outcome.{Outcome, refused, accepted, ◌>>=◌, outcomes}
use Rattle.deck.specs.declared.Form.TheVariants.{New}
use Rattle.deck.specs.Limits.{limits}
use Rattle.deck.specs.Deck.{R, M, N}
use Rattle.deck.specs.Layout.{Layout}
use Rattle.charge.specs.Charge.{largest_charge}
use Rattle.charge.proofs.Laws.Largest.{LargestOf, largest-of}
use Rattle.passing.specs.Check.{passing}
use Rattle.calls.specs.Calls.{Answer, passed, check, check_as}
use Rattle.passing.proofs.Laws.Passing.{passing-prefix}

-- "Check: R, M, N and the largest charge of any carried rule (0 if none)"
pub record CheckAnswers (bytes : List ℕ) (l : Layout) : Type 0 where
  pub answer : check bytes ≡ accepted (passed (R l.deck) (M l.deck) (N l.deck) (largest_charge l.deck))
  pub largest : LargestOf l.deck (largest_charge l.deck)

-- what check makes of a deck that passes
abbrev answered : Layout → Outcome Answer
answered l = accepted (passed (R l.deck) (M l.deck) (N l.deck) (largest_charge l.deck))

module _ (bytes : List ℕ) where
  pub check-answers : (l : Layout) → passing New bytes ≡ accepted l → CheckAnswers bytes l
  unfolding check_as outcomes
  check-answers l e = record { answer = ap (λ o. o >>= answered) e; largest = largest-of l.deck }

  pub check-refuses : (n p : ℕ) → passing New bytes ≡ refused n p → check bytes ≡ refused n p
  unfolding check_as outcomes
  check-refuses n p e = ap (λ o. o >>= answered) e

  -- one byte more than the longest deck decides
  pub check-prefix : check (take (suc limits.deck) bytes) ≡ check bytes
  unfolding check_as
  check-prefix = ap (λ o. o >>= answered) (passing-prefix New bytes)
