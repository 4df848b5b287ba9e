-- Laws of outcomes: a refusal is no acceptance, and equal outcomes hold equal things. Assumes nothing.
use Rattle.std.specs.Prelude.{ℕ, ◌≡◌}
use Rattle.std.proofs.Common.{sym, ap, subst}
use Rattle.refusals.specs.Outcome.{Outcome, refused, accepted}

module _ {A : Type 0} where
  abbrev IsAccepted : Outcome A → Type 0
  IsAccepted (refused n p) = ⊥
  IsAccepted (accepted a) = Unit {0}

  abbrev answer_or : A → Outcome A → A
  answer_or a (refused n p) = a
  answer_or a (accepted b) = b

  abbrev number_of : Outcome A → ℕ
  number_of (refused n p) = n
  number_of (accepted a) = 0

  abbrev place_of : Outcome A → ℕ
  place_of (refused n p) = p
  place_of (accepted a) = 0

  pub refused≢accepted : {B : Type 0} {n p : ℕ} {a : A} → refused n p ≡ accepted a → B
  refused≢accepted e = absurd (subst IsAccepted (sym e) tt)

  pub accepted-inj : {a b : A} → accepted a ≡ accepted b → a ≡ b
  accepted-inj {a} e = ap (answer_or a) e

  pub number-inj : {n m p q : ℕ} → ◌≡◌ {A = Outcome A} (refused n p) (refused m q) → n ≡ m
  number-inj e = ap number_of e

  pub place-inj : {n m p q : ℕ} → ◌≡◌ {A = Outcome A} (refused n p) (refused m q) → p ≡ q
  place-inj e = ap place_of e
