-- Laws of tests: what a conjunction or a disjunction says of its sides. Assumes nothing.
use Rattle.std.specs.Prelude.{◌≡◌, refl, ◌⊎◌, Bool, true, false, ◌&&◌, ◌||◌}
use Rattle.std.proofs.Common.{sym, ap, ◌∙◌, inl, inr, true≢false}
use Rattle.std.proofs.lemmas.Bool.{false≢true}

pub or_left : {a : Bool} (b : Bool) → a ≡ true → (a || b) ≡ true
or_left b e = ap (λ x. x || b) e

pub or_right : (a : Bool) {b : Bool} → b ≡ true → (a || b) ≡ true
or_right true e = refl
or_right false e = e

pub or_cases : (a : Bool) {b : Bool} → (a || b) ≡ true → (a ≡ true) ⊎ (b ≡ true)
or_cases true e = inl refl
or_cases false e = inr e

pub or-false-both : {a b : Bool} → a ≡ false → b ≡ false → (a || b) ≡ false
or-false-both {a} {b} e f = ap (λ x. x || b) e ∙ f

pub or-false-left : (a b : Bool) → (a || b) ≡ false → a ≡ false
or-false-left true b e = e
or-false-left false b e = refl

pub or-false-right : (a b : Bool) → (a || b) ≡ false → b ≡ false
or-false-right true b e = absurd (true≢false e)
or-false-right false b e = e

pub and_both : {a b : Bool} → a ≡ true → b ≡ true → (a && b) ≡ true
and_both {a} {b} e f = ap (λ x. x && b) e ∙ f

pub and_left : (a b : Bool) → (a && b) ≡ true → a ≡ true
and_left true b e = refl
and_left false b e = e

pub and_right : (a b : Bool) → (a && b) ≡ true → b ≡ true
and_right true b e = e
and_right false b e = absurd (false≢true e)

-- a conjunction of many tests, taken apart and put together
module _ (a b c d : Bool) where
  abbrev pub Four : Type 0
  Four = (a ≡ true) × (b ≡ true) × (c ≡ true) × (d ≡ true)

  pub four : (a && b && c && d) ≡ true → Four
  four h =
      let h3 = and_left (a && b && c) d h in
      let h2 = and_left (a && b) c h3 in
      (and_left a b h2, and_right a b h2, and_right (a && b) c h3, and_right (a && b && c) d h)

  pub from-four : Four → (a && b && c && d) ≡ true
  from-four p = and_both (and_both (and_both p.0 p.1) p.2) p.3

module _ (a b c d e : Bool) where
  abbrev pub Five : Type 0
  Five = (a ≡ true) × (b ≡ true) × (c ≡ true) × (d ≡ true) × (e ≡ true)

  pub five : (a && b && c && d && e) ≡ true → Five
  five h =
      let front = four a b c d (and_left (a && b && c && d) e h) in
      (front.0, front.1, front.2, front.3, and_right (a && b && c && d) e h)

  pub from-five : Five → (a && b && c && d && e) ≡ true
  from-five p = and_both (from-four a b c d (p.0, p.1, p.2, p.3)) p.4

pub true-or-false : (a : Bool) → (a ≡ true) ⊎ (a ≡ false)
true-or-false true = inl refl
true-or-false false = inr refl

-- a test has one value
pub contradiction : {a : Bool} {A : Type 0} → a ≡ true → a ≡ false → A
contradiction p q = absurd (false≢true (sym q ∙ p))

pub not-true→false : (a : Bool) → (a ≡ true → ⊥) → a ≡ false
not-true→false true h = absurd (h refl)
not-true→false false h = refl
