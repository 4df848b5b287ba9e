-- What was read, if anything, has a property. Assumes nothing.
use Rattle.std.specs.Prelude.{ℕ, ◌≡◌, refl, Bool, true, false}
use Rattle.std.proofs.Common.{subst}
use Rattle.expression.specs.Reading.{Read, got, nothing, only_if, then}

pub data Holds {A : Type 0} (P : A → ℕ → Type 0) : Read A → Type 0 where
  held : {a : A} {n : ℕ} → P a n → Holds P (got a n)
  none : Holds P nothing

module _ {A : Type 0} {P : A → ℕ → Type 0} where
  pub holds : {a : A} {n : ℕ} {r : Read A} → Holds P r → r ≡ got a n → P a n
  holds {a} {n} h e = of (subst (Holds P) e h)
    where
      of : Holds P (got a n) → P a n
      of (held p) = p

  pub only_if-holds : {t : Bool} {r : Read A} → (t ≡ true → Holds P r) → Holds P (only_if t r)
  only_if-holds {t = true} h = h refl
  only_if-holds {t = false} h = none

  pub then-holds : {B : Type 0} {Q : B → ℕ → Type 0} {r : Read A} (k : A → ℕ → Read B) → Holds P r
      → ((a : A) (n : ℕ) → P a n → Holds Q (k a n)) → Holds Q (then r k)
  then-holds k (held {a = a} {n = n} p) q = q a n p
  then-holds k none q = none
