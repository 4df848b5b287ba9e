-- Tests as statements: a disjunction, and when two tests are the same. Assumes nothing.
use Rattle.std.specs.Prelude.{◌≡◌, refl, ◌↔◌, ◌⊎◌, Bool, true, false, ◌||◌}
use Rattle.std.proofs.Common.{sym, ⊎_elim}
use Rattle.std.proofs.lemmas.Bool.{false≢true}
use Rattle.lists.specs.Laws.Booleans.{or_left, or_right, or_cases, not-true→false}

pub or-iff : (a b : Bool) → ((a || b) ≡ true) ↔ ((a ≡ true) ⊎ (b ≡ true))
or-iff a b = (or_cases a, ⊎_elim (or_left b) (or_right a))

-- each holds if the other does
pub same_test : (a b : Bool) → (a ≡ true → b ≡ true) → (b ≡ true → a ≡ true) → a ≡ b
same_test true b f g = sym (f refl)
same_test false b f g = sym (not-true→false b (λ t. false≢true (g t)))
