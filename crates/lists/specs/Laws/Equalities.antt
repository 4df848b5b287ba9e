-- The tests for equality hold exactly for equal things. Assumes nothing.
use Rattle.std.specs.Prelude.{◌≡◌, Bool, true, false, ℕ, eqb, ℤ, pos, negsuc}
use Rattle.std.proofs.Math.Path.{refl, ap₂}
use Rattle.std.proofs.Common.{sym, ap, ◌∙◌, eqb-true, eq-eqb, ne_eqb}
use Rattle.std.proofs.lemmas.Bool.{false≢true, eqb-false}
use mathlib.Core.List.{List, [], ◌∷◌}
use Rattle.lists.specs.Lists.{lists, eq_z, eq_list}
use Rattle.lists.specs.Laws.Booleans.{and_both, and_left, and_right}

pub eqb-sym : (a b : ℕ) → eqb a b ≡ eqb b a
eqb-sym a b = go (eqb b a) refl
  where
    go : (t : Bool) → eqb b a ≡ t → eqb a b ≡ eqb b a
    go true e = eq-eqb a b (sym (eqb-true b a e)) ∙ sym e
    go false e = ne_eqb a b (λ q. eqb-false b a e (sym q)) ∙ sym e

pub eq_z-refl : (z : ℤ) → eq_z z z ≡ true
unfolding lists
eq_z-refl (pos n) = eq-eqb n n refl
eq_z-refl (negsuc n) = eq-eqb n n refl

pub eq_z-true : (a b : ℤ) → eq_z a b ≡ true → a ≡ b
unfolding lists
eq_z-true (pos a) (pos b) e = ap pos (eqb-true a b e)
eq_z-true (pos a) (negsuc b) e = absurd (false≢true e)
eq_z-true (negsuc a) (pos b) e = absurd (false≢true e)
eq_z-true (negsuc a) (negsuc b) e = ap negsuc (eqb-true a b e)

module _ {A : Type 0} (f : A → A → Bool) where
  pub eq_list-refl : ((x : A) → f x x ≡ true) → (l : List A) → eq_list f l l ≡ true
  unfolding lists
  eq_list-refl h [] = refl
  eq_list-refl h (x ∷ l) = and_both (h x) (eq_list-refl h l)

  pub eq_list-true : ((x y : A) → f x y ≡ true → x ≡ y) → (l m : List A) → eq_list f l m ≡ true → l ≡ m
  unfolding lists
  eq_list-true h [] [] e = refl
  eq_list-true h [] (y ∷ m) e = absurd (false≢true e)
  eq_list-true h (x ∷ l) [] e = absurd (false≢true e)
  eq_list-true h (x ∷ l) (y ∷ m) e =
      ap₂ (λ a b. a ∷ b) (h x y (and_left (f x y) (eq_list f l m) e)) (eq_list-true h l m (and_right (f x y) (eq_list f l m) e))
