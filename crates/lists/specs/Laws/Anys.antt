-- Laws of `any`: over joined, mapped and filtered lists, and where one element alone can pass. Assumes nothing.
use Rattle.std.specs.Prelude.{ℕ, ◌≡◌, Bool, ◌&&◌, ◌||◌, cond, eqb}
use Rattle.std.proofs.Math.Path.{refl, sym, ap, ap₂}
use Rattle.std.proofs.Common.{◌∙◌, eqb-true}
use Rattle.std.proofs.Math.Bool.{true, false, or_assoc}
use mathlib.Core.List.{List, [], ◌∷◌, ◌++◌, map, flat_map}
use Rattle.std.proofs.lemmas.Bool.{eqb-false}
use Rattle.lists.specs.Lists.{lists, any_of, keep, select, member}
use Rattle.lists.specs.Laws.Booleans.{not-true→false, contradiction}
use Rattle.lists.specs.Laws.Members.{any_of-found, any_of-intro}

module _ {A : Type 0} (f : A → Bool) where
  pub any_of-append : (l m : List A) → any_of f (l ++ m) ≡ (any_of f l || any_of f m)
  unfolding lists
  any_of-append [] m = refl
  any_of-append (x ∷ l) m = ap (λ b. f x || b) (any_of-append l m) ∙ sym (or_assoc (f x) (any_of f l) (any_of f m))

  pub any_of-select : (g : A → Bool) (l : List A) → any_of f (select g l) ≡ any_of (λ x. g x && f x) l
  unfolding lists
  any_of-select g [] = refl
  any_of-select g (x ∷ l) = go (g x) (any_of-select g l)
    where
      go : (b : Bool) → any_of f (select g l) ≡ any_of (λ x. g x && f x) l
          → any_of f (keep b x (select g l)) ≡ (b && f x || any_of (λ x. g x && f x) l)
      go true e = ap (λ c. f x || c) e
      go false e = e

  -- one of two lists, by a test
  pub any_of-cond : (b : Bool) (l : List A) → any_of f (cond b l []) ≡ (b && any_of f l)
  unfolding lists
  any_of-cond true l = refl
  any_of-cond false l = refl

  pub any_of-or : (g : A → Bool) (l : List A) → any_of (λ x. f x || g x) l ≡ (any_of f l || any_of g l)
  unfolding lists
  any_of-or g [] = refl
  any_of-or g (x ∷ l) = ap (λ c. f x || g x || c) (any_of-or g l) ∙ go (f x) (g x) (any_of f l)
    where
      go : (a b c : Bool) → (a || b || (c || any_of g l)) ≡ (a || c || (b || any_of g l))
      go true b c = refl
      go false true true = refl
      go false true false = refl
      go false false c = refl

  pub any_of-none : ((x : A) → f x ≡ false) → (l : List A) → any_of f l ≡ false
  unfolding lists
  any_of-none h [] = refl
  any_of-none h (x ∷ l) = ap₂ (λ a b. a || b) (h x) (any_of-none h l)

module _ {A B : Type 0} (f : B → Bool) where
  pub any_of-map : (g : A → B) (l : List A) → any_of f (map g l) ≡ any_of (λ x. f (g x)) l
  unfolding lists
  any_of-map g [] = refl
  any_of-map g (x ∷ l) = ap (λ b. f (g x) || b) (any_of-map g l)

  pub any_of-flat_map : (g : A → List B) (l : List A) → any_of f (flat_map g l) ≡ any_of (λ x. any_of f (g x)) l
  unfolding lists
  any_of-flat_map g [] = refl
  any_of-flat_map g (x ∷ l) = any_of-append f (g x) (flat_map g l) ∙ ap (λ b. any_of f (g x) || b) (any_of-flat_map g l)

module _ (f : ℕ → Bool) (l : List ℕ) where
  -- no member passes
  pub any_of-fails : ((x : ℕ) → member x l ≡ true → f x ≡ false) → any_of f l ≡ false
  any_of-fails h = not-true→false (any_of f l) (λ t. let found = any_of-found f l t in contradiction found.2 (h found.0 found.1))

  -- one member alone can pass
  pub any_of-only : (x : ℕ) → member x l ≡ true → ((y : ℕ) → (y ≡ x → ⊥) → f y ≡ false) → any_of f l ≡ f x
  any_of-only x m h = go (f x) refl
    where
      at : f x ≡ false → (y : ℕ) (b : Bool) → eqb y x ≡ b → f y ≡ false
      at e y true t = ap f (eqb-true y x t) ∙ e
      at e y false t = h y (eqb-false y x t)

      go : (b : Bool) → f x ≡ b → any_of f l ≡ b
      go true e = any_of-intro f l x m e
      go false e = any_of-fails (λ y k. at e y (eqb y x) refl)
