-- Laws of `all`, and of `any` that fails. Assumes nothing.
use Rattle.std.specs.Prelude.{◌≡◌, ◌↔◌, Bool, true, false, ◌&&◌, cond, length, get_or, take, drop, replicate}
use Rattle.std.proofs.Math.Path.{refl, ap}
use Rattle.std.proofs.Math.Bool.{not}
use mathlib.Core.List.{List, [], ◌∷◌, ◌++◌, map, flat_map}
use Prim.Native.Nat.{ℕ, zero, suc, ◌<◌}
use Rattle.std.proofs.Common.{not-suc-le-zero, le_of_suc-le-suc}
use Rattle.std.proofs.lemmas.Bool.{not-true}
use Rattle.lists.specs.Lists.{lists, all_of, any_of}
use Rattle.lists.specs.Laws.Booleans.{and_both, and_left, and_right, or-false-both, or-false-left, or-false-right}

module _ {A : Type 0} (f : A → Bool) where
  pub all_of-head : (x : A) (l : List A) → all_of f (x ∷ l) ≡ true → f x ≡ true
  unfolding lists
  all_of-head x l h = and_left (f x) (all_of f l) h

  pub all_of-tail : (x : A) (l : List A) → all_of f (x ∷ l) ≡ true → all_of f l ≡ true
  unfolding lists
  all_of-tail x l h = and_right (f x) (all_of f l) h

  pub all_of-cons : (x : A) (l : List A) → f x ≡ true → all_of f l ≡ true → all_of f (x ∷ l) ≡ true
  unfolding lists
  all_of-cons x l p q = and_both p q

  pub all_of-none : all_of f [] ≡ true
  unfolding lists
  all_of-none = refl

  pub all_of-append : (l m : List A) → all_of f l ≡ true → all_of f m ≡ true → all_of f (l ++ m) ≡ true
  unfolding lists
  all_of-append [] m p q = q
  all_of-append (x ∷ l) m p q = all_of-cons x (l ++ m) (all_of-head x l p) (all_of-append l m (all_of-tail x l p) q)

  pub all_of-left : (l m : List A) → all_of f (l ++ m) ≡ true → all_of f l ≡ true
  unfolding lists
  all_of-left [] m h = refl
  all_of-left (x ∷ l) m h = all_of-cons x l (all_of-head x (l ++ m) h) (all_of-left l m (all_of-tail x (l ++ m) h))

  pub all_of-right : (l m : List A) → all_of f (l ++ m) ≡ true → all_of f m ≡ true
  unfolding lists
  all_of-right [] m h = h
  all_of-right (x ∷ l) m h = all_of-right l m (all_of-tail x (l ++ m) h)

  pub all_of-cond : (b : Bool) (l m : List A) → all_of f l ≡ true → all_of f m ≡ true → all_of f (cond b l m) ≡ true
  all_of-cond true l m p q = p
  all_of-cond false l m p q = q

  -- every element passes
  pub all_of-every : ((x : A) → f x ≡ true) → (l : List A) → all_of f l ≡ true
  unfolding lists
  all_of-every h [] = refl
  all_of-every h (x ∷ l) = all_of-cons x l (h x) (all_of-every h l)

  pub all_of-replicate : (n : ℕ) (x : A) → f x ≡ true → all_of f (replicate n x) ≡ true
  unfolding lists
  all_of-replicate zero x h = refl
  all_of-replicate (suc n) x h = all_of-cons x (replicate n x) h (all_of-replicate n x h)

  pub all_of-take : (k : ℕ) (l : List A) → all_of f l ≡ true → all_of f (take k l) ≡ true
  unfolding lists
  all_of-take zero l h = refl
  all_of-take (suc k) [] h = refl
  all_of-take (suc k) (x ∷ l) h = all_of-cons x (take k l) (all_of-head x l h) (all_of-take k l (all_of-tail x l h))

  pub all_of-drop : (k : ℕ) (l : List A) → all_of f l ≡ true → all_of f (drop k l) ≡ true
  unfolding lists
  all_of-drop zero l h = h
  all_of-drop (suc k) [] h = refl
  all_of-drop (suc k) (x ∷ l) h = all_of-drop k l (all_of-tail x l h)

  -- a stronger test
  pub all_of-weaken : (g : A → Bool) → ((x : A) → g x ≡ true → f x ≡ true) → (l : List A) → all_of g l ≡ true → all_of f l ≡ true
  unfolding lists
  all_of-weaken g h [] p = refl
  all_of-weaken g h (x ∷ l) p =
      all_of-cons x l (h x (and_left (g x) (all_of g l) p)) (all_of-weaken g h l (and_right (g x) (all_of g l) p))

  -- the element at a place, or the one that stands for what is not there
  pub all_of-get_or : (l : List A) (i : ℕ) (x : A) → all_of f l ≡ true → f x ≡ true → f (get_or l i x) ≡ true
  all_of-get_or [] i x h e = e
  all_of-get_or (y ∷ l) zero x h e = all_of-head y l h
  all_of-get_or (y ∷ l) (suc i) x h e = all_of-get_or l i x (all_of-tail y l h) e

  pub all_of-at : (l : List A) (i : ℕ) (x : A) → all_of f l ≡ true → i < length l → f (get_or l i x) ≡ true
  all_of-at [] i x h m = absurd (not-suc-le-zero m)
  all_of-at (y ∷ l) zero x h m = all_of-head y l h
  all_of-at (y ∷ l) (suc i) x h m = all_of-at l i x (all_of-tail y l h) (le_of_suc-le-suc m)

-- no element passes exactly if every element fails
module _ {A : Type 0} (f : A → Bool) where
  every-fails : (l : List A) → any_of f l ≡ false → all_of (λ x. not (f x)) l ≡ true
  unfolding lists
  every-fails [] h = refl
  every-fails (x ∷ l) h =
      and_both (ap not (or-false-left (f x) (any_of f l) h)) (every-fails l (or-false-right (f x) (any_of f l) h))

  none_passes : (l : List A) → all_of (λ x. not (f x)) l ≡ true → any_of f l ≡ false
  unfolding lists
  none_passes [] h = refl
  none_passes (x ∷ l) h =
      or-false-both (not-true (f x) (all_of-head (λ x. not (f x)) x l h)) (none_passes l (all_of-tail (λ x. not (f x)) x l h))

  pub any_of-none : (l : List A) → (any_of f l ≡ false) ↔ (all_of (λ x. not (f x)) l ≡ true)
  any_of-none l = (every-fails l, none_passes l)

module _ {A B : Type 0} (f : B → Bool) where
  pub all_of-map : (g : A → B) (l : List A) → all_of f (map g l) ≡ all_of (λ x. f (g x)) l
  unfolding lists
  all_of-map g [] = refl
  all_of-map g (x ∷ l) = ap (λ b. f (g x) && b) (all_of-map g l)

  pub all_of-flat_map : (g : A → List B) (l : List A) → all_of (λ x. all_of f (g x)) l ≡ true → all_of f (flat_map g l) ≡ true
  unfolding lists
  all_of-flat_map g [] h = refl
  all_of-flat_map g (x ∷ l) h =
      all_of-append f (g x) (flat_map g l) (all_of-head (λ x. all_of f (g x)) x l h) (all_of-flat_map g l (all_of-tail (λ x. all_of f (g x)) x l h))

  -- and the other way round
  pub flat_map-all : (g : A → List B) (l : List A) → all_of f (flat_map g l) ≡ true → all_of (λ x. all_of f (g x)) l ≡ true
  unfolding lists
  flat_map-all g [] h = refl
  flat_map-all g (x ∷ l) h =
      all_of-cons (λ x. all_of f (g x)) x l (all_of-left f (g x) (flat_map g l) h) (flat_map-all g l (all_of-right f (g x) (flat_map g l) h))
