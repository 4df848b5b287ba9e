-- Laws of `sum` and `largest`. Assumes nothing.
use Rattle.std.specs.Prelude.{ℕ, ◌+◌, ◌≤◌, max, ◌≡◌, ◌↔◌, ◌⊎◌, Bool, true, false}
use Rattle.std.proofs.Common.{zero-le, sym, ap, ap₂, ◌∙◌, ⊎_elim, add-le-add, zero-add, add_assoc, arith}
use Rattle.std.proofs.Math.Path.{refl}
use Rattle.std.proofs.Math.Logic.{inl, inr}
use mathlib.Core.List.{List, [], ◌∷◌, ◌++◌, map, flat_map}
use Rattle.std.proofs.Math.Decide.{dec_le}
use Rattle.lists.specs.Lists.{lists, keep, select, sum_of, largest, member}
use Rattle.lists.specs.Laws.Booleans.{contradiction}
use Rattle.lists.specs.Laws.Members.{member-empty, member-head, member-tail, member-cases}
use Rattle.lists.specs.Laws.Lengths.{Implies, implies-tail}

pub sum_of-append : {A : Type 0} (f : A → ℕ) (l m : List A) → sum_of f (l ++ m) ≡ sum_of f l + sum_of f m
unfolding sum_of
sum_of-append f [] m = sym (zero-add (sum_of f m))
sum_of-append f (x ∷ l) m = ap (λ n. f x + n) (sum_of-append f l m) ∙ sym (add_assoc (f x) (sum_of f l) (sum_of f m))

pub sum_of-cong : (f g : ℕ → ℕ) (l : List ℕ) → ((x : ℕ) → member x l ≡ true → f x ≡ g x) → sum_of f l ≡ sum_of g l
unfolding sum_of
sum_of-cong f g [] h = refl
sum_of-cong f g (x ∷ l) h = ap₂ ◌+◌ (h x (member-head x l)) (sum_of-cong f g l (λ y m. h y (member-tail y x l m)))

pub sum_of-mono : (f g : ℕ → ℕ) (l : List ℕ) → ((x : ℕ) → member x l ≡ true → f x ≤ g x) → sum_of f l ≤ sum_of g l
unfolding sum_of
sum_of-mono f g [] h = zero-le
sum_of-mono f g (x ∷ l) h = add-le-add (h x (member-head x l)) (sum_of-mono f g l (λ y m. h y (member-tail y x l m)))

-- the more pass, the larger the sum
pub sum_of-select : (f g : ℕ → Bool) (h : ℕ → ℕ) (l : List ℕ) → Implies l f g → sum_of h (select f l) ≤ sum_of h (select g l)
unfolding lists
sum_of-select f g h [] i = zero-le
sum_of-select f g h (x ∷ l) i = go (f x) (g x) (i x (member-head x l)) (sum_of-select f g h l (implies-tail x l f g i))
  where
    go : (b c : Bool) → (b ≡ true → c ≡ true) → sum_of h (select f l) ≤ sum_of h (select g l)
        → sum_of h (keep b x (select f l)) ≤ sum_of h (keep c x (select g l))
    go true true j le = omega arith
    go true false j le = contradiction (j refl) refl
    go false true j le = omega arith
    go false false j le = le

-- the largest is at most b exactly if every element is
below-bound : (f : ℕ → ℕ) (l : List ℕ) (b : ℕ) → ((x : ℕ) → member x l ≡ true → f x ≤ b) → largest f l ≤ b
unfolding largest
below-bound f [] b h = zero-le
below-bound f (x ∷ l) b h = omega (arith, h x (member-head x l), below-bound f l b (λ y m. h y (member-tail y x l m)))

pub largest-member : (f : ℕ → ℕ) (l : List ℕ) (x : ℕ) → member x l ≡ true → f x ≤ largest f l
unfolding largest
largest-member f [] x m = member-empty x m
largest-member f (y ∷ l) x m =
    ⊎_elim (λ e. omega (arith, ap f e)) (λ q. omega (arith, largest-member f l x q)) (member-cases x y l m)

pub largest-bound : (f : ℕ → ℕ) (l : List ℕ) (b : ℕ) → (largest f l ≤ b) ↔ ((x : ℕ) → member x l ≡ true → f x ≤ b)
largest-bound f l b = (λ h x m. omega (arith, largest-member f l x m), below-bound f l b)

-- of a list that is not empty it is attained
module _ (f : ℕ → ℕ) where
  abbrev Attained : List ℕ → Type 0
  Attained l = (x : ℕ) × (member x l ≡ true) × (f x ≡ largest f l)

  pub largest-found : (l : List ℕ) → (l ≡ []) ⊎ Attained l
  unfolding largest
  largest-found [] = inl refl
  largest-found (y ∷ l) = inr (go (largest-found l))
    where
      further : (h : Attained l) → Dec (f y ≤ f h.0) → Attained (y ∷ l)
      further h (yes le) = (h.0, member-tail h.0 y l h.1, omega (arith, h.2))
      further h (no le) = (y, member-head y l, omega (arith, h.2))

      go : (l ≡ []) ⊎ Attained l → Attained (y ∷ l)
      go (inl e) = (y, member-head y l, rw e (omega arith))
      go (inr h) = further h (dec_le (f y) (f h.0))

-- over a map, and over lists one behind the other
pub largest-map : {A B : Type 0} (f : B → ℕ) (g : A → B) (l : List A) → largest f (map g l) ≡ largest (λ x. f (g x)) l
unfolding largest
largest-map f g [] = refl
largest-map f g (x ∷ l) = ap (max (f (g x))) (largest-map f g l)

pub largest-append : {A : Type 0} (f : A → ℕ) (l m : List A) → largest f (l ++ m) ≡ max (largest f l) (largest f m)
unfolding largest
largest-append f [] m = omega arith
largest-append f (x ∷ l) m = omega (arith, largest-append f l m)

pub largest-flat_map : {A B : Type 0} (f : B → ℕ) (g : A → List B) (l : List A)
    → largest f (flat_map g l) ≡ largest (λ x. largest f (g x)) l
unfolding lists
largest-flat_map f g [] = refl
largest-flat_map f g (x ∷ l) = largest-append f (g x) (flat_map g l) ∙ ap (max (largest f (g x))) (largest-flat_map f g l)

-- over a map, over lists one behind the other, and of two functions at once
pub sum_of-map : {A B : Type 0} (f : B → ℕ) (g : A → B) (l : List A) → sum_of f (map g l) ≡ sum_of (λ x. f (g x)) l
unfolding sum_of
sum_of-map f g [] = refl
sum_of-map f g (x ∷ l) = ap (λ n. f (g x) + n) (sum_of-map f g l)

pub sum_of-flat_map : {A B : Type 0} (f : B → ℕ) (g : A → List B) (l : List A) → sum_of f (flat_map g l) ≡ sum_of (λ x. sum_of f (g x)) l
unfolding lists
sum_of-flat_map f g [] = refl
sum_of-flat_map f g (x ∷ l) = sum_of-append f (g x) (flat_map g l) ∙ ap (λ n. sum_of f (g x) + n) (sum_of-flat_map f g l)

pub sum_of-plus : {A : Type 0} (f g : A → ℕ) (l : List A) → sum_of (λ x. f x + g x) l ≡ sum_of f l + sum_of g l
unfolding sum_of
sum_of-plus f g [] = refl
sum_of-plus f g (x ∷ l) = let e = sum_of-plus f g l in omega arith

pub sum_of-zero : {A : Type 0} (f : A → ℕ) (l : List A) → ((x : A) → f x ≡ 0) → sum_of f l ≡ 0
unfolding sum_of
sum_of-zero f [] h = refl
sum_of-zero f (x ∷ l) h = let e = sum_of-zero f l h in omega (arith, h x)
