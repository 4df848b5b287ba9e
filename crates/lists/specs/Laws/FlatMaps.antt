-- Laws of `flat_map`: tests and maps go inside, when it is empty, and where its head comes from. Assumes nothing.
use Prim.Native.Nat.{ℕ, zero, suc, ◌+◌, ◌≤◌, ◌<◌}
use Rattle.std.specs.Prelude.{◌≡◌, ◌↔◌, Bool, true, false}
use Rattle.std.proofs.Math.Path.{refl, ap, ap₂}
use Rattle.std.proofs.Common.{sym, ◌∙◌, eq-or-lt_of_le, arith}
use Rattle.std.proofs.Math.Logic.{⊎_elim}
use mathlib.Core.List.{List, [], ◌∷◌, ◌++◌, map, nil≢cons, head-eq_of_cons-eq, map-append, append-eq-nil_iff, flat_map}
use Rattle.lists.specs.Lists.{lists, keep, select, from, below, member}
use Rattle.lists.specs.Laws.Members.{member-empty, member-head, member-tail, member-cases}

filter-append : {A : Type 0} (f : A → Bool) (l m : List A) → select f (l ++ m) ≡ select f l ++ select f m
unfolding lists
filter-append f [] m = refl
filter-append {A} f (x ∷ l) m = go (f x) (filter-append f l m)
  where
    go : (b : Bool) → select f (l ++ m) ≡ select f l ++ select f m
        → keep b x (select f (l ++ m)) ≡ keep b x (select f l) ++ select f m
    go true e = ap (λ n. x ∷ n) e
    go false e = e

pub flat_map-one : {A : Type 0} (l : List A) → flat_map (λ x. x ∷ []) l ≡ l
unfolding lists
flat_map-one [] = refl
flat_map-one (x ∷ l) = ap (λ m. x ∷ m) (flat_map-one l)

-- a filter as what is kept of each element
pub select-one-by-one : {A : Type 0} (f : A → Bool) (l : List A) → select f l ≡ flat_map (λ x. keep (f x) x []) l
unfolding lists
select-one-by-one f [] = refl
select-one-by-one {A} f (x ∷ l) = go (f x) (select-one-by-one f l)
  where
    go : (b : Bool) → select f l ≡ flat_map (λ x. keep (f x) x []) l
        → keep b x (select f l) ≡ keep b x [] ++ flat_map (λ x. keep (f x) x []) l
    go true e = ap (λ m. x ∷ m) e
    go false e = e

pub select-flat_map : {A B : Type 0} (f : B → Bool) (g : A → List B) (l : List A)
    → select f (flat_map g l) ≡ flat_map (λ x. select f (g x)) l
unfolding lists
select-flat_map f g [] = refl
select-flat_map f g (x ∷ l) = filter-append f (g x) (flat_map g l) ∙ ap (λ n. select f (g x) ++ n) (select-flat_map f g l)

pub map-flat_map : {A B C : Type 0} (f : B → C) (g : A → List B) (l : List A)
    → map f (flat_map g l) ≡ flat_map (λ x. map f (g x)) l
unfolding lists
map-flat_map f g [] = refl
map-flat_map f g (x ∷ l) = map-append f (g x) (flat_map g l) ∙ ap (λ n. map f (g x) ++ n) (map-flat_map f g l)

module _ {A : Type 0} (f : ℕ → List A) where
  all-empty : (l : List ℕ) → flat_map f l ≡ [] → (x : ℕ) → member x l ≡ true → f x ≡ []
  unfolding flat_map
  all-empty [] e x m = member-empty x m
  all-empty (y ∷ l) e x m =
      let both = append-eq-nil_iff.0 e in
      ⊎_elim (λ h. ap f h ∙ both.0) (λ h. all-empty l both.1 x h) (member-cases x y l m)

  empty-all : (l : List ℕ) → ((x : ℕ) → member x l ≡ true → f x ≡ []) → flat_map f l ≡ []
  unfolding flat_map
  empty-all [] h = refl
  empty-all (y ∷ l) h = ap₂ ◌++◌ (h y (member-head y l)) (empty-all l (λ x m. h x (member-tail x y l m)))

  pub flat_map-none : (l : List ℕ) → (flat_map f l ≡ []) ↔ ((x : ℕ) → member x l ≡ true → f x ≡ [])
  flat_map-none l = (all-empty l, empty-all l)

  -- p is the first of the n numbers from a on whose list is not empty, and that list begins with x
  abbrev HeadFrom : ℕ → ℕ → A → Type 0
  HeadFrom a n x =
      (p : ℕ) × (ys : List A) × (f p ≡ x ∷ ys) × (a ≤ p) × (p < a + n) × ((q : ℕ) → a ≤ q → q < p → f q ≡ [])

  head-from : (a n : ℕ) (x : A) (xs : List A) → flat_map f (from a n) ≡ x ∷ xs → HeadFrom a n x
  unfolding from flat_map
  head-from a zero x xs e = absurd (nil≢cons e)
  head-from a (suc n) x xs e = go (f a) refl e (head-from (suc a) n x xs)
    where
      later : f a ≡ [] → HeadFrom (suc a) n x → HeadFrom a (suc n) x
      later t h = (
        h.0,
        h.1,
        h.2,
        omega (arith, h.3),
        omega (arith, h.4),
        λ q l m.
            ⊎_elim (λ e. ap f (sym e) ∙ t) (λ k. h.5 q k m) (eq-or-lt_of_le l),
      )

      go : (l : List A) → f a ≡ l → l ++ flat_map f (from (suc a) n) ≡ x ∷ xs
          → (flat_map f (from (suc a) n) ≡ x ∷ xs → HeadFrom (suc a) n x) → HeadFrom a (suc n) x
      go [] t e h = later t (h e)
      go (y ∷ l) t e h =
          (a, l, t ∙ ap (λ z. z ∷ l) (head-eq_of_cons-eq e), omega arith, omega arith, λ q k m. absurd (omega arith))

  pub flat_map-first : (n : ℕ) (x : A) (xs : List A) → flat_map f (below n) ≡ x ∷ xs
      → (p : ℕ) × (ys : List A) × (f p ≡ x ∷ ys) × (p < n) × ((q : ℕ) → q < p → f q ≡ [])
  unfolding below
  flat_map-first n x xs e =
      let h = head-from 0 n x xs e in
      (h.0, h.1, h.2, omega (arith, h.4), λ q m. h.5 q (omega arith) m)
