-- Laws of `filter`: its members are those of the list that pass the test. Assumes nothing.
use Rattle.std.specs.Prelude.{ℕ, ◌≡◌, refl, ◌↔◌, ◌⊎◌, Bool, true, false, ◌&&◌, List, [], ◌∷◌, map}
use Rattle.std.proofs.Common.{sym, ◌∙◌, inl, inr, ⊎_elim}
use Rattle.std.proofs.Math.Path.{ap}
use Rattle.lists.specs.Lists.{lists, keep, select, member}
use Rattle.lists.specs.Laws.Booleans.{contradiction, not-true→false}
use Rattle.lists.specs.Laws.Members.{member-empty, member-head, member-tail, member-cases}

-- by the outcome of the test at the head
module _ {A : Type 0} (f : A → Bool) (x : A) (l : List A) where
  pub select-pass : f x ≡ true → select f (x ∷ l) ≡ x ∷ select f l
  unfolding lists
  select-pass e = ap (λ b. keep b x (select f l)) e

  pub select-fail : f x ≡ false → select f (x ∷ l) ≡ select f l
  unfolding lists
  select-fail e = ap (λ b. keep b x (select f l)) e

-- a member of what is kept is the head, or a member of the rest
keep-cases : (b : Bool) (x y : ℕ) (l : List ℕ)
    → member x (keep b y l) ≡ true → ((b ≡ true) × (x ≡ y)) ⊎ (member x l ≡ true)
unfolding keep
keep-cases true x y l m = ⊎_elim (λ e. inl (refl, e)) (λ q. inr q) (member-cases x y l m)
keep-cases false x y l m = inr m

keep-head : (b : Bool) (x : ℕ) (l : List ℕ) → b ≡ true → member x (keep b x l) ≡ true
unfolding keep
keep-head true x l e = member-head x l
keep-head false x l e = contradiction e refl

keep-tail : (b : Bool) (x y : ℕ) (l : List ℕ) → member x l ≡ true → member x (keep b y l) ≡ true
unfolding keep
keep-tail true x y l m = member-tail x y l m
keep-tail false x y l m = m

passed : (f : ℕ → Bool) (l : List ℕ) (x : ℕ) → member x (select f l) ≡ true → (member x l ≡ true) × (f x ≡ true)
unfolding select
passed f [] x m = member-empty x m
passed f (y ∷ l) x m =
    ⊎_elim
    (λ h. (rw h.1 (member-head y l), ap f h.1 ∙ h.0))
    (λ h. let rest = passed f l x h in (member-tail x y l rest.0, rest.1))
    (keep-cases (f y) x y (select f l) m)

kept : (f : ℕ → Bool) (l : List ℕ) (x : ℕ) → member x l ≡ true → f x ≡ true → member x (select f l) ≡ true
unfolding select
kept f [] x m t = m
kept f (y ∷ l) x m t =
    ⊎_elim
    (λ e. rw e (keep-head (f y) y (select f l) (ap f (sym e) ∙ t)))
    (λ q. keep-tail (f y) x y (select f l) (kept f l x q t))
    (member-cases x y l m)

pub select-member : (f : ℕ → Bool) (l : List ℕ) (x : ℕ)
    → (member x (select f l) ≡ true) ↔ ((member x l ≡ true) × (f x ≡ true))
select-member f l x = (passed f l x, λ h. kept f l x h.0 h.1)

none_pass : (f : ℕ → Bool) (l : List ℕ) → ((x : ℕ) → member x l ≡ true → f x ≡ false) → select f l ≡ []
unfolding select
none_pass f [] h = refl
none_pass f (y ∷ l) h = select-fail f y l (h y (member-head y l)) ∙ none_pass f l (λ x m. h x (member-tail x y l m))

pub select-none : (f : ℕ → Bool) (l : List ℕ) → (select f l ≡ []) ↔ ((x : ℕ) → member x l ≡ true → f x ≡ false)
select-none f l =
    (λ e x m. not-true→false (f x) (λ t. member-empty x (rw e at (kept f l x m t))), none_pass f l)

-- one filter behind another, and behind a map
pub select-select : {A : Type 0} (f g : A → Bool) (l : List A) → select f (select g l) ≡ select (λ x. g x && f x) l
unfolding lists
select-select f g [] = refl
select-select {A} f g (x ∷ l) = go (g x) (select-select f g l)
  where
    go : (b : Bool) → select f (select g l) ≡ select (λ x. g x && f x) l
        → select f (keep b x (select g l)) ≡ keep (b && f x) x (select (λ x. g x && f x) l)
    go true e = ap (keep (f x) x) e
    go false e = e

pub select-map : {A B : Type 0} (f : B → Bool) (g : A → B) (l : List A)
    → select f (map g l) ≡ map g (select (λ x. f (g x)) l)
unfolding lists
select-map f g [] = refl
select-map {A} {B} f g (x ∷ l) = go (f (g x)) (select-map f g l)
  where
    go : (b : Bool) → select f (map g l) ≡ map g (select (λ x. f (g x)) l)
        → keep b (g x) (select f (map g l)) ≡ map g (keep b x (select (λ x. f (g x)) l))
    go true e = ap (λ m. g x ∷ m) e
    go false e = e
