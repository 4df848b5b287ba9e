-- Laws of `member`, `any` and `all`: a test of a list as a statement on its members. Assumes nothing.
use Rattle.std.specs.Prelude.{ℕ, ◌≡◌, refl, ◌↔◌, ◌⊎◌, Bool, true, List, [], ◌∷◌, eqb}
use Rattle.std.proofs.Common.{sym, ap, ◌∙◌, inl, inr, ⊎_elim, eqb-true, eq-eqb}
use Rattle.std.proofs.lemmas.Bool.{false≢true}
use Rattle.lists.specs.Lists.{lists, all_of, any_of, member}
use Rattle.lists.specs.Laws.Booleans.{or_left, or_right, or_cases, and_both, and_left, and_right}

pub member-empty : {A : Type 0} (x : ℕ) → member x [] ≡ true → A
unfolding lists
member-empty x m = absurd (false≢true m)

pub member-head : (x : ℕ) (l : List ℕ) → member x (x ∷ l) ≡ true
unfolding lists
member-head x l = or_left (member x l) (eq-eqb x x refl)

pub member-tail : (x y : ℕ) (l : List ℕ) → member x l ≡ true → member x (y ∷ l) ≡ true
unfolding lists
member-tail x y l m = or_right (eqb x y) m

pub member-cases : (x y : ℕ) (l : List ℕ) → member x (y ∷ l) ≡ true → (x ≡ y) ⊎ (member x l ≡ true)
unfolding lists
member-cases x y l m = ⊎_elim (λ e. inl (eqb-true x y e)) (λ h. inr h) (or_cases (eqb x y) m)

-- every member of one list is a member of the other
abbrev pub Within : List ℕ → List ℕ → Type 0
Within l m = (x : ℕ) → member x l ≡ true → member x m ≡ true

pub within-cons : (a : ℕ) (l m : List ℕ) → Within l m → Within (a ∷ l) (a ∷ m)
within-cons a l m h x p =
    ⊎_elim (λ e. rw e (member-head a m)) (λ q. member-tail x a m (h x q)) (member-cases x a l p)

pub any_of-found : (f : ℕ → Bool) (l : List ℕ) → any_of f l ≡ true → (x : ℕ) × (member x l ≡ true) × (f x ≡ true)
unfolding any_of
any_of-found f [] h = absurd (false≢true h)
any_of-found f (y ∷ l) h =
    ⊎_elim
    (λ t. (y, member-head y l, t))
    (λ t. let found = any_of-found f l t in (found.0, member-tail found.0 y l found.1, found.2))
    (or_cases (f y) h)

pub any_of-intro : (f : ℕ → Bool) (l : List ℕ) (x : ℕ) → member x l ≡ true → f x ≡ true → any_of f l ≡ true
unfolding any_of
any_of-intro f [] x m t = member-empty x m
any_of-intro f (y ∷ l) x m t =
    ⊎_elim (λ e. or_left (any_of f l) (ap f (sym e) ∙ t)) (λ q. or_right (f y) (any_of-intro f l x q t)) (member-cases x y l m)

pub any_of-within : (f : ℕ → Bool) (l m : List ℕ) → Within l m → any_of f l ≡ true → any_of f m ≡ true
any_of-within f l m h t = let found = any_of-found f l t in any_of-intro f m found.0 (h found.0 found.1) found.2

-- a test holds for every element exactly if every member passes it
every : (f : ℕ → Bool) (l : List ℕ) → all_of f l ≡ true → (x : ℕ) → member x l ≡ true → f x ≡ true
unfolding all_of
every f [] h x m = member-empty x m
every f (y ∷ l) h x m =
    ⊎_elim
    (λ e. ap f e ∙ and_left (f y) (all_of f l) h)
    (λ q. every f l (and_right (f y) (all_of f l) h) x q)
    (member-cases x y l m)

all-intro : (f : ℕ → Bool) (l : List ℕ) → ((x : ℕ) → member x l ≡ true → f x ≡ true) → all_of f l ≡ true
unfolding all_of
all-intro f [] h = refl
all-intro f (y ∷ l) h = and_both (h y (member-head y l)) (all-intro f l (λ x m. h x (member-tail x y l m)))

pub all_of-member : (f : ℕ → Bool) (l : List ℕ) → (all_of f l ≡ true) ↔ ((x : ℕ) → member x l ≡ true → f x ≡ true)
all_of-member f l = (every f l, all-intro f l)
