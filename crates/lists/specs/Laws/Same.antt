-- Tests that agree on the members of a list, and lists that have the same members. Assumes nothing.
use Rattle.std.specs.Prelude.{ℕ, ◌≡◌, refl, Bool, true, List, [], ◌∷◌}
use Rattle.std.proofs.Common.{sym, ap₂, ◌∙◌}
use Rattle.lists.specs.Lists.{lists, any_of, keep, select, member}
use Rattle.lists.specs.Laws.Members.{member-head, member-tail, any_of-found, any_of-intro}
use Rattle.lists.specs.Laws.Statements.{same_test}

pub select-cong : (f g : ℕ → Bool) (l : List ℕ) → ((x : ℕ) → member x l ≡ true → f x ≡ g x) → select f l ≡ select g l
unfolding lists
select-cong f g [] h = refl
select-cong f g (x ∷ l) h =
    ap₂ (λ b m. keep b x m) (h x (member-head x l)) (select-cong f g l (λ y m. h y (member-tail y x l m)))

-- each number is in both lists or in neither
abbrev pub SameMembers : List ℕ → List ℕ → Type 0
SameMembers l m = (x : ℕ) → member x l ≡ member x m

-- the same tests, on the same members
pub any_of-same : (f g : ℕ → Bool) (l m : List ℕ) → SameMembers l m → ((x : ℕ) → f x ≡ g x) → any_of f l ≡ any_of g m
any_of-same f g l m s h =
    same_test (any_of f l) (any_of g m)
    (λ t. let a = any_of-found f l t in any_of-intro g m a.0 (sym (s a.0) ∙ a.1) (sym (h a.0) ∙ a.2))
    (λ t. let a = any_of-found g m t in any_of-intro f l a.0 (s a.0 ∙ a.1) (h a.0 ∙ a.2))
