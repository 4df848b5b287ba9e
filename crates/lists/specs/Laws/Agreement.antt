-- Tests that agree on every member of a list, and `any` over one number more. Assumes nothing.
use Prim.Native.Nat.{ℕ, zero, suc, ◌+◌}
use Rattle.std.specs.Prelude.{◌≡◌, Bool, true, ◌||◌}
use Rattle.std.proofs.Math.Path.{refl, sym, ap, ap₂}
use Rattle.std.proofs.Common.{◌∙◌, add-one, zero-add}
use Rattle.std.proofs.Math.Bool.{or-false, or_assoc}
use mathlib.Core.List.{List, [], ◌∷◌}
use native.Mathlib.Omega.{arith}
use Rattle.lists.specs.Lists.{lists, any_of, keep, select, from, below, member}
use Rattle.lists.specs.Laws.Members.{member-head, member-tail}

module _ (f g : ℕ → Bool) where
  pub any_of-agree : (l : List ℕ) → ((x : ℕ) → member x l ≡ true → f x ≡ g x) → any_of f l ≡ any_of g l
  unfolding any_of
  any_of-agree [] h = refl
  any_of-agree (x ∷ l) h = ap₂ (λ a b. a || b) (h x (member-head x l)) (any_of-agree l (λ y m. h y (member-tail y x l m)))

  pub select-agree : (l : List ℕ) → ((x : ℕ) → member x l ≡ true → f x ≡ g x) → select f l ≡ select g l
  unfolding select
  select-agree [] h = refl
  select-agree (x ∷ l) h =
      ap₂ (λ b m. keep b x m) (h x (member-head x l)) (select-agree l (λ y m. h y (member-tail y x l m)))

module _ (f : ℕ → Bool) where
  from_more : (a n : ℕ) → any_of f (from a (suc n)) ≡ (any_of f (from a n) || f (a + n))
  unfolding lists
  from_more a zero = let e : a ≡ a + 0 = omega arith in or-false (f a) ∙ ap f e
  from_more a (suc n) =
      let e : suc a + n ≡ a + suc n = omega arith in
      ap (λ b. f a || b) (from_more (suc a) n)
      ∙ sym (or_assoc (f a) (any_of f (from (suc a) n)) (f (suc a + n)))
      ∙ ap (λ k. f a || any_of f (from (suc a) n) || f k) e

  pub any_of-more : (n : ℕ) → any_of f (below (n + 1)) ≡ (any_of f (below n) || f n)
  unfolding below
  any_of-more n =
      ap (λ k. any_of f (from 0 k)) (add-one n) ∙ from_more 0 n ∙ ap (λ k. any_of f (from 0 n) || f k) (zero-add n)
