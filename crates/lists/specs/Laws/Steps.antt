-- Sums over the numbers below n, one number at a time, as a loop adds them up. Assumes nothing.
use Prim.Native.Nat.{ℕ, zero, suc, ◌+◌, ◌<◌}
use Rattle.std.specs.Prelude.{◌≡◌, Bool, true, false, cond, List, [], ◌∷◌}
use Rattle.std.proofs.Math.Path.{refl, ap}
use Rattle.std.proofs.Common.{sym, ◌∙◌, ⊎_elim, eq-or-lt_of_le, add-one}
use native.Mathlib.Omega.{arith}
use Rattle.lists.specs.Lists.{lists, keep, select, sum_of, from, below}

-- what a test lets pass, as terms that are 0 elsewhere
pub sum_of-filtered : {A : Type 0} (f : A → ℕ) (t : A → Bool) (l : List A)
    → sum_of f (select t l) ≡ sum_of (λ x. cond (t x) (f x) 0) l
unfolding lists
sum_of-filtered f t [] = refl
sum_of-filtered {A} f t (x ∷ l) = go (t x) (sum_of-filtered f t l)
  where
    go : (b : Bool) → sum_of f (select t l) ≡ sum_of (λ x. cond (t x) (f x) 0) l
        → sum_of f (keep b x (select t l)) ≡ cond b (f x) 0 + sum_of (λ x. cond (t x) (f x) 0) l
    go true e = ap (λ n. f x + n) e
    go false e = omega arith

module _ (f : ℕ → ℕ) where
  sum-from : (a n : ℕ) → sum_of f (from a (suc n)) ≡ sum_of f (from a n) + f (a + n)
  unfolding lists
  sum-from a zero = let e : f (a + 0) ≡ f a = ap f (omega arith) in omega arith
  sum-from a (suc n) = let e : f (suc a + n) ≡ f (a + suc n) = ap f (omega arith) in omega (arith, sum-from (suc a) n)

  pub sum_of-next : (n : ℕ) → sum_of f (below (n + 1)) ≡ sum_of f (below n) + f n
  unfolding below
  sum_of-next n =
      let e : f (0 + n) ≡ f n = ap f (omega arith) in
      ap (λ k. sum_of f (from 0 k)) (add-one n) ∙ omega (arith, sum-from 0 n)

  pub sum_of-start : sum_of f (below 0) ≡ 0
  unfolding lists
  sum_of-start = refl

  -- one number alone adds something
  module _ (p : ℕ) (alone : (q : ℕ) → (q ≡ p → ⊥) → f q ≡ 0) where
    sum-before : (n : ℕ) → n < p + 1 → sum_of f (below n) ≡ 0
    sum-before zero h = sum_of-start
    sum-before (suc n) h =
        ap (λ k. sum_of f (below k)) (sym (add-one n))
        ∙ omega (arith, sum_of-next n, sum-before n (omega arith), alone n (λ e. omega arith))

    pub sum_of-only : (n : ℕ) → p < n → sum_of f (below n) ≡ f p
    sum_of-only zero h = absurd (omega arith)
    sum_of-only (suc n) h =
        ap (λ k. sum_of f (below k)) (sym (add-one n))
        ∙ ⊎_elim
        (λ (e : p ≡ n). omega (arith, sum_of-next n, sum-before n (omega arith), ap f e))
        (λ (k : p < n). omega (arith, sum_of-next n, sum_of-only n k, alone n (λ e. omega arith)))
        (eq-or-lt_of_le (omega arith))
