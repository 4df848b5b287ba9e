-- Laws of the numbers below n: which they are, and which of them pass a test. Assumes nothing.
use Rattle.std.specs.Prelude.{ℕ, zero, suc, ◌+◌, ◌≤◌, ◌<◌, ◌≡◌, refl, ◌↔◌, Bool, true, false, length}
use Rattle.std.proofs.Common.{sym, ap, ◌∙◌, ⊎_elim, eq-or-lt_of_le, arith}
use mathlib.Core.List.{List, [], ◌∷◌, nil≢cons, head-eq_of_cons-eq}
use Rattle.lists.specs.Lists.{any_of, keep, select, from, below, member}
use Rattle.lists.specs.Laws.Members.{member-empty, member-head, member-tail, member-cases, any_of-found, any_of-intro}
use Rattle.lists.specs.Laws.Filters.{select-member, select-none}
use Rattle.lists.specs.Laws.FlatMaps.{select-one-by-one, flat_map-first}

pub from-length : (a n : ℕ) → length (from a n) ≡ n
unfolding from
from-length a zero = refl
from-length a (suc n) = ap suc (from-length (suc a) n)

pub below_length : (n : ℕ) → length (below n) ≡ n
unfolding below
below_length n = from-length 0 n

pub from-within : (a n k : ℕ) → member k (from a n) ≡ true → (a ≤ k) × (k < a + n)
unfolding from
from-within a zero k m = member-empty k m
from-within a (suc n) k m =
    ⊎_elim
    (λ e. (omega arith, omega arith))
    (λ q. let h = from-within (suc a) n k q in (omega (arith, h.0), omega (arith, h.1)))
    (member-cases k a (from (suc a) n) m)

from-holds : (a n k : ℕ) → a ≤ k → k < a + n → member k (from a n) ≡ true
unfolding from
from-holds a zero k l h = absurd (omega arith)
from-holds a (suc n) k l h =
    ⊎_elim
    (λ e. rw e (member-head k (from (suc k) n)))
    (λ m. member-tail k a (from (suc a) n) (from-holds (suc a) n k m (omega arith)))
    (eq-or-lt_of_le l)

pub below-member : (n k : ℕ) → (k < n) ↔ (member k (below n) ≡ true)
unfolding below
below-member n k = (λ h. from-holds 0 n k (omega arith) (omega arith), λ m. omega (arith, (from-within 0 n k m).1))

module _ (f : ℕ → Bool) (n : ℕ) where
  pub any_of-below : (any_of f (below n) ≡ true) ↔ ((k : ℕ) × (k < n) × (f k ≡ true))
  any_of-below = (
    λ h. let found = any_of-found f (below n) h in (found.0, (below-member n found.0).1 found.1, found.2),
    λ h. any_of-intro f (below n) h.0 ((below-member n h.0).0 h.1) h.2,
  )

  pub select-below : (k : ℕ) → (member k (select f (below n)) ≡ true) ↔ ((k < n) × (f k ≡ true))
  select-below k =
      let passing = select-member f (below n) k in (
        λ m. let h = passing.0 m in ((below-member n k).1 h.0, h.1),
        λ h. passing.1 ((below-member n k).0 h.0, h.1),
      )

  pub none_below : (select f (below n) ≡ []) ↔ ((k : ℕ) → k < n → f k ≡ false)
  none_below =
      let none = select-none f (below n) in
      (λ e k l. none.0 e k ((below-member n k).0 l), λ h. none.1 (λ k m. h k ((below-member n k).1 m)))

-- what is kept of one element
kept-head : {A : Type 0} (b : Bool) (x c : A) (cs : List A) → keep b x [] ≡ c ∷ cs → (b ≡ true) × (x ≡ c)
unfolding keep
kept-head true x c cs e = (refl, head-eq_of_cons-eq e)
kept-head false x c cs e = absurd (nil≢cons e)

kept-none : {A : Type 0} (b : Bool) (x : A) → keep b x [] ≡ [] → b ≡ false
unfolding keep
kept-none true x e = absurd (nil≢cons (sym e))
kept-none false x e = refl

-- the first number that passes a test
pub select-first : (f : ℕ → Bool) (n c : ℕ) (cs : List ℕ) → select f (below n) ≡ c ∷ cs
    → (f c ≡ true) × (c < n) × ((b : ℕ) → b < c → f b ≡ false)
select-first f n c cs e =
    let first = flat_map-first (λ x. keep (f x) x []) n c cs (sym (select-one-by-one f (below n)) ∙ e) in
    let head = kept-head (f first.0) first.0 c first.1 first.2 in (
      ap f (sym head.1) ∙ head.0,
      omega (arith, first.3, head.1),
      λ b m. kept-none (f b) b (first.4 b (omega (arith, head.1))),
    )
