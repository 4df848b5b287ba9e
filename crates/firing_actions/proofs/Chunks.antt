-- Pairs that a loop goes through, two numbers at a time. Assumes nothing.
use Prim.Native.Nat.{ℕ, suc, ◌+◌, ◌*◌, ◌<◌}
use mathlib.Core.Path.{◌≡◌, refl, sym, ap, ◌∙◌, subst}
use mathlib.Core.List.{List, [], ◌∷◌, ◌++◌}
use native.Mathlib.Omega.{arith}
use lib.ListN.{length, get_or, set}
use lib.IntN.{ℤ, pos, nat_abs}
use Rattle.pool.specs.Updates.{assign, updates}
use Rattle.pool.specs.Places.{pairs_of}
use Rattle.firing.specs.Evaluated.{Assignable}

-- the first pair of a list, and the others
pub record First (l chunk rest : List ℤ) : Type 0 where
  pub channel : ℕ
  pub is : get_or chunk 0 (pos 0) ≡ pos channel
  pub low : channel < 32
  pub others : Assignable rest
  pub pairs : pairs_of l ≡ record { channel = channel; value = get_or chunk 1 (pos 0) } ∷ pairs_of rest

behind : (x y : ℤ) (l : List ℤ) → Assignable (x ∷ y ∷ l) → Assignable l
behind x y l h i k =
    let e : 2 * (suc i) ≡ suc (suc (2 * i)) = omega arith in
    let r = h (suc i) (omega arith) in
    (r.0, sym (ap (λ j. get_or (x ∷ y ∷ l) j (pos 0)) e) ∙ r.1, r.2)

pub first-of : (l chunk rest : List ℤ) → Assignable l → l ≡ chunk ++ rest → length chunk ≡ 2 → First l chunk rest
unfolding pairs_of
first-of l [] rest h e k = absurd (omega (arith, k))
first-of l (x ∷ []) rest h e k = absurd (omega (arith, k))
first-of l (x ∷ y ∷ z ∷ t) rest h e k = absurd (omega (arith, k))
first-of l (x ∷ y ∷ []) rest h e k =
    let a : Assignable (x ∷ y ∷ rest) = subst Assignable e h in
    let c = a 0 (omega arith) in
    record {
      channel = c.0;
      is = c.1;
      low = c.2;
      others = behind x y rest a;
      pairs = ap pairs_of e ∙ ap (λ n. record { channel = n; value = y } ∷ pairs_of rest) (ap nat_abs c.1);
    }

-- the first pair set, and then the others
pub assign-first : (p : ℕ) (values : List ℤ) {l chunk rest : List ℤ} (f : First l chunk rest)
    → assign p (pairs_of rest) (set values (32 * p + f.channel) (get_or chunk 1 (pos 0))) ≡ assign p (pairs_of l) values
unfolding updates
assign-first p values f = sym (ap (λ m. assign p m values) f.pairs)

-- no pair is left
pub assign-done : (p : ℕ) (values l : List ℤ) → length l < 2 → values ≡ assign p (pairs_of l) values
unfolding pairs_of assign
assign-done p values [] h = refl
assign-done p values (x ∷ []) h = refl
assign-done p values (x ∷ y ∷ l) h = absurd (omega (arith, h))
