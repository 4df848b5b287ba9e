-- The loop that goes through a set, from each number to the next. Assumes nothing.
use Rattle.std.specs.Prelude.{ℕ, zero, suc, ◌+◌, ◌-◌, ◌<◌, ◌≤◌, min, ◌≡◌, true, false}
use Rattle.std.proofs.Common.{subst, arith}
use Rattle.lists.specs.Bits.{bit, NextIn}

-- what holds step by step
module _ (P : ℕ → Type 0) (k m : ℕ) (l : k ≤ m) (step : (i : ℕ) → k ≤ i → i < m → P i → P (i + 1)) (p : P k) where
  stepped : (n : ℕ) → k + n ≤ m → P (k + n)
  stepped zero h = let e : k ≡ k + 0 = omega arith in subst P e p
  stepped (suc n) h =
      let e : k + n + 1 ≡ k + suc n = omega arith in
      subst P e (step (k + n) (omega arith) (omega arith) (stepped n (omega arith)))

  steps : P m
  steps = let e : k + (m - k) ≡ m = omega arith in subst P e (stepped (m - k) (omega arith))

-- the loop is at r, in the set or past its end, and P holds of all numbers below r and n
pub record Through (set n : ℕ) (P : ℕ → Type 0) (r : ℕ) : Type 0 where
  pub found : r < 64 → bit set r ≡ true
  pub done : P (min r n)

module _ {set n : ℕ} {P : ℕ → Type 0} {r : ℕ} where
  -- P goes on at every number that is not in the set
  pub through-next : {k : ℕ} → NextIn set k r → k ≤ n → n ≤ 64
      → ((i : ℕ) → k ≤ i → i < n → bit set i ≡ false → P i → P (i + 1)) → P k → Through set n P r
  through-next {k} h l few skip p =
      record {
        found = h.found;
        done = steps P k (min r n) (omega (arith, h.on (omega arith)))
            (λ i a b. skip i a (omega arith) (h.passed i a (omega arith))) p;
      }

  module _ (h : Through set n P r) where
    pub through_here : r < n → P r
    through_here l = let e : min r n ≡ r = omega arith in subst P e h.done

    pub through-all : n ≤ r → P n
    through-all l = let e : min r n ≡ n = omega arith in subst P e h.done
