-- The lowest number of a set, by the count of the zeros below a bit, and the set without it. Assumes nothing.
use Rattle.std.specs.Prelude.{ℕ, zero, suc, ◌-◌, ◌/◌, ◌%◌, ◌^◌, ◌≤◌, ◌<◌, ◌≡◌, refl, ◌⊎◌, true, false, ◌&&◌, eqb, ltb}
use Rattle.std.proofs.Common.{sym, ap, ◌∙◌, inl, inr, arith, lt_of_not-le, eqb-true, ltb-true, ltb-false}
use Rattle.std.proofs.Math.Bool.{and_self, and-false}
use Rattle.std.specs.Int.Count.{count_trailing_zeros, under}
use Rattle.std.proofs.lemmas.Nat.{trailing_le}
use Rattle.std.specs.Int.Bits.{bit_and}
use Rattle.std.proofs.lemmas.Bool.{eqb-false}
use Rattle.lists.specs.Bits.{bit, NextIn, RestOf}
use Rattle.lists.specs.Laws.Booleans.{true-or-false}
use Rattle.lists.specs.Laws.Bits.{bit-and, bit_up, bit-low, bit-zero, no_bits}

-- the bit above the zeros is set
zeros-end : (k m : ℕ) → count_trailing_zeros k m < k → bit m (count_trailing_zeros k m) ≡ true
unfolding count_trailing_zeros
zeros-end zero m h = absurd (omega arith)
zeros-end (suc k) m h = go (m % 2) refl (count_trailing_zeros k (m / 2)) (zeros-end k (m / 2)) h
  where
    go : (r : ℕ) → m % 2 ≡ r → (t : ℕ) → (t < k → bit (m / 2) t ≡ true) → under r t < suc k → bit m (under r t) ≡ true
    go zero e t ih l = bit_up m t ∙ ih (omega arith)
    go (suc r) e t ih l =
        let o : m % 2 ≡ 1 = omega arith in
        bit-low m ∙ ap (λ x. eqb x 1) o

-- and those below are not
zeros-below : (k m i : ℕ) → i < count_trailing_zeros k m → bit m i ≡ false
unfolding count_trailing_zeros
zeros-below zero m i h = absurd (omega arith)
zeros-below (suc k) m i h = go (m % 2) refl (count_trailing_zeros k (m / 2)) (zeros-below k (m / 2)) i h
  where
    go : (r : ℕ) → m % 2 ≡ r → (t : ℕ) → ((i : ℕ) → i < t → bit (m / 2) i ≡ false) → (i : ℕ) → i < under r t → bit m i ≡ false
    go zero e t ih zero l = bit-low m ∙ ap (λ x. eqb x 1) e
    go zero e t ih (suc i) l = bit_up m i ∙ ih i (omega arith)
    go (suc r) e t ih i l = absurd (omega arith)

pub lowest-of : (set : ℕ) → NextIn set 0 (count_trailing_zeros 64 set)
lowest-of set =
    record { most = trailing_le 64 set; on = λ l. omega arith; found = zeros-end 64 set; passed = λ i l m. zeros-below 64 set i m }

-- ---- the rest behind the lowest number

odd-of : (m : ℕ) → bit m 0 ≡ true → m % 2 ≡ 1
odd-of m e = eqb-true (m % 2) 1 (sym (bit-low m) ∙ e)

even-of : (m : ℕ) → bit m 0 ≡ false → m % 2 ≡ 0
even-of m e =
    let n : m % 2 ≡ 1 → ⊥ = eqb-false (m % 2) 1 (sym (bit-low m) ∙ e) in
    omega arith

-- one less clears the lowest bit, and changes none above
less_one : (l set i : ℕ) → ((c : ℕ) → c < l → bit set c ≡ false) → bit set l ≡ true
    → (bit (set - 1) l ≡ false) × (l < i → bit (set - 1) i ≡ bit set i)
less_one zero set i p f = (bit-low (set - 1) ∙ ap (λ x. eqb x 1) even, above i)
  where
    odd : set % 2 ≡ 1
    odd = odd-of set f

    even : (set - 1) % 2 ≡ 0
    even = omega (arith, odd)

    above : (i : ℕ) → 0 < i → bit (set - 1) i ≡ bit set i
    above zero h = absurd (omega arith)
    above (suc i) h =
        let half : (set - 1) / 2 ≡ set / 2 = omega (arith, odd) in
        bit_up (set - 1) i ∙ ap (λ x. bit x i) half ∙ sym (bit_up set i)
less_one (suc l) set i p f = go i (λ j. less_one l (set / 2) j lower here)
  where
    here : bit (set / 2) l ≡ true
    here = sym (bit_up set l) ∙ f

    lower : (c : ℕ) → c < l → bit (set / 2) c ≡ false
    lower c h = sym (bit_up set c) ∙ p (suc c) (omega arith)

    half : (set - 1) / 2 ≡ set / 2 - 1
    half = omega (arith, even-of set (p 0 (omega arith)))

    up : (j : ℕ) → bit (set - 1) (suc j) ≡ bit (set / 2 - 1) j
    up j = bit_up (set - 1) j ∙ ap (λ x. bit x j) half

    go : (i : ℕ) → ((j : ℕ) → (bit (set / 2 - 1) l ≡ false) × (l < j → bit (set / 2 - 1) j ≡ bit (set / 2) j))
        → (bit (set - 1) (suc l) ≡ false) × (suc l < i → bit (set - 1) i ≡ bit set i)
    go zero ih = (up l ∙ (ih 0).0, λ h. absurd (omega arith))
    go (suc i) ih = (up l ∙ (ih i).0, λ h. up i ∙ (ih i).1 (omega arith) ∙ sym (bit_up set i))

pub rest_of : (set : ℕ) → set < 2 ^ 64 → (set ≡ 0 → ⊥) → RestOf set (bit_and set (set - 1))
rest_of set small n = record { each = λ l i h. bit-and set (set - 1) i ∙ go l i h (true-or-false (ltb l i)) }
  where
    inside : (l : ℕ) → NextIn set 0 l → l < 64
    inside l h = lt_of_not-le (λ (g : 64 ≤ l). n (no_bits 64 set small (λ c w. h.passed c (omega arith) (omega arith))))

    less : (l i : ℕ) → NextIn set 0 l → (bit (set - 1) l ≡ false) × (l < i → bit (set - 1) i ≡ bit set i)
    less l i h = less_one l set i (λ c w. h.passed c (omega arith) w) (h.found (inside l h))

    behind : (l i : ℕ) → NextIn set 0 l → (eqb i l ≡ true) ⊎ (eqb i l ≡ false) → i ≤ l → (bit set i && bit (set - 1) i) ≡ false
    behind l i h (inr k) g =
        let e : i < l = omega (arith, eqb-false i l k) in
        ap (λ b. b && bit (set - 1) i) (h.passed i (omega arith) e)
    behind l i h (inl k) g =
        let e : i ≡ l = eqb-true i l k in
        ap (λ b. bit set i && b) (ap (λ x. bit (set - 1) x) e ∙ (less l i h).0) ∙ and-false (bit set i)

    go : (l i : ℕ) → NextIn set 0 l → (ltb l i ≡ true) ⊎ (ltb l i ≡ false) → (bit set i && bit (set - 1) i) ≡ (ltb l i && bit set i)
    go l i h (inl k) =
        ap (λ b. bit set i && b) ((less l i h).1 (ltb-true l i k)) ∙ and_self (bit set i) ∙ sym (ap (λ b. b && bit set i) k)
    go l i h (inr k) =
        behind l i h (true-or-false (eqb i l)) (ltb-false l i k) ∙ sym (ap (λ b. b && bit set i) k)

pub rest-none : (set : ℕ) → set ≡ 0 → RestOf set 0
rest-none set e =
    record { each = λ l i h. bit-zero i ∙ sym (ap (λ b. ltb l i && b) (ap (λ x. bit x i) e ∙ bit-zero i) ∙ and-false (ltb l i)) }
