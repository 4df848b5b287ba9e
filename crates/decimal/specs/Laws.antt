-- Laws of text put into a buffer, and of decimal digits. Assumes nothing.
use Rattle.std.specs.Prelude.{ℕ, zero, suc, ◌+◌, ◌/◌, ◌%◌, ◌^◌, ◌≤◌, ◌<◌, ◌≡◌, refl, cond, List, [], ◌∷◌, ◌++◌, ltb, length, take}
use Rattle.std.proofs.Common.{not-suc-le-zero, pow-suc, arith, ap, ◌∙◌, append_assoc, lt-ltb, le-ltb, length-append}
use Rattle.std.proofs.Math.Decide.{dec_lt}
use Rattle.decimal.specs.Digits.{digits}
use Rattle.decimal.specs.Put.{Put}

-- one text after the other
pub put-more : {before middle after first second : List ℕ} {at next end : ℕ} → Put before at first middle next
    → Put middle next second after end → Put before at (first ++ second) after end
put-more {before} {middle} {after} {first} {second} {at} {next} {end} p q = record {
  has = q.has ∙ ap (λ (t : List ℕ). t ++ second) p.has ∙ append_assoc (take at before) first second;
  ends = omega (arith, p.ends, q.ends, length-append first second);
}

-- enough divisions are as good as more
pub digits-enough : (k m n : ℕ) → n ≤ k → n ≤ m → digits k n ≡ digits m n
unfolding digits
digits-enough zero zero n a b = refl
digits-enough zero (suc m) zero a b = refl
digits-enough zero (suc m) (suc n) a b = absurd (not-suc-le-zero a)
digits-enough (suc k) zero zero a b = refl
digits-enough (suc k) zero (suc n) a b = absurd (not-suc-le-zero b)
digits-enough (suc k) (suc m) n a b =
    ap (λ (t : List ℕ). cond (ltb n 10) ((48 + n) ∷ []) (t ++ (48 + n % 10) ∷ []))
    (digits-enough k m (n / 10) (omega (arith, a)) (omega (arith, b)))

-- a number of one digit
pub digits-one : (n : ℕ) → n < 10 → digits n n ≡ (48 + n % 10) ∷ []
unfolding digits
digits-one zero h = refl
digits-one (suc n) h = rw (lt-ltb (suc n) 10 h) (ap (λ (d : ℕ). (48 + d) ∷ []) (omega (arith, h)))

-- a number of more digits
pub digits_more : (n : ℕ) → 10 ≤ n → digits n n ≡ digits (n / 10) (n / 10) ++ (48 + n % 10) ∷ []
unfolding digits
digits_more zero h = absurd (not-suc-le-zero h)
digits_more (suc n) h =
    rw (le-ltb (suc n) 10 h)
    (ap (λ (t : List ℕ). t ++ (48 + suc n % 10) ∷ []) (digits-enough n (suc n / 10) (suc n / 10) (omega arith) (omega arith)))

-- a number below 10 to the k, k at least 1, has at most k digits
pub digits_long : (k n : ℕ) → n < 10 ^ suc k → length (digits n n) ≤ suc k
digits_long zero n h = rw (digits-one n h) (omega arith)
digits_long (suc k) n h = go (dec_lt n 10) (digits_long k (n / 10) (omega (arith, h, pow-suc 10 (suc k))))
  where
    go : Dec (n < 10) → length (digits (n / 10) (n / 10)) ≤ suc k → length (digits n n) ≤ suc (suc k)
    go (yes l) first = rw (digits-one n l) (omega arith)
    go (no l) first =
        rw (digits_more n (omega (arith, l))) (omega (arith, first, length-append (digits (n / 10) (n / 10)) ((48 + n % 10) ∷ [])))
