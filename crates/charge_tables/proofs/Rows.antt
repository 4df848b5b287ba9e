-- Rows of numbers, one for each part: entries written one after the other, and what they add up to. Assumes nothing.
use Prim.Native.Nat.{ℕ, zero, suc, ◌+◌, ◌*◌, ◌-◌, ◌<◌, ◌≤◌}
use mathlib.Core.Path.{◌≡◌, refl, sym, ap, ◌∙◌}
use mathlib.Core.Logic.{◌⊎◌, inl, inr, ⊎_elim}
use mathlib.Core.Bool.{Bool, true, false, not, cond}
use mathlib.Core.List.{List}
use native.Mathlib.Nat.{eq-or-lt_of_le}
use native.Mathlib.Numerals.{add-one}
use native.Mathlib.Decide.{dec_lt}
use native.Mathlib.Omega.{arith}
use lib.Dec.{eqb}
use lib.ListN.{length, get_or, set, replicate, length-set}
use borrow.Author.Tests.{eq-eqb, ne_eqb}
use lib.Seq.{get_or-set_same, get_or-set_other}
use Rattle.lists.specs.Lists.{sum_of, below}
use Rattle.lists.specs.Bits.{bit}
use Rattle.lists.specs.Laws.Sums.{sum_of-cong, sum_of-plus}
use Rattle.lists.specs.Laws.Steps.{sum_of-start, sum_of-next, sum_of-only}
use Rattle.charge.specs.Memo.{RowSmall, RowKnown, RowAdded, RowPut, capped}

pub small-inside : {r q n : ℕ} {row : List ℕ} → RowSmall r row → q < n → n ≤ 16 → q < length row
small-inside s l few = omega (arith, s.long)

-- a row of one number has no larger one
pub replicate-most : (x n i : ℕ) → get_or (replicate n x) i 0 ≤ x
replicate-most x zero i = omega arith
replicate-most x (suc n) zero = omega arith
replicate-most x (suc n) (suc i) = replicate-most x n i

-- the k entries from a on are those of g, and the others as they were
pub record Filled (g : ℕ → ℕ) (a : ℕ) (xs ys : List ℕ) (k : ℕ) : Type 0 where
  pub long : length ys ≡ length xs
  pub done : (q : ℕ) → q < k → get_or ys (a + q) 0 ≡ g q
  pub rest : (i : ℕ) → (i < a) ⊎ (a + k ≤ i) → get_or ys i 0 ≡ get_or xs i 0

module _ {g : ℕ → ℕ} {a : ℕ} {xs : List ℕ} where
  pub filled_none : Filled g a xs xs 0
  filled_none = record { long = refl; done = λ q l. absurd (omega arith); rest = λ i _. refl }

  module _ {ys : List ℕ} {k : ℕ} (h : Filled g a xs ys k) where
    -- the entry at a + k is done besides
    step : (zs : List ℕ) → length zs ≡ length ys → get_or zs (a + k) 0 ≡ g k
        → ((i : ℕ) → (i ≡ a + k → ⊥) → get_or zs i 0 ≡ get_or ys i 0)
        → Filled g a xs zs (k + 1)
    step zs l here other =
        record {
          long = l ∙ h.long;
          done = λ q m.
              ⊎_elim
              (λ (e : q ≡ k). ap (λ j. get_or zs (a + j) 0) e ∙ here ∙ sym (ap g e))
              (λ (v : q < k). other (a + q) (λ e. omega arith) ∙ h.done q v)
              (eq-or-lt_of_le (omega arith));
          rest = λ i m.
              other i (λ e. ⊎_elim (λ (v : i < a). omega arith) (λ (v : a + (k + 1) ≤ i). omega arith) m)
              ∙ h.rest i (⊎_elim (λ v. inl v) (λ (v : a + (k + 1) ≤ i). inr (omega arith)) m);
        }

    pub filled-set : (i x : ℕ) → i ≡ a + k → i < length xs → x ≡ g k → Filled g a xs (set ys i x) (k + 1)
    filled-set i x at l e =
        step (set ys i x) (length-set ys i x)
        (ap (λ j. get_or (set ys i x) j 0) (sym at) ∙ get_or-set_same ys i x 0 (omega (arith, h.long)) ∙ e)
        (λ j n. get_or-set_other ys i j x 0 (λ e. n (e ∙ at)))

    pub filled-kept : get_or xs (a + k) 0 ≡ g k → Filled g a xs ys (k + 1)
    filled-kept e = step ys refl (h.rest (a + k) (inr (omega arith)) ∙ e) (λ i _. refl)

    pub filled_at : (i q : ℕ) → i ≡ a + q → q < k → get_or ys i 0 ≡ g q
    filled_at i q at l = ap (λ j. get_or ys j 0) at ∙ h.done q l

-- what row r of the memo m adds at part q
abbrev pub term : List ℕ → List ℕ → ℕ → ℕ → ℕ
term parts m r q = cond (bit (get_or parts (4 * q) 0) r) (get_or m (16 * r + q) 0 - 1) 0

-- it was added at the first k parts
pub record Adding (parts m : List ℕ) (N r : ℕ) (row₀ row : List ℕ) (k : ℕ) : Type 0 where
  pub small : RowSmall r row₀
  pub known : RowKnown N r m
  pub filled : Filled (λ q. get_or row₀ q 0 + term parts m r q) 0 row₀ row k

module _ {parts m : List ℕ} {N r : ℕ} {row₀ row : List ℕ} {k : ℕ} (h : Adding parts m N r row₀ row k) where
  pub as_before : get_or row k 0 ≡ get_or row₀ k 0
  as_before = h.filled.rest k (inr (omega arith))

  pub adding-yes : (x : ℕ) → k < 16 → bit (get_or parts (4 * k) 0) r ≡ true
      → x ≡ get_or row k 0 + (get_or m (16 * r + k) 0 - 1) → Adding parts m N r row₀ (set row k x) (k + 1)
  adding-yes x l t e =
      let this : term parts m r k ≡ get_or m (16 * r + k) 0 - 1 = ap (λ b. cond b (get_or m (16 * r + k) 0 - 1) 0) t in
      record {
        small = h.small;
        known = h.known;
        filled = filled-set h.filled k x (omega arith) (omega (arith, h.small.long)) (omega (arith, e, as_before, this));
      }

  pub adding-no : bit (get_or parts (4 * k) 0) r ≡ false → Adding parts m N r row₀ row (k + 1)
  adding-no t =
      let none : term parts m r k ≡ 0 = ap (λ b. cond b (get_or m (16 * r + k) 0 - 1) 0) t in
      let e : 0 + k ≡ k = omega arith in
      record {
        small = h.small;
        known = h.known;
        filled = filled-kept h.filled (ap (λ j. get_or row₀ j 0) e ∙ omega (arith, none));
      }

  pub adding-all : k ≡ N → RowAdded parts m N r row₀ row
  adding-all e =
      record {
        small = record { long = h.filled.long ∙ h.small.long; each = λ q. most q (dec_lt q N) };
        each = each;
      }
    where
      each : (q : ℕ) → q < N → get_or row q 0 ≡ get_or row₀ q 0 + term parts m r q
      each q l = filled_at h.filled q q (omega arith) (omega arith)

      low : (q : ℕ) → q < N → term parts m r q ≤ 65536
      low q l = go (bit (get_or parts (4 * q) 0) r)
        where
          go : (b : Bool) → cond b (get_or m (16 * r + q) 0 - 1) 0 ≤ 65536
          go true = omega (arith, h.known.low q l)
          go false = omega arith

      most : (q : ℕ) → Dec (q < N) → get_or row q 0 ≤ 1 + 65536 * (r + 1)
      most q (yes l) = omega (arith, each q l, low q l, h.small.each q)
      most q (no n) = omega (arith, h.filled.rest q (inr (omega arith)), h.small.each q)

-- ---- row r of the memo is written

-- what it has at part p: of the charges in `second` the part's own, or the sum of the others
abbrev pub entry : ℕ → ℕ → List ℕ → List ℕ → ℕ → ℕ
entry N kind first second p =
    suc (capped (get_or first p 0 + cond (eqb kind 1) (sum_of (λ q. get_or second q 0) (below N) - get_or second p 0) (get_or second p 0)))

-- it was written at the first k parts
pub record Putting (N r kind : ℕ) (first second m₀ m : List ℕ) (k : ℕ) : Type 0 where
  pub filled : Filled (entry N kind first second) (16 * r) m₀ m k

module _ {N r kind : ℕ} {first second m₀ m : List ℕ} {k : ℕ} (h : Putting N r kind first second m₀ m k) where
  pub putting-more : (x : ℕ) → 16 * r + k < length m₀ → x ≡ entry N kind first second k
      → Putting N r kind first second m₀ (set m (16 * r + k) x) (k + 1)
  putting-more x l e = record { filled = filled-set h.filled (16 * r + k) x refl l e }

  pub putting-all : k ≡ N → RowPut N r kind first second m₀ m
  putting-all e =
      record {
        long = h.filled.long;
        each = λ p l. h.filled.done p (omega arith);
        others = λ i o. h.filled.rest i (⊎_elim (λ a. inl a) (λ (b : 16 * r + N ≤ i). inr (omega arith)) o);
      }

-- what the action adds is within its total
pub share-most : (b : Bool) (total own : ℕ) → own ≤ total → cond b (total - own) own ≤ total
share-most true total own l = omega arith
share-most false total own l = l

-- the total is needed for the others alone
pub share-only : (b : Bool) (total own : ℕ) → cond b (cond b total 0 - own) own ≡ cond b (total - own) own
share-only true total own = refl
share-only false total own = refl

-- ---- sums over the parts

-- the part p, and the others
pub sum-parted : (f : ℕ → ℕ) (n p : ℕ) → p < n → sum_of f (below n) ≡ f p + sum_of (λ q. cond (not (eqb q p)) (f q) 0) (below n)
sum-parted f n p l =
    let one = sum_of-only only p (λ q h. ap (λ b. cond b (f q) 0) (ne_eqb q p h)) n l in
    let this : only p ≡ f p = ap (λ b. cond b (f p) 0) (eq-eqb p p refl) in
    let both = sum_of-cong f (λ q. only q + other q) (below n) (λ q _. split (eqb q p) (f q)) ∙ sum_of-plus only other (below n) in
    omega arith
  where
    only : ℕ → ℕ
    only q = cond (eqb q p) (f q) 0

    other : ℕ → ℕ
    other q = cond (not (eqb q p)) (f q) 0

    split : (b : Bool) (x : ℕ) → x ≡ cond b x 0 + cond (not b) x 0
    split true x = omega arith
    split false x = omega arith

-- numbers up to b
pub sum-most : (f : ℕ → ℕ) (b n : ℕ) → ((q : ℕ) → f q ≤ b) → sum_of f (below n) ≤ n * b
sum-most f b zero h = omega (arith, sum_of-start f)
sum-most f b (suc n) h =
    let e = ap (λ k. sum_of f (below k)) (sym (add-one n)) in
    omega (arith, e, sum_of-next f n, h n, sum-most f b n h)

-- terms that agree up to the cap have sums that do
pub sum-capped : (f g : ℕ → ℕ) (n : ℕ) → ((q : ℕ) → q < n → capped (f q) ≡ capped (g q))
    → capped (sum_of f (below n)) ≡ capped (sum_of g (below n))
sum-capped f g zero h = ap capped (sum_of-start f ∙ sym (sum_of-start g))
sum-capped f g (suc n) h =
    let e = ap (λ k. sum_of f (below k)) (sym (add-one n)) in
    let i = ap (λ k. sum_of g (below k)) (sym (add-one n)) in
    omega (arith, e, i, sum_of-next f n, sum_of-next g n, h n (omega arith), sum-capped f g n (λ q l. h q (omega arith)))

module _ {row : List ℕ} {n : ℕ} (h : RowSmall 64 row) (few : n ≤ 16) where
  pub row-most : sum_of (λ q. get_or row q 0) (below n) ≤ 67108880
  row-most = omega (arith, sum-most (λ q. get_or row q 0) 4194305 n (λ q. omega (arith, h.each q)))
