-- A place is well written and holds a known update exactly if it passes the tests of its numbers. Assumes nothing.
use Prim.Native.Nat.{ℕ, zero, suc, ◌*◌, ◌^◌, ◌<◌, ◌≤◌}
use Rattle.std.specs.Prelude.{◌≡◌, true, false, ◌&&◌, ◌||◌, eqb, length, take, ℤ, negsuc}
use Rattle.std.proofs.Math.Path.{refl, sym, ap, ap₂}
use Rattle.std.proofs.Common.{◌∙◌}
use Rattle.std.proofs.Math.Bool.{Bool, not}
use Rattle.std.proofs.lemmas.Bool.{false≢true}
use mathlib.Core.List.{List, [], ◌∷◌, ◌++◌, flat_map}
use native.Mathlib.Omega.{arith}
use Rattle.std.specs.Int.Bits.{bit_or}
use Rattle.std.proofs.Math.Dec.{ltb}
use Rattle.std.proofs.Math.ListN.{drop}
use Rattle.std.proofs.Math.IntN.{pos, nat_abs}
use borrow.Author.Tests.{ltb-true, lt-ltb, eq-eqb, eqb-true, not-true}
use Rattle.lists.specs.Lists.{lists, all_of, distinct, member}
use Rattle.lists.specs.Bits.{bit}
use Rattle.lists.specs.Laws.Booleans.{and_both, and_left, and_right, or-false-both, or-false-left, or_right, contradiction, not-true→false}
use Rattle.lists.specs.Laws.Alls.{all_of-head, all_of-tail, all_of-weaken}
use Rattle.lists.specs.Laws.Members.{all_of-member}
use Rattle.lists.specs.Laws.Bits.{bit-or, bit-power}
use Rattle.pool.specs.Updates.{Pair}
use Rattle.pool.specs.Places.{pairs_of}
use Rattle.pool_states.specs.Fits.{within, IsNatural, channels_of, channels_fit}

pub within-below : (b : ℕ) (z : ℤ) → within b z < b → z ≡ pos (within b z)
unfolding within
within-below b (pos n) h = ap pos (omega arith)
within-below b (negsuc n) h = absurd (omega arith)

pub within-pos : (b n : ℕ) → n < b → within b (pos n) ≡ n
unfolding within
within-pos b n h = omega arith

-- a number below the bound is the one that is read
pub within-natural : (b : ℕ) (z : ℤ) → within b z < b → IsNatural z × (nat_abs z ≡ within b z)
unfolding within
within-natural b (pos n) h = (refl, omega arith)
within-natural b (negsuc n) h = absurd (omega arith)

-- ---- channels that are not in a set, and one more in the set

module _ (m c : ℕ) where
  one_more_lem : (x : ℕ) → bit (bit_or m (2 ^ c)) x ≡ (bit m x || eqb x c)
  one_more_lem x = bit-or m (2 ^ c) x ∙ ap (λ b. bit m x || b) (bit-power c x)

  outside-more : (cs : List ℕ) → all_of (λ x. not (bit m x)) cs ≡ true → member c cs ≡ false
      → all_of (λ x. not (bit (bit_or m (2 ^ c)) x)) cs ≡ true
  outside-more cs h k =
      (all_of-member (λ x. not (bit (bit_or m (2 ^ c)) x)) cs).1 λ x z.
      ap not
      (one_more_lem x
      ∙ or-false-both (not-true (bit m x) ((all_of-member (λ x. not (bit m x)) cs).0 h x z))
      (not-true→false (eqb x c) (λ e. contradiction (ap (λ y. member y cs) (sym (eqb-true x c e)) ∙ z) k)))

  outside-fewer : (cs : List ℕ) → all_of (λ x. not (bit (bit_or m (2 ^ c)) x)) cs ≡ true → all_of (λ x. not (bit m x)) cs ≡ true
  outside-fewer cs h =
      all_of-weaken (λ x. not (bit m x)) (λ x. not (bit (bit_or m (2 ^ c)) x))
      (λ x e. ap not (or-false-left (bit m x) (eqb x c) (sym (one_more_lem x) ∙ not-true _ e))) cs h

  not-again : (cs : List ℕ) → all_of (λ x. not (bit (bit_or m (2 ^ c)) x)) cs ≡ true → member c cs ≡ false
  not-again cs h =
      not-true→false (member c cs) λ z.
      contradiction (one_more_lem c ∙ or_right (bit m c) (eq-eqb c c refl))
      (not-true _ ((all_of-member (λ x. not (bit (bit_or m (2 ^ c)) x)) cs).0 h c z))

-- ---- the pairs behind part and count

abbrev pub numbers : Pair → List ℤ
numbers a = pos a.channel ∷ a.value ∷ []

module _ (R : ℕ) where
  -- they are different, below R, and outside the set m
  pub record Known (m n : ℕ) (t : List ℤ) : Type 0 where
    pub ranged : all_of (λ c. ltb c R) (channels_of n t) ≡ true
    pub different : distinct (channels_of n t) ≡ true
    pub outside : all_of (λ c. not (bit m c)) (channels_of n t) ≡ true

  pub known-fit : (m n : ℕ) (t z : List ℤ) → 2 * n ≤ length t → flat_map numbers (take n (pairs_of t)) ++ z ≡ t → Known m n t
      → channels_fit R m n t ≡ true
  unfolding channels_fit pairs_of lists
  known-fit m zero t z l e k = refl
  known-fit m (suc n) [] z l e k = absurd (omega arith)
  known-fit m (suc n) (c ∷ []) z l e k = absurd (omega arith)
  known-fit m (suc n) (c ∷ v ∷ t) z l e k =
      let first : pos (nat_abs c) ≡ c = cc in
      let rest : flat_map numbers (take n (pairs_of t)) ++ z ≡ t = cc in
      let small = ltb-true (nat_abs c) R (all_of-head (λ c. ltb c R) (nat_abs c) (channels_of n t) k.ranged) in
      let same : within R c ≡ nat_abs c = ap (within R) (sym first) ∙ within-pos R (nat_abs c) small in
      let new =
      not-true (member (nat_abs c) (channels_of n t))
      (and_left (not (member (nat_abs c) (channels_of n t))) (distinct (channels_of n t)) k.different) in
      let others : Known (bit_or m (2 ^ nat_abs c)) n t = record {
        ranged = all_of-tail (λ c. ltb c R) (nat_abs c) (channels_of n t) k.ranged;
        different = and_right (not (member (nat_abs c) (channels_of n t))) (distinct (channels_of n t)) k.different;
        outside = outside-more m (nat_abs c) (channels_of n t) (all_of-tail (λ c. not (bit m c)) (nat_abs c) (channels_of n t) k.outside) new;
      } in
      ap (λ x. ltb x R && not (bit m x) && channels_fit R (bit_or m (2 ^ x)) n t) same
      ∙ and_both (and_both (lt-ltb (nat_abs c) R small) (all_of-head (λ c. not (bit m c)) (nat_abs c) (channels_of n t) k.outside))
      (known-fit (bit_or m (2 ^ nat_abs c)) n t z (omega arith) rest others)

  pub fit-known : (m n : ℕ) (t : List ℤ) → channels_fit R m n t ≡ true
      → Known m n t × (flat_map numbers (take n (pairs_of t)) ++ drop (2 * n) t ≡ t) × (2 * n ≤ length t)
  unfolding channels_fit pairs_of lists
  fit-known m zero t h = (record { ranged = refl; different = refl; outside = refl }, refl, omega arith)
  fit-known m (suc n) [] h = absurd (false≢true h)
  fit-known m (suc n) (c ∷ []) h = absurd (false≢true h)
  fit-known m (suc n) (c ∷ v ∷ t) h =
      let k = within R c in
      let tests : Bool = ltb k R && not (bit m k) in
      let front = and_left tests (channels_fit R (bit_or m (2 ^ k)) n t) h in
      let small = ltb-true k R (and_left (ltb k R) (not (bit m k)) front) in
      let first : c ≡ pos k = within-below R c small in
      let same : nat_abs c ≡ k = ap nat_abs first in
      let r = fit-known (bit_or m (2 ^ k)) n t (and_right tests (channels_fit R (bit_or m (2 ^ k)) n t) h) in
      let cs = channels_of n t in
      let new = not-again m k cs r.0.outside in
      let two : 2 * suc n ≡ suc (suc (2 * n)) = omega arith in (
        record {
          ranged = ap (λ x. ltb x R && all_of (λ c. ltb c R) cs) same ∙ and_both (and_left (ltb k R) (not (bit m k)) front) r.0.ranged;
          different = ap (λ x. not (member x cs) && distinct cs) same ∙ and_both (ap not new) r.0.different;
          outside =
              ap (λ x. not (bit m x) && all_of (λ c. not (bit m c)) cs) same
              ∙ and_both (and_right (ltb k R) (not (bit m k)) front) (outside-fewer m k cs r.0.outside);
        },
        ap₂ (λ a b. a ∷ v ∷ b) (ap pos same ∙ sym first) (ap (λ j. flat_map numbers (take n (pairs_of t)) ++ drop j (c ∷ v ∷ t)) two ∙ r.1),
        omega (arith, r.2),
      )
