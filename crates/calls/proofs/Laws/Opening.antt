-- A start makes a good state. Assumes nothing.
use Prim.Native.Nat.{ℕ, zero, suc, ◌+◌, ◌*◌, ◌-◌, ◌≤◌, ◌<◌}
use Rattle.std.specs.Prelude.{◌≡◌, true, ◌||◌, replicate, ℤ, pos}
use Rattle.std.proofs.Math.Path.{refl, ap}
use Rattle.std.proofs.Common.{sym, ◌∙◌, add-zero}
use mathlib.Core.List.{List, [], ◌∷◌, ◌++◌, flat_map}
use native.Mathlib.Omega.{arith}
use Rattle.std.proofs.Math.Dec.{eqb}
use Rattle.std.proofs.Math.ListN.{length, length-append, length-replicate}
use borrow.Author.Tests.{eqb-true}
use Rattle.lists.specs.Lists.{lists, all_of}
use Rattle.lists.specs.Laws.Booleans.{and_both, and_left, and_right, or_left, or_right}
use Rattle.lists.specs.Laws.Alls.{all_of-head, all_of-tail}
use Rattle.lists.specs.Laws.Equalities.{eq_z-refl}
use Rattle.deck.specs.Deck.{Deck, Part, R, N}
use Rattle.deck.specs.Facts.{Formed}
use Rattle.pool.specs.Updates.{index_of, updates}
use Rattle.pool.specs.Places.{zeros, is_zero}
use Rattle.pool.specs.States.{unused_zero}
use Rattle.pool.proofs.Laws.Values.{used, used-index}
use Rattle.pool.specs.Fine.{Fine}
use Rattle.passing.specs.Check.{opening_values}
use Rattle.calls.specs.Calls.{opened}

module _ (d : Deck) where
  unused-append : (i : ℕ) (l m : List ℤ) → unused_zero d i l ≡ true → unused_zero d (i + length l) m ≡ true → unused_zero d i (l ++ m) ≡ true
  unfolding unused_zero
  unused-append i [] m p q = ap (λ k. unused_zero d k m) (sym (add-zero i)) ∙ q
  unused-append i (v ∷ l) m p q =
      and_both (and_left (used d i || is_zero v) (unused_zero d (suc i) l) p)
      (unused-append (suc i) l m (and_right (used d i || is_zero v) (unused_zero d (suc i) l) p) (ap (λ k. unused_zero d k m) shifted ∙ q))
    where
      shifted : suc i + length l ≡ i + suc (length l)
      shifted = omega arith

  unused-zeros : (i n : ℕ) → unused_zero d i (zeros n) ≡ true
  unfolding unused_zero zeros is_zero
  unused-zeros i zero = refl
  unused-zeros i (suc n) = and_both (or_right (used d i) (eq_z-refl (pos 0))) (unused-zeros (suc i) n)

  -- the channels of part p, from channel c on
  unused-part : R d ≤ 32 → (p c : ℕ) (l : List ℤ) → p < N d → c + length l ≤ R d → unused_zero d (32 * p + c) l ≡ true
  unfolding unused_zero index_of
  unused-part few p c [] lp h = refl
  unused-part few p c (v ∷ l) lp h =
      and_both (or_left (is_zero v) (used-index d p c lp (omega arith) few))
      (ap (λ k. unused_zero d k l) next ∙ unused-part few p (suc c) l lp (omega arith))
    where
      next : suc (32 * p + c) ≡ 32 * p + suc c
      next = omega arith

  abbrev row : Part → List ℤ
  row p = p.opening ++ zeros (32 - R d)

  row-length : R d ≤ 32 → (p : Part) → eqb (length p.opening) (R d) ≡ true → length (row p) ≡ 32
  unfolding zeros
  row-length few p h =
      omega (
        arith,
        length-append p.opening (replicate (32 - R d) (pos 0)),
        length-replicate (32 - R d) (pos 0),
        eqb-true (length p.opening) (R d) h,
      )

  rows-length : R d ≤ 32 → (ps : List Part) → all_of (λ p. eqb (length p.opening) (R d)) ps ≡ true
      → length (flat_map row ps) ≡ 32 * length ps
  unfolding lists
  rows-length few [] h = refl
  rows-length few (p ∷ ps) h =
      omega (
        arith,
        length-append (row p) (flat_map row ps),
        row-length few p (all_of-head (λ p. eqb (length p.opening) (R d)) p ps h),
        rows-length few ps (all_of-tail (λ p. eqb (length p.opening) (R d)) p ps h),
      )

  unused-rows : R d ≤ 32 → (k : ℕ) (ps : List Part) → k + length ps ≤ N d → all_of (λ p. eqb (length p.opening) (R d)) ps ≡ true
      → unused_zero d (32 * k) (flat_map row ps) ≡ true
  unfolding lists zeros
  unused-rows few k [] h e = unused-zeros (32 * k) 0
  unused-rows few k (p ∷ ps) h e =
      let long = all_of-head (λ p. eqb (length p.opening) (R d)) p ps e in
      let rest = all_of-tail (λ p. eqb (length p.opening) (R d)) p ps e in
      unused-append (32 * k) (row p) (flat_map row ps)
      (unused-append (32 * k) p.opening (zeros (32 - R d))
      (ap (λ i. unused_zero d i p.opening) (sym (add-zero (32 * k)))
      ∙ unused-part few k 0 p.opening (omega arith) (omega (arith, eqb-true (length p.opening) (R d) long)))
      (unused-zeros (32 * k + length p.opening) (32 - R d)))
      (ap (λ i. unused_zero d i (flat_map row ps)) (next (row-length few p long)) ∙ unused-rows few (suc k) ps (omega arith) rest)
    where
      next : length (row p) ≡ 32 → 32 * k + length (row p) ≡ 32 * suc k
      next e = omega arith

  pub fine-opened : Formed d → (C : ℕ) → Fine d C (opened d)
  unfolding opened opening_values lists updates zeros N
  fine-opened f C =
      let rows = flat_map row d.parts in
      let tail = 512 - 32 * N d in
      record {
        long = omega (
          arith,
          length-append rows (replicate tail (pos 0)),
          length-replicate tail (pos 0),
          rows-length f.channels d.parts f.openings,
          f.parts,
        );
        unused =
            unused-append 0 rows (zeros tail) (unused-rows f.channels 0 d.parts (omega arith) f.openings)
            (unused-zeros (0 + length rows) tail);
        known = refl;
        short = refl;
        different = refl;
        bounded = omega arith;
      }
