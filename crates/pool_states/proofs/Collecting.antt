-- What the loop over the pairs of a place keeps that collects their channels as a set. Assumes nothing.
use Prim.Native.Nat.{ℕ, suc, ◌+◌, ◌*◌, ◌-◌, ◌^◌, ◌<◌, ◌≤◌}
use mathlib.Core.Path.{◌≡◌, sym, ap, ap₂, ◌∙◌}
use mathlib.Core.Bool.{true, ◌&&◌}
use mathlib.Core.List.{List, ◌∷◌}
use native.Mathlib.Omega.{arith}
use lib.Bits.{bit_or}
use lib.Dec.{ltb}
use lib.ListN.{length, get_or, drop}
use lib.IntN.{ℤ, pos, nat_abs}
use borrow.Author.Tests.{ltb-true}
use Rattle.lists.specs.Bits.{mask_from, mask_of}
use Rattle.lists.specs.Laws.Booleans.{and_left, and_right}
use Rattle.pool.specs.Updates.{channels}
use Rattle.pool.specs.Places.{pairs_of, update_of}
use Rattle.pool_states.specs.Fits.{within, IsNatural, channels_of, in_range}
use Rattle.pool_states.specs.Laws.Fits.{within-natural}
use Rattle.pool_states.specs.Laws.PairsHeld.{PairsHeld}
use Rattle.pool_states.proofs.Turns.{pair-at}

-- with the channels of the other pairs, the set is that of all
pub record Collected (l : List ℤ) (n m i : ℕ) : Type 0 where
  pub few : n < 5
  pub reached : i ≤ n
  pub ranged : in_range 32 (n - i) (drop (2 + 2 * i) l) ≡ true
  pub same : mask_from m (channels_of (n - i) (drop (2 + 2 * i) l)) ≡ mask_of (channels (update_of l))

module _ (l : List ℤ) (n : ℕ) where
  pub collected-none : PairsHeld l n → Collected l n 0 0
  unfolding mask_of
  collected-none h =
      let e : n - 0 ≡ n = omega arith in
      record {
        few = h.few;
        reached = omega arith;
        ranged = ap (λ k. in_range 32 k (drop 2 l)) e ∙ h.ranged;
        same = ap (λ k. mask_from 0 (channels_of k (drop 2 l))) e ∙ ap (mask_from 0) h.same;
      }

  pub collected-all : {m i : ℕ} → Collected l n m i → n ≤ i → m ≡ mask_of (channels (update_of l))
  unfolding mask_from
  collected-all {m} {i} k h =
      let e : n - i ≡ 0 = omega arith in
      sym (ap (λ j. mask_from m (channels_of j (drop (2 + 2 * i) l))) e) ∙ k.same

  module _ (long : length l ≡ 10) {m i : ℕ} (k : Collected l n m i) (h : i < n) where
    abbrev z : ℤ
    z = get_or l (2 + 2 * i) (pos 0)

    abbrev behind : List ℤ
    behind = drop (2 + 2 * (i + 1)) l

    left : n - i ≡ suc (n - (i + 1))
    left = omega arith

    here : drop (2 + 2 * i) l ≡ z ∷ get_or l (suc (2 + 2 * i)) (pos 0) ∷ behind
    here = pair-at l i (omega (arith, k.few))

    tests : (ltb (within 32 z) 32 && in_range 32 (n - (i + 1)) behind) ≡ true
    unfolding in_range
    tests = sym (ap₂ (in_range 32) left here) ∙ k.ranged

    natural : IsNatural z × (nat_abs z ≡ within 32 z)
    natural = within-natural 32 z (ltb-true (within 32 z) 32 (and_left (ltb (within 32 z) 32) (in_range 32 (n - (i + 1)) behind) tests))

    pub collected-natural : IsNatural z
    collected-natural = natural.0

    pub collected-low : {c : ℕ} → c ≡ nat_abs z → c < 32
    collected-low e =
        omega (arith, e, natural.1, ltb-true (within 32 z) 32 (and_left (ltb (within 32 z) 32) (in_range 32 (n - (i + 1)) behind) tests))

    pub collected-more : {c : ℕ} → c ≡ nat_abs z → Collected l n (bit_or m (2 ^ c)) (i + 1)
    unfolding mask_from pairs_of
    collected-more e =
        record {
          few = k.few;
          reached = omega arith;
          ranged = and_right (ltb (within 32 z) 32) (in_range 32 (n - (i + 1)) behind) tests;
          same =
              ap (λ x. mask_from (bit_or m (2 ^ x)) (channels_of (n - (i + 1)) behind)) e
              ∙ sym (ap₂ (λ j t. mask_from m (channels_of j t)) left here)
              ∙ k.same;
        }
