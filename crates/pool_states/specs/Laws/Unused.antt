-- The numbers of a value table that belong to no channel, stretch by stretch. Assumes nothing.
use Prim.Native.Nat.{ℕ, suc, ◌+◌, ◌*◌, ◌-◌, ◌/◌, ◌%◌, ◌≤◌, ◌<◌}
use Rattle.std.specs.Prelude.{◌≡◌, true, false, ◌&&◌, ◌||◌, ltb, take, drop, ℤ}
use Rattle.std.proofs.Math.Path.{refl, sym, ap, ap₂}
use Rattle.std.proofs.Common.{◌∙◌, add-zero, take-append-drop, length-take, length-drop, drop-drop, lt-ltb, le-ltb}
use Rattle.std.proofs.Math.Bool.{and_assoc, and-false}
use mathlib.Core.List.{List, [], ◌∷◌, ◌++◌}
use native.Mathlib.Omega.{arith}
use Rattle.std.proofs.Math.ListN.{length}
use Rattle.lists.specs.Lists.{lists, all_of}
use Rattle.lists.specs.Laws.Booleans.{and_both}
use Rattle.deck.specs.Deck.{Deck, R, N}
use Rattle.pool.specs.Places.{is_zero}
use Rattle.pool.specs.States.{unused_zero}
use Rattle.pool.proofs.Laws.Values.{used}

module _ (d : Deck) where
  pub unused-append : (i : ℕ) (l m : List ℤ) → unused_zero d i (l ++ m) ≡ (unused_zero d i l && unused_zero d (i + length l) m)
  unfolding unused_zero
  unused-append i [] m = ap (λ k. unused_zero d k m) (sym (add-zero i))
  unused-append i (v ∷ l) m =
      ap (λ b. (used d i || is_zero v) && b) (unused-append (suc i) l m ∙ ap (λ k. unused_zero d (suc i) l && unused_zero d k m) shifted)
      ∙ sym (and_assoc (used d i || is_zero v) (unused_zero d (suc i) l) (unused_zero d (i + suc (length l)) m))
    where
      shifted : suc i + length l ≡ i + suc (length l)
      shifted = omega arith

  -- all belong to channels, or none does
  all-used : (i : ℕ) (l : List ℤ) → ((k : ℕ) → i ≤ k → k < i + length l → used d k ≡ true) → unused_zero d i l ≡ true
  unfolding unused_zero
  all-used i [] h = refl
  all-used i (v ∷ l) h =
      ap₂ (λ u b. (u || is_zero v) && b) (h i (omega arith) (omega arith)) (all-used (suc i) l (λ k a b. h k (omega arith) (omega arith)))

  none-used : (i : ℕ) (l : List ℤ) → ((k : ℕ) → i ≤ k → k < i + length l → used d k ≡ false) → unused_zero d i l ≡ all_of is_zero l
  unfolding unused_zero lists
  none-used i [] h = refl
  none-used i (v ∷ l) h =
      ap₂ (λ u b. (u || is_zero v) && b) (h i (omega arith) (omega arith)) (none-used (suc i) l (λ k a b. h k (omega arith) (omega arith)))

  -- the n numbers from an index on, and those behind them
  module _ (i n : ℕ) (l : List ℤ) (long : i + n ≤ length l) where
    abbrev stretch : List ℤ
    stretch = take n (drop i l)

    pub stretch-long : length stretch ≡ n
    stretch-long = omega (arith, length-take n (drop i l), length-drop i l)

    pub unused-stretch : unused_zero d i (drop i l) ≡ (unused_zero d i stretch && unused_zero d (i + n) (drop (i + n) l))
    unused-stretch =
        ap (unused_zero d i) (sym (take-append-drop n (drop i l)))
        ∙ unused-append i stretch (drop n (drop i l))
        ∙ ap₂ (λ k t. unused_zero d i stretch && unused_zero d (i + k) t) stretch-long (drop-drop n i l)

  -- a part: its channels, zeros behind them, and the parts that follow
  module _ (r p : ℕ) (l : List ℤ) (e_r : R d ≡ r) (few : r ≤ 32) (h : p < N d) (long : 32 * p + 32 ≤ length l) where
    pub unused-part : unused_zero d (32 * p) (drop (32 * p) l)
        ≡ (all_of is_zero (take (32 * p + 32 - (32 * p + r)) (drop (32 * p + r) l)) && unused_zero d (32 * (p + 1)) (drop (32 * (p + 1)) l))
    unused-part =
        let n : ℕ = 32 * p + 32 - (32 * p + r) in
        let e : 32 * p + r + n ≡ 32 * (p + 1) = omega arith in
        let first = stretch-long (32 * p) r l (omega arith) in
        let second = stretch-long (32 * p + r) n l (omega arith) in
        let own = all-used (32 * p) (take r (drop (32 * p) l)) (λ k a b.
        and_both (lt-ltb (k / 32) (N d) (omega (arith, first))) (lt-ltb (k % 32) (R d) (omega (arith, first)))) in
        let behind = none-used (32 * p + r) (take n (drop (32 * p + r) l)) (λ k a b.
        ap (λ x. ltb (k / 32) (N d) && x) (le-ltb (k % 32) (R d) (omega (arith, second))) ∙ and-false (ltb (k / 32) (N d))) in
        unused-stretch (32 * p) r l (omega arith)
        ∙ ap (λ b. b && unused_zero d (32 * p + r) (drop (32 * p + r) l)) own
        ∙ unused-stretch (32 * p + r) n l (omega arith)
        ∙ ap₂ (λ b k. b && unused_zero d k (drop k l)) behind e

  -- behind the last part
  pub unused-behind : (l : List ℤ) → unused_zero d (32 * N d) l ≡ all_of is_zero l
  unused-behind l = none-used (32 * N d) l (λ k a b. ap (λ x. x && ltb (k % 32) (R d)) (le-ltb (k / 32) (N d) (omega arith)))
