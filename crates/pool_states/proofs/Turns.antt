-- The turns of the loops over pairs, places and values. Assumes nothing.
use Prim.Native.Nat.{ℕ, suc, ◌+◌, ◌*◌, ◌-◌, ◌^◌, ◌<◌, ◌≤◌}
use mathlib.Core.Path.{◌≡◌, refl, sym, ap, ap₂, ◌∙◌}
use mathlib.Core.Bool.{Bool, true, false, not, ◌&&◌}
use mathlib.Core.List.{List, ◌∷◌}
use native.Mathlib.Omega.{arith}
use lib.Bits.{bit_or}
use lib.Dec.{ltb}
use lib.ListN.{length, get_or, take, drop, drop_of_length-le}
use lib.Seq.{drop-cons}
use lib.IntN.{ℤ, pos, negsuc, nat_abs}
use borrow.Author.Tests.{lt-ltb, le-ltb, not-true, not-false}
use Rattle.lists.specs.Lists.{all_of}
use Rattle.lists.specs.Bits.{bit, mask_from, mask_of}
use Rattle.deck.specs.Deck.{Deck, R, N}
use Rattle.pool.specs.Places.{is_zero, pairs_of}
use Rattle.pool.specs.States.{unused_zero}
use Rattle.pool_states.specs.Fits.{within, channels_of, channels_fit}
use Rattle.pool_states.specs.Laws.Fits.{within-below}
use Rattle.pool_states.specs.Laws.Unused.{unused-stretch, unused-part, unused-behind}

-- ---- pairs

-- the pair at an index and those behind it
pub pair-at : (l : List ℤ) (i : ℕ) → 4 + 2 * i ≤ length l
    → drop (2 + 2 * i) l ≡ get_or l (2 + 2 * i) (pos 0) ∷ get_or l (suc (2 + 2 * i)) (pos 0) ∷ drop (2 + 2 * (i + 1)) l
pair-at l i h =
    let e : suc (suc (2 + 2 * i)) ≡ 2 + 2 * (i + 1) = omega arith in
    drop-cons l (2 + 2 * i) (pos 0) (omega arith)
    ∙ ap (λ t. get_or l (2 + 2 * i) (pos 0) ∷ t)
    (drop-cons l (suc (2 + 2 * i)) (pos 0) (omega arith) ∙ ap (λ k. get_or l (suc (2 + 2 * i)) (pos 0) ∷ drop k l) e)

module _ (r m n i c : ℕ) (l : List ℤ) (e : c ≡ within r (get_or l (2 + 2 * i) (pos 0))) (h : i < n) (long : 2 + 2 * n ≤ length l) where
  abbrev rest : Bool
  rest = channels_fit r (bit_or m (2 ^ c)) (n - (i + 1)) (drop (2 + 2 * (i + 1)) l)

  fit-turn : channels_fit r m (n - i) (drop (2 + 2 * i) l) ≡ (ltb c r && not (bit m c) && rest)
  unfolding channels_fit
  fit-turn =
      let left : n - i ≡ suc (n - (i + 1)) = omega arith in
      ap₂ (channels_fit r m) left (pair-at l i (omega arith))
      ∙ ap (λ x. ltb x r && not (bit m x) && channels_fit r (bit_or m (2 ^ x)) (n - (i + 1)) (drop (2 + 2 * (i + 1)) l)) (sym e)

  pub fit_next : c < r → bit m c ≡ false → channels_fit r m (n - i) (drop (2 + 2 * i) l) ≡ rest
  fit_next a b = fit-turn ∙ ap₂ (λ x y. x && not y && rest) (lt-ltb c r a) b

  pub fit_wide : r ≤ c → channels_fit r m (n - i) (drop (2 + 2 * i) l) ≡ false
  fit_wide a = fit-turn ∙ ap (λ x. x && not (bit m c) && rest) (le-ltb c r a)

  pub fit-twice : bit m c ≡ true → channels_fit r m (n - i) (drop (2 + 2 * i) l) ≡ false
  fit-twice b = fit-turn ∙ ap (λ y. ltb c r && not y && rest) b ∙ none (ltb c r)
    where
      none : (b : Bool) → (b && false && rest) ≡ false
      none true = refl
      none false = refl

  -- one channel more in the set
  pub set_next : c < r
      → mask_from m (channels_of (n - i) (drop (2 + 2 * i) l))
      ≡ mask_from (bit_or m (2 ^ c)) (channels_of (n - (i + 1)) (drop (2 + 2 * (i + 1)) l))
  unfolding mask_from pairs_of
  set_next a =
      let left : n - i ≡ suc (n - (i + 1)) = omega arith in
      let number : nat_abs (get_or l (2 + 2 * i) (pos 0)) ≡ c = ap nat_abs (within-below r (get_or l (2 + 2 * i) (pos 0)) (omega (arith, e, a)))
      ∙ sym e in
      ap₂ (λ j t. mask_from m (channels_of j t)) left (pair-at l i (omega arith))
      ∙ ap (λ x. mask_from (bit_or m (2 ^ x)) (channels_of (n - (i + 1)) (drop (2 + 2 * (i + 1)) l))) number

pub set-start : (n : ℕ) (l : List ℤ) → mask_from 0 (channels_of (n - 0) (drop 2 l)) ≡ mask_of (channels_of n (drop 2 l))
unfolding mask_of
set-start n l = let e : n - 0 ≡ n = omega arith in ap (λ k. mask_from 0 (channels_of k (drop 2 l))) e

pub set-end : (m n i : ℕ) (t : List ℤ) → n ≤ i → mask_from m (channels_of (n - i) t) ≡ m
unfolding mask_from
set-end m n i t h = let e : n - i ≡ 0 = omega arith in ap (λ k. mask_from m (channels_of k t)) e

pub fit-start : (r n : ℕ) (l : List ℤ) → channels_fit r 0 (n - 0) (drop 2 l) ≡ channels_fit r 0 n (drop 2 l)
fit-start r n l = let e : n - 0 ≡ n = omega arith in ap (λ k. channels_fit r 0 k (drop 2 l)) e

-- it is from 0 to r
pub within-most : (b : ℕ) (z : ℤ) → within b z ≤ b
unfolding within
within-most b (pos n) = omega arith
within-most b (negsuc n) = omega arith

pub fit-end : (r m n i : ℕ) (t : List ℤ) → n ≤ i → channels_fit r m (n - i) t ≡ true
unfolding channels_fit
fit-end r m n i t h = let e : n - i ≡ 0 = omega arith in ap (λ k. channels_fit r m k t) e

-- ---- values

module _ (d : Deck) (r p : ℕ) (values : List ℤ) (e_r : R d ≡ r) (few : r ≤ 32) (h : p < N d) (long : 32 * p + 32 ≤ length values) where
  -- the numbers behind the channels of a part as they are lent, from one index to another
  abbrev behind : Bool
  behind = all_of is_zero (take (32 * p + 32 - (32 * p + r)) (drop (32 * p + r) values))

  abbrev later : Bool
  later = unused_zero d (32 * (p + 1)) (drop (32 * (p + 1)) values)

  -- the code tests the negation
  pub part-next : {b : Bool} → b ≡ behind → not b ≡ false → unused_zero d (32 * p) (drop (32 * p) values) ≡ later
  part-next {b} e k = unused-part d r p values e_r few h long ∙ ap (λ x. x && later) (sym e ∙ not-false b k)

  pub part-stop : {b : Bool} → b ≡ behind → not b ≡ true → unused_zero d (32 * p) (drop (32 * p) values) ≡ false
  part-stop {b} e k = unused-part d r p values e_r few h long ∙ ap (λ x. x && later) (sym e ∙ not-true b k)

pub value-end : (d : Deck) (values : List ℤ) (i : ℕ) → length values ≤ i → unused_zero d i (drop i values) ≡ true
unfolding unused_zero
value-end d values i h = ap (unused_zero d i) (drop_of_length-le values h)

-- all parts, and what is behind them
module _ (d : Deck) (n : ℕ) (values : List ℤ) (e : N d ≡ n) (long : 32 * n ≤ length values) where
  abbrev parts : Bool
  parts = unused_zero d 0 (take (32 * n) values)

  abbrev tail : Bool
  tail = all_of is_zero (drop (32 * n) values)

  split : unused_zero d 0 values ≡ (parts && tail)
  split =
      let all-parts : 0 + 32 * n ≡ 32 * N d = omega arith in
      unused-stretch d 0 (32 * n) values (omega arith)
      ∙ ap (λ k. parts && unused_zero d k (drop k values)) all-parts
      ∙ ap (λ b. parts && b) (unused-behind d (drop (32 * N d) values) ∙ ap (λ k. all_of is_zero (drop (32 * k) values)) e)

  pub values-stop : parts ≡ false → unused_zero d 0 values ≡ false
  values-stop k = split ∙ ap (λ x. x && tail) k

  pub values-last : parts ≡ true → unused_zero d 0 values ≡ tail
  values-last k = split ∙ ap (λ x. x && tail) k
