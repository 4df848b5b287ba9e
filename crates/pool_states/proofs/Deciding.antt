-- The tests of a place one by one. Assumes nothing.
use Prim.Native.Nat.{ℕ, ◌+◌, ◌*◌, ◌-◌, ◌^◌, ◌<◌, ◌≤◌}
use mathlib.Core.Path.{◌≡◌, sym, ap, ap₂, ◌∙◌}
use mathlib.Core.Bool.{Bool, true, false, ◌&&◌}
use mathlib.Core.List.{List}
use native.Mathlib.Omega.{arith}
use lib.Bits.{bit_or, or_zero_l}
use lib.Dec.{ltb}
use lib.ListN.{length, get_or, take, drop, length-drop}
use lib.Seq.{take-length}
use lib.IntN.{ℤ, pos}
use Rattle.std.specs.Prelude.{Option, None, Some}
use borrow.Author.Tests.{ltb-true, lt-ltb, le-ltb}
use Rattle.lists.specs.Lists.{all_of}
use Rattle.lists.specs.Bits.{mask_of}
use Rattle.lists.specs.Laws.Booleans.{Four, four, from-four, and_left, and_right, contradiction, not-true→false}
use Rattle.lists.specs.Laws.Bits.{bit-zero}
use Rattle.deck.specs.Deck.{Deck, R, N}
use Rattle.pool.specs.Places.{is_zero, update_of, well_written}
use Rattle.pool.specs.States.{known}
use Rattle.pool_states.specs.Answer.{FitsPairs, FitsPlace}
use Rattle.pool_states.specs.Fits.{within, channels_of, channels_fit, pairs_fit, fits}
use Rattle.pool_states.specs.Laws.PairsHeld.{known-low, pairs-held}
use Rattle.pool_states.specs.Laws.Places.{fits-same}
use Rattle.pool_states.proofs.Turns.{fit_next, fit_wide, fit-end, set_next, set-end}

module _ (r c : ℕ) (l : List ℤ) (e : c ≡ within 5 (get_or l 1 (pos 0))) where
  abbrev front : Bool
  front = ltb 0 c && ltb c 5 && channels_fit r 0 c (drop 2 l)

  abbrev behind : Bool
  behind = all_of is_zero (drop (2 + 2 * c) l)

  whole : pairs_fit r l ≡ (front && behind)
  unfolding pairs_fit
  whole = ap (λ x. ltb 0 x && ltb x 5 && channels_fit r 0 x (drop 2 l) && all_of is_zero (drop (2 + 2 * x) l)) (sym e)

  tests : pairs_fit r l ≡ true → Four (ltb 0 c) (ltb c 5) (channels_fit r 0 c (drop 2 l)) behind
  tests h = four (ltb 0 c) (ltb c 5) (channels_fit r 0 c (drop 2 l)) behind (sym whole ∙ h)

  pub no_pairs : c ≡ 0 → pairs_fit r l ≡ false
  no_pairs h = not-true→false (pairs_fit r l) (λ t. omega (arith, ltb-true 0 c (tests t).0))

  pub many-pairs : c ≡ 5 → pairs_fit r l ≡ false
  many-pairs h = not-true→false (pairs_fit r l) (λ t. omega (arith, ltb-true c 5 (tests t).1))

  pub no-channels : channels_fit r 0 c (drop 2 l) ≡ false → pairs_fit r l ≡ false
  no-channels h = not-true→false (pairs_fit r l) (λ t. contradiction (tests t).2 h)

  pub no-zeros : behind ≡ false → pairs_fit r l ≡ false
  no-zeros h = not-true→false (pairs_fit r l) (λ t. contradiction (tests t).3 h)

  pub all-pairs : 0 < c → c < 5 → channels_fit r 0 c (drop 2 l) ≡ true → behind ≡ true → pairs_fit r l ≡ true
  all-pairs h0 h5 h z =
      whole ∙ from-four (ltb 0 c) (ltb c 5) (channels_fit r 0 c (drop 2 l)) behind (lt-ltb 0 c h0, lt-ltb c 5 h5, h, z)

  -- the set of their channels
  pub pairs_set : {m : ℕ} → pairs_fit r l ≡ true → m ≡ mask_of (channels_of c (drop 2 l)) → FitsPairs r l (Some m)
  pairs_set f set = (f, set ∙ ap (λ k. mask_of (channels_of k (drop 2 l))) e)

-- a tail as it is lent, from an index to the end
pub tail-zeros : (l : List ℤ) (k : ℕ) {b : Bool} → b ≡ all_of is_zero (take (length l - k) (drop k l)) → b ≡ all_of is_zero (drop k l)
tail-zeros l k e =
    e ∙ ap (all_of is_zero) (ap (λ j. take j (drop k l)) (sym (length-drop k l)) ∙ take-length (drop k l))

-- ---- one pair

module _ (r c : ℕ) (l : List ℤ) (long : length l ≡ 10) (one : get_or l 1 (pos 0) ≡ pos 1) (e : c ≡ within r (get_or l 2 (pos 0))) where
  single : ◌≡◌ {A = ℕ} 1 (within 5 (get_or l 1 (pos 0)))
  unfolding within
  single = ap (within 5) (sym one)

  pub single-unknown : r ≤ c → pairs_fit r l ≡ false
  single-unknown h =
      no-channels r 1 l single (fit_wide r 0 1 0 c l e (omega arith) (omega arith) h)

  pub single_more : all_of is_zero (drop 4 l) ≡ false → pairs_fit r l ≡ false
  single_more h = no-zeros r 1 l single h

  pub single-fit : c < r → all_of is_zero (drop 4 l) ≡ true → FitsPairs r l (Some (2 ^ c))
  unfolding mask_of
  single-fit h z =
      let known = fit_next r 0 1 0 c l e (omega arith) (omega arith) h (bit-zero c)
      ∙ fit-end r (bit_or 0 (2 ^ c)) 1 1 (drop 4 l) (omega arith) in
      let set = set_next r 0 1 0 c l e (omega arith) (omega arith) h ∙ set-end (bit_or 0 (2 ^ c)) 1 1 (drop 4 l) (omega arith) in
      pairs_set r 1 l single (all-pairs r 1 l single (omega arith) (omega arith) known z) (sym (set ∙ or_zero_l (2 ^ c)))

-- ---- part and pairs

module _ (r n : ℕ) (l : List ℤ) (long : length l ≡ 10) {p : ℕ} (e : p ≡ within n (get_or l 0 (pos 0))) where
  answer : (d : Deck) → R d ≡ r → N d ≡ n → (well_written l && known d (update_of l)) ≡ (ltb p n && pairs_fit r l)
  unfolding fits
  answer d e_r e_n =
      sym (fits-same d l long) ∙ ap₂ (λ x y. fits x y l) e_r e_n ∙ ap (λ x. ltb x n && pairs_fit r l) (sym e)

  pub no_part : n ≤ p → FitsPlace r n l None
  no_part h d e_r e_n = answer d e_r e_n ∙ ap (λ b. b && pairs_fit r l) (le-ltb p n h)

  pub with_part : (m : Option ℕ) → p < n → r ≤ 32 → FitsPairs r l m → FitsPlace r n l m
  with_part None h few f d e_r e_n = answer d e_r e_n ∙ ap (λ b. b && pairs_fit r l) (lt-ltb p n h) ∙ f
  with_part (Some m) h few f d e_r e_n =
      let fit = answer d e_r e_n ∙ ap (λ b. b && pairs_fit r l) (lt-ltb p n h) ∙ f.0 in
      let written = and_left (well_written l) (known d (update_of l)) fit in
      let low = known-low d (update_of l) (and_right (well_written l) (known d (update_of l)) fit) (omega (arith, few, e_r)) in
      (fit, f.1 ∙ ap mask_of (pairs-held l long written low).same)
