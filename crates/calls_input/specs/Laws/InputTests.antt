-- The test of an input list, as the code makes it: pair by pair, with a set of the channels so far. Assumes nothing.
use Prim.Native.Nat.{ℕ, zero, suc, ◌+◌, ◌*◌, ◌-◌, ◌/◌, ◌%◌, ◌^◌, ◌<◌, ◌≤◌}
use Rattle.std.specs.Prelude.{◌≡◌, true, false, ◌&&◌, eqb, length, get_or, take, drop, ℤ, pos, negsuc, nat_abs}
use Rattle.std.proofs.Math.Path.{refl, sym, ap, ap₂}
use Rattle.std.proofs.Common.{◌∙◌, drop-cons}
use Rattle.std.proofs.Math.Bool.{Bool, not}
use Rattle.std.proofs.lemmas.Bool.{false≢true}
use mathlib.Core.List.{List, [], ◌∷◌, ◌++◌, map, flat_map}
use native.Mathlib.Omega.{arith}
use Rattle.std.specs.Int.Bits.{bit_or}
use Rattle.std.proofs.Math.Dec.{leb, ltb}
use borrow.Author.Tests.{le-leb, lt-leb, ltb-true, lt-ltb, le-ltb, eq-eqb, ne_eqb}
use Rattle.lists.specs.Lists.{lists, all_of, distinct}
use Rattle.lists.specs.Bits.{bit}
use Rattle.lists.specs.Laws.Booleans.{and_both, and_left, and_right}
use Rattle.lists.specs.Laws.Statements.{same_test}
use Rattle.lists.specs.Laws.Alls.{all_of-none, all_of-cons, all_of-head, all_of-tail, all_of-every, all_of-map, all_of-weaken}
use Rattle.lists.specs.Laws.Bits.{bit-zero}
use Rattle.deck.specs.Deck.{Deck, R}
use Rattle.pool.specs.Places.{pairs_of}
use Rattle.pool_states.specs.Fits.{within, channels_fit}
use Rattle.pool_states.specs.Laws.Fits.{numbers, known-fit, fit-known}
use Rattle.pool_states.specs.Fits as Fits
use Rattle.firing.specs.Evaluated.{Assignable}
use Rattle.calls.specs.Calls.{channels_of, good_input}
use Rattle.calls.proofs.Laws.Inputs.{inside, inside-known, input-inside}

-- ---- the number of pairs

module _ (r : ℕ) where
  fit-inside : (c : ℤ) → ltb (within r c) r ≡ true → inside r c ≡ true
  unfolding within
  fit-inside (pos a) h = let low = ltb-true _ r h in and_both (le-leb 0 a (omega arith)) (lt-ltb a r (omega arith))
  fit-inside (negsuc a) h = let low = ltb-true r r h in absurd (omega arith)

  fits-inside : (m n : ℕ) (l : List ℤ) → length l ≡ 2 * n → channels_fit r m n l ≡ true → all_of (inside r) (channels_of l) ≡ true
  unfolding channels_fit channels_of
  fits-inside m zero [] e h = all_of-none (inside r)
  fits-inside m zero (c ∷ l) e h = absurd (omega arith)
  fits-inside m (suc n) [] e h = absurd (omega arith)
  fits-inside m (suc n) (c ∷ []) e h = absurd (omega arith)
  fits-inside m (suc n) (c ∷ v ∷ l) e h =
      let k = within r c in
      let tests : Bool = ltb k r && not (bit m k) in
      let rest : Bool = channels_fit r (bit_or m (2 ^ k)) n l in
      all_of-cons (inside r) c (channels_of l) (fit-inside c (and_left (ltb k r) (not (bit m k)) (and_left tests rest h)))
      (fits-inside (bit_or m (2 ^ k)) n l (omega arith) (and_right tests rest h))

  inside-pos : (c : ℤ) → inside r c ≡ true → pos (nat_abs c) ≡ c
  inside-pos (pos a) h = refl
  inside-pos (negsuc a) h = absurd (false≢true h)

  inside_back : (n : ℕ) (l : List ℤ) → length l ≡ 2 * n → all_of (inside r) (channels_of l) ≡ true
      → flat_map numbers (take n (pairs_of l)) ++ [] ≡ l
  unfolding channels_of pairs_of lists
  inside_back zero [] e h = refl
  inside_back zero (c ∷ l) e h = absurd (omega arith)
  inside_back (suc n) [] e h = absurd (omega arith)
  inside_back (suc n) (c ∷ []) e h = absurd (omega arith)
  inside_back (suc n) (c ∷ v ∷ l) e h =
      ap₂ (λ a t. a ∷ v ∷ t) (inside-pos c (all_of-head (inside r) c (channels_of l) h))
      (inside_back n l (omega arith) (all_of-tail (inside r) c (channels_of l) h))

same-channels : (n : ℕ) (l : List ℤ) → length l ≡ 2 * n → Fits.channels_of n l ≡ map nat_abs (channels_of l)
unfolding channels_of pairs_of
same-channels zero [] e = refl
same-channels zero (c ∷ l) e = absurd (omega arith)
same-channels (suc n) [] e = absurd (omega arith)
same-channels (suc n) (c ∷ []) e = absurd (omega arith)
same-channels (suc n) (c ∷ v ∷ l) e = ap (λ t. nat_abs c ∷ t) (same-channels n l (omega arith))

pairs-fit : (r n : ℕ) (l : List ℤ) → length l ≡ 2 * n
    → channels_fit r 0 n l ≡ (all_of (inside r) (channels_of l) && distinct (map nat_abs (channels_of l)))
pairs-fit r n l e =
    let cs = map nat_abs (channels_of l) in
    let same = same-channels n l e in
    same_test (channels_fit r 0 n l) (all_of (inside r) (channels_of l) && distinct cs)
    (λ h. and_both (fits-inside r 0 n l e h) (ap distinct (sym same) ∙ (fit-known r 0 n l h).0.different))
    (λ h.
    let known = and_left (all_of (inside r) (channels_of l)) (distinct cs) h in
    let ranged = all_of-map (λ c. ltb c r) nat_abs (channels_of l)
    ∙ all_of-weaken (λ c. ltb (nat_abs c) r) (inside r) (inside-known r) (channels_of l) known in
    known-fit r 0 n l [] (omega arith) (inside_back r n l e known)
    (record {
      ranged = ap (all_of (λ c. ltb c r)) same ∙ ranged;
      different = ap distinct same ∙ and_right (all_of (inside r) (channels_of l)) (distinct cs) h;
      outside = all_of-every (λ c. not (bit 0 c)) (λ c. ap not (bit-zero c)) (Fits.channels_of n l);
    }))

-- ---- the whole test

module _ (d : Deck) (l : List ℤ) where
  abbrev known : Bool
  known = all_of (inside (R d)) (channels_of l)

  abbrev different : Bool
  different = distinct (map nat_abs (channels_of l))

  abbrev even : Bool
  even = eqb (length l % 2) 0

  pub input-short : length l < 2 → false ≡ good_input d l
  unfolding good_input
  input-short h = ap (λ b. b && leb (length l) 64 && even && known && different) (sym (lt-leb 2 (length l) h))

  pub input-long : 64 < length l → false ≡ good_input d l
  unfolding good_input
  input-long h =
      sym (ap₂ (λ a b. a && b && even && known && different) (le-leb 2 (length l) (omega arith)) (lt-leb (length l) 64 h))

  module _ (low : 2 ≤ length l) (high : length l ≤ 64) where
    pub input-odd : (length l % 2 ≡ 0 → ⊥) → false ≡ good_input d l
    unfolding good_input
    input-odd h =
        sym (ap₂ (λ a b. a && b && even && known && different) (le-leb 2 (length l) low) (le-leb (length l) 64 high)
        ∙ ap (λ b. b && known && different) (ne_eqb (length l % 2) 0 h))

    pub input_fit : length l % 2 ≡ 0 → (r : ℕ) → R d ≡ r → channels_fit r 0 (length l / 2) l ≡ good_input d l
    unfolding good_input
    input_fit z r e =
        ap (λ r. channels_fit r 0 (length l / 2) l) (sym e)
        ∙ pairs-fit (R d) (length l / 2) l (omega arith)
        ∙ sym (ap₂ (λ a b. a && b && even && known && different) (le-leb 2 (length l) low) (le-leb (length l) 64 high)
        ∙ ap (λ b. b && known && different) (eq-eqb (length l % 2) 0 z))

-- ---- one pair after the other

-- the pair at an index and those behind it
pair-at : (l : List ℤ) (i : ℕ) → 2 + 2 * i ≤ length l
    → drop (2 * i) l ≡ get_or l (2 * i) (pos 0) ∷ get_or l (suc (2 * i)) (pos 0) ∷ drop (2 * (i + 1)) l
pair-at l i h =
    let e : suc (suc (2 * i)) ≡ 2 * (i + 1) = omega arith in
    drop-cons l (2 * i) (pos 0) (omega arith)
    ∙ ap (λ t. get_or l (2 * i) (pos 0) ∷ t)
    (drop-cons l (suc (2 * i)) (pos 0) (omega arith) ∙ ap (λ k. get_or l (suc (2 * i)) (pos 0) ∷ drop k l) e)

module _ (r m n i c : ℕ) (l : List ℤ) (e : c ≡ within r (get_or l (2 * i) (pos 0))) (h : i < n) (long : 2 * n ≤ length l) where
  abbrev rest : Bool
  rest = channels_fit r (bit_or m (2 ^ c)) (n - (i + 1)) (drop (2 * (i + 1)) l)

  turn : channels_fit r m (n - i) (drop (2 * i) l) ≡ (ltb c r && not (bit m c) && rest)
  unfolding channels_fit
  turn =
      let left : n - i ≡ suc (n - (i + 1)) = omega arith in
      ap₂ (channels_fit r m) left (pair-at l i (omega arith))
      ∙ ap (λ x. ltb x r && not (bit m x) && channels_fit r (bit_or m (2 ^ x)) (n - (i + 1)) (drop (2 * (i + 1)) l)) (sym e)

  pub pair-next : c < r → bit m c ≡ false → channels_fit r m (n - i) (drop (2 * i) l) ≡ rest
  pair-next a b = turn ∙ ap₂ (λ x y. x && not y && rest) (lt-ltb c r a) b

  pub pair-unknown : r ≤ c → channels_fit r m (n - i) (drop (2 * i) l) ≡ false
  pair-unknown a = turn ∙ ap (λ x. x && not (bit m c) && rest) (le-ltb c r a)

  pub pair-twice : bit m c ≡ true → channels_fit r m (n - i) (drop (2 * i) l) ≡ false
  pair-twice b = turn ∙ ap (λ y. ltb c r && not y && rest) b ∙ none (ltb c r)
    where
      none : (b : Bool) → (b && false && rest) ≡ false
      none true = refl
      none false = refl

pub pairs_start : (r n : ℕ) (l : List ℤ) → channels_fit r 0 (n - 0) (drop (2 * 0) l) ≡ channels_fit r 0 n l
pairs_start r n l = let e : n - 0 ≡ n = omega arith in ap (λ k. channels_fit r 0 k l) e

pub pairs_end : (r m n i : ℕ) (t : List ℤ) → n ≤ i → channels_fit r m (n - i) t ≡ true
unfolding channels_fit
pairs_end r m n i t h = let e : n - i ≡ 0 = omega arith in ap (λ k. channels_fit r m k t) e

-- a number that is not the bound is below it
pub within-small : (b n : ℕ) (z : ℤ) → n ≡ within b z → (n ≡ b → ⊥) → n < b
unfolding within
within-small b n (pos k) e h = omega arith
within-small b n (negsuc k) e h = absurd (h e)

-- ---- what a good list has

inside-channel : (r : ℕ) → r ≤ 32 → (l : List ℤ) → all_of (inside r) (channels_of l) ≡ true → Assignable l
unfolding channels_of
inside-channel r few [] h i low = absurd (omega arith)
inside-channel r few (c ∷ []) h i low = absurd (omega arith)
inside-channel r few (c ∷ v ∷ l) h zero low =
    let first = all_of-head (inside r) c (channels_of l) h in
    (nat_abs c, sym (inside-pos r c first), omega (arith, ltb-true (nat_abs c) r (inside-known r c first)))
inside-channel r few (c ∷ v ∷ l) h (suc i) low =
    let e : 2 * suc i ≡ suc (suc (2 * i)) = omega arith in
    let x = inside-channel r few l (all_of-tail (inside r) c (channels_of l) h) i (omega arith) in
    (x.0, ap (λ k. get_or (c ∷ v ∷ l) k (pos 0)) e ∙ x.1, x.2)

pub input-assignable : (d : Deck) (l : List ℤ) → R d ≤ 32 → good_input d l ≡ true → Assignable l
input-assignable d l few h = inside-channel (R d) few l (input-inside d l h)
