-- A place is well written and holds a known update exactly if it passes the tests of its numbers. Assumes nothing.
use Rattle.std.specs.Prelude.{ℕ, zero, suc, ◌+◌, ◌*◌, ◌-◌, ◌^◌, ◌<◌, ◌≤◌, ◌≡◌, refl, true, ◌&&◌, ℤ}
use Rattle.std.proofs.Math.Path.{sym, ap, ap₂}
use Rattle.std.proofs.Common.{◌∙◌, arith, Fits}
use Rattle.std.proofs.Math.Bool.{not}
use Rattle.std.proofs.lemmas.Bool.{false≢true}
use mathlib.Core.List.{List, [], ◌∷◌, ◌++◌, map, flat_map}
use Rattle.std.proofs.Math.Dec.{ltb}
use Rattle.std.proofs.Math.ListN.{length, take, drop, length-take, length-drop}
use Rattle.std.proofs.Math.Seq.{drop_at}
use Rattle.std.proofs.Math.IntN.{pos, nat_abs}
use Rattle.std.specs.Int.{w64}
use borrow.Author.Tests.{ltb-true, lt-ltb}
use Rattle.lists.specs.Lists.{lists, all_of, distinct, is_empty, eq_z, eq_list}
use Rattle.lists.specs.Bits.{bit}
use Rattle.lists.specs.Laws.Booleans.{and_both, and_left, and_right, four, from-four}
use Rattle.lists.specs.Laws.Statements.{same_test}
use Rattle.lists.specs.Laws.Alls.{all_of-head, all_of-tail, all_of-every, all_of-replicate}
use Rattle.lists.specs.Laws.Equalities.{eq_z-true, eq_z-refl, eq_list-true, eq_list-refl}
use Rattle.lists.specs.Laws.Bits.{bit-zero}
use Rattle.deck.specs.Deck.{Deck, R, N}
use Rattle.pool.specs.Updates.{Pair, channels}
use Rattle.pool.specs.Places.{zeros, is_zero, place, pairs_of, update_of, well_written}
use Rattle.pool.specs.States.{known}
use Rattle.pool_states.specs.Fits.{within, channels_of, channels_fit, pairs_fit, fits}
use Rattle.pool_states.specs.Laws.Fits.{within-below, within-pos, numbers, Known, known-fit, fit-known}

-- what code computes to lend place j of a pool
pub record Place (pool : List ℤ) (j : ℕ) : Type 0 where
  pub start : Fits w64 (10 * j)
  pub bytes : Fits w64 (10 * j * 4)
  pub end : Fits w64 (10 * j + 10)
  pub before : 10 * j ≤ length pool
  pub inside : 10 * j + 10 ≤ length pool

pub place_of : (pool : List ℤ) (j n : ℕ) → j < n → 10 * n ≤ length pool → length pool * 4 < 2 ^ 63 → Place pool j
place_of pool j n l room small = record {
  start = record { fits = omega arith };
  bytes = record { fits = omega arith };
  end = record { fits = omega arith };
  before = omega arith;
  inside = omega arith;
}

pairs-length : (n : ℕ) (t : List ℤ) → 2 * n ≤ length t → length (take n (pairs_of t)) ≡ n
unfolding pairs_of
pairs-length zero t l = refl
pairs-length (suc n) [] l = absurd (omega arith)
pairs-length (suc n) (c ∷ []) l = absurd (omega arith)
pairs-length (suc n) (c ∷ v ∷ t) l = ap suc (pairs-length n t (omega arith))

pairs-few : (t : List ℤ) → 2 * length (pairs_of t) ≤ length t
unfolding pairs_of
pairs-few [] = omega arith
pairs-few (c ∷ []) = omega arith
pairs-few (c ∷ v ∷ t) = let e = pairs-few t in omega arith

numbers-length : (l : List Pair) → length (flat_map numbers l) ≡ 2 * length l
unfolding lists
numbers-length [] = refl
numbers-length (a ∷ l) = let e = numbers-length l in omega arith

zeros_of : (l : List ℤ) → all_of is_zero l ≡ true → zeros (length l) ≡ l
unfolding zeros is_zero lists
zeros_of [] h = refl
zeros_of (v ∷ l) h = ap₂ (λ a b. a ∷ b) (sym (eq_z-true v (pos 0) (all_of-head is_zero v l h))) (zeros_of l (all_of-tail is_zero v l h))

zeros-zero : (n : ℕ) → all_of is_zero (zeros n) ≡ true
unfolding zeros is_zero
zeros-zero n = all_of-replicate is_zero n (pos 0) (eq_z-refl (pos 0))

some : {A : Type 0} (l : List A) → 0 < length l → not (is_empty l) ≡ true
unfolding lists
some [] h = absurd (omega arith)
some (x ∷ l) h = refl

not_none : {A : Type 0} (l : List A) → not (is_empty l) ≡ true → 0 < length l
unfolding lists
not_none [] h = absurd (false≢true h)
not_none (x ∷ l) h = omega arith

module _ (a b : ℤ) (t : List ℤ) (long : length t ≡ 8) where
  abbrev l : List ℤ
  l = a ∷ b ∷ t

  abbrev n : ℕ
  n = within 5 b

  abbrev ps : List Pair
  ps = take (nat_abs b) (pairs_of t)

  two-on : (k : ℕ) → drop (2 + 2 * k) l ≡ drop (2 * k) t
  two-on k = let e : 2 + 2 * k ≡ suc (suc (2 * k)) = omega arith in ap (λ j. drop j l) e

  -- what a well written place is, number by number
  pub record Written : Type 0 where
    pub part : pos (nat_abs a) ≡ a
    pub few : n < 5
    pub count : length ps ≡ n
    pub pairs : ps ≡ take n (pairs_of t)
    pub back : flat_map numbers (take n (pairs_of t)) ++ zeros (2 * (4 - n)) ≡ t

  pub written : well_written l ≡ true → Written
  unfolding well_written update_of place
  written w =
      let same : place (update_of l) ≡ l = eq_list-true eq_z eq_z-true (place (update_of l)) l w in
      let second : pos (length ps) ≡ b = cc in
      let back : flat_map numbers ps ++ zeros (2 * (4 - length ps)) ≡ t = cc in
      let few : length ps < 5 = omega (arith, length-take (nat_abs b) (pairs_of t), pairs-few t) in
      let count : n ≡ length ps = ap (within 5) (sym second) ∙ within-pos 5 (length ps) few in
      let size : nat_abs b ≡ n = sym (count ∙ ap nat_abs second) in
      let pairs : ps ≡ take n (pairs_of t) = ap (λ k. take k (pairs_of t)) size in
      record {
        part = cc;
        few = omega (arith, count);
        count = sym count;
        pairs = pairs;
        back = ap₂ (λ x k. flat_map numbers x ++ zeros (2 * (4 - k))) (sym pairs) count ∙ back;
      }

  module _ (d : Deck) where
    fits-known : fits (R d) (N d) l ≡ true → (well_written l ≡ true) × (known d (update_of l) ≡ true)
    unfolding fits pairs_fit well_written known update_of place channels
    fits-known h =
        let p = within (N d) a in
        let part = and_left (ltb p (N d)) (pairs_fit (R d) l) h in
        let tests =
        four (ltb 0 n) (ltb n 5) (channels_fit (R d) 0 n t) (all_of is_zero (drop (2 + 2 * n) l))
        (and_right (ltb p (N d)) (pairs_fit (R d) l) h) in
        let few = ltb-true n 5 tests.1 in
        let first : a ≡ pos p = within-below (N d) a (ltb-true p (N d) part) in
        let second : b ≡ pos n = within-below 5 b few in
        let k = fit-known (R d) 0 n t tests.2 in
        let pairs : ps ≡ take n (pairs_of t) = ap (λ z. take (nat_abs z) (pairs_of t)) second in
        let count : length ps ≡ n = ap length pairs ∙ pairs-length n t (omega arith) in
        let left : 2 * (4 - length ps) ≡ length (drop (2 * n) t) = omega (arith, count, length-drop (2 * n) t) in
        let rest = ap (all_of is_zero) (sym (two-on n)) ∙ tests.3 in
        let behind : zeros (2 * (4 - length ps)) ≡ drop (2 * n) t = ap zeros left ∙ zeros_of (drop (2 * n) t) rest in
        let back : flat_map numbers ps ++ zeros (2 * (4 - length ps)) ≡ t = ap₂ (λ x y. flat_map numbers x ++ y) pairs behind ∙ k.1 in
        let written : place (update_of l) ≡ l = λ i. (ap pos (ap nat_abs first) ∙ sym first) i ∷ (ap pos count ∙ sym second) i ∷ back i in
        let cs = map (λ (x : Pair). x.channel) ps in
        let same : cs ≡ channels_of n t = ap (map (λ x. x.channel)) pairs in (
          ap (λ m. eq_list eq_z m l) written ∙ eq_list-refl eq_z eq_z-refl l,
          from-four (ltb (nat_abs a) (N d)) (not (is_empty ps)) (all_of (λ c. ltb c (R d)) cs) (distinct cs) (
            ap (λ z. ltb (nat_abs z) (N d)) first ∙ part,
            some ps (omega (arith, count, ltb-true 0 n tests.0)),
            ap (all_of (λ c. ltb c (R d))) same ∙ k.0.ranged,
            ap distinct same ∙ k.0.different,
          ),
        )

    known-fits : Written → known d (update_of l) ≡ true → fits (R d) (N d) l ≡ true
    unfolding fits pairs_fit known update_of channels
    known-fits w h =
        let cs = map (λ (x : Pair). x.channel) ps in
        let tests = four (ltb (nat_abs a) (N d)) (not (is_empty ps)) (all_of (λ c. ltb c (R d)) cs) (distinct cs) h in
        let part : within (N d) a ≡ nat_abs a = ap (within (N d)) (sym w.part)
        ∙ within-pos (N d) (nat_abs a) (ltb-true (nat_abs a) (N d) tests.0) in
        let same : channels_of n t ≡ cs = sym (ap (map (λ x. x.channel)) w.pairs) in
        let k : Known (R d) 0 n t = record {
          ranged = ap (all_of (λ c. ltb c (R d))) same ∙ tests.2;
          different = ap distinct same ∙ tests.3;
          outside = all_of-every (λ c. not (bit 0 c)) (λ c. ap not (bit-zero c)) (channels_of n t);
        } in
        let zs = zeros (2 * (4 - n)) in
        let taken = take n (pairs_of t) in
        let two = numbers-length taken ∙ ap (λ k. 2 * k) (pairs-length n t (omega (arith, w.few))) in
        let rest : drop (2 * n) t ≡ zs = sym (ap (drop (2 * n)) w.back) ∙ drop_at (flat_map numbers taken) zs (2 * n) two in
        and_both (ap (λ x. ltb x (N d)) part ∙ tests.0)
        (from-four (ltb 0 n) (ltb n 5) (channels_fit (R d) 0 n t) (all_of is_zero (drop (2 + 2 * n) l)) (
          lt-ltb 0 n (omega (arith, w.count, not_none ps tests.1)),
          lt-ltb n 5 w.few,
          known-fit (R d) 0 n t zs (omega (arith, w.few)) w.back k,
          ap (all_of is_zero) (two-on n ∙ rest) ∙ zeros-zero (2 * (4 - n)),
        ))

-- the tests of ten numbers
pub fits-same : (d : Deck) (l : List ℤ) → length l ≡ 10 → fits (R d) (N d) l ≡ (well_written l && known d (update_of l))
fits-same d [] h = absurd (omega arith)
fits-same d (a ∷ []) h = absurd (omega arith)
fits-same d (a ∷ b ∷ t) h =
    let long : length t ≡ 8 = omega arith in
    let l = a ∷ b ∷ t in
    same_test (fits (R d) (N d) l) (well_written l && known d (update_of l))
    (λ e. let r = fits-known a b t long d e in and_both r.0 r.1)
    (λ e. known-fits a b t long d (written a b t long (and_left (well_written l) (known d (update_of l)) e))
    (and_right (well_written l) (known d (update_of l)) e))
