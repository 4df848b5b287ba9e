-- What a good state is, on values and pending updates; storing and loading keep it. Assumes nothing.
use Rattle.std.specs.Prelude.{ℕ, zero, suc, ◌+◌, ◌*◌, ◌-◌, ◌/◌, ◌≤◌, ◌≡◌, refl, Bool, true, ◌&&◌, eqb, get_or, take, drop, ℤ, pos, nat_abs}
use Rattle.std.proofs.Math.Path.{sym, ap, ap₂}
use Rattle.std.proofs.Common.{◌∙◌, arith, length-take, drop_at, take-add}
use mathlib.Core.List.{List, [], ◌∷◌, ◌++◌, map, flat_map}
use Rattle.std.proofs.Math.Dec.{leb}
use Rattle.std.proofs.Math.ListN.{length, length-drop, take-append-drop}
use borrow.Author.Tests.{leb-true, le-leb, eqb-true, eq-eqb}
use Rattle.lists.specs.Lists.{lists, all_of, eq_z}
use Rattle.lists.specs.Laws.Booleans.{and_both, four, five}
use Rattle.lists.specs.Laws.Alls.{all_of-head, all_of-tail, all_of-cons, all_of-replicate, all_of-map, all_of-every}
use Rattle.lists.specs.Laws.Equalities.{eq_z-true, eq_z-refl, eq_list-true}
use Rattle.deck.specs.Deck.{Deck}
use Rattle.charge.proofs.Laws.Equations.{update-at-least-one}
use Rattle.pool.specs.Updates.{Update, channels, all_different, charge}
use Rattle.pool.specs.Places.{zeros, is_zero, capacity, place, pool_of, pairs_of, update_of, well_written, places, updates_of}
use Rattle.pool.specs.States.{Machine, Memory, load, store, unused_zero, known, good}
use Rattle.pool.proofs.Laws.Places.{place-well, places-back, updates-back, places-length, pool-length}
use Rattle.pool.specs.Fine.{short}
use Rattle.pool.specs.Fine.{Fine}

-- every pending update has a charge of at least 1
pub count-bounded : (d : Deck) (us : List Update) → length us ≤ charge d us
unfolding charge lists
count-bounded d [] = omega arith
count-bounded d (u ∷ us) = omega (arith, update-at-least-one d u.part (channels u), count-bounded d us)

-- ---- storing

pub all-well : (us : List Update) → all_of well_written (map place us) ≡ true
all-well us = all_of-map well_written place us ∙ all_of-every (λ u. well_written (place u)) place-well us

zeros-zero : (n : ℕ) → all_of is_zero (zeros n) ≡ true
unfolding zeros is_zero
zeros-zero n = all_of-replicate is_zero n (pos 0) (eq_z-refl (pos 0))

module _ (d : Deck) (n : ℕ) (x : Machine) (f : Fine d (capacity n) x) where
  room : 10 * length x.pending ≤ n
  unfolding capacity
  room = omega (arith, count-bounded d x.pending, f.bounded)

  pub load_store : load (store n x) ≡ x
  unfolding load store pool_of
  load_store =
      ap (λ us. record { values = x.values; pending = us }) (updates-back (zeros (n - 10 * length x.pending)) x.pending f.short)

  pub store_length : length (store n x).pool ≡ n
  unfolding store
  store_length = pool-length n x.pending f.short room

  back : updates_of (length x.pending) (pool_of n x.pending) ≡ x.pending
  unfolding pool_of
  back = updates-back (zeros (n - 10 * length x.pending)) x.pending f.short

  written : all_of well_written (places (length x.pending) (pool_of n x.pending)) ≡ true
  unfolding pool_of
  written = ap (all_of well_written) (places-back (zeros (n - 10 * length x.pending)) x.pending f.short) ∙ all-well x.pending

  behind : all_of is_zero (drop (10 * length x.pending) (pool_of n x.pending)) ≡ true
  unfolding pool_of
  behind =
      ap (all_of is_zero) (drop_at (flat_map place x.pending) (zeros (n - 10 * length x.pending)) (10 * length x.pending)
      (places-length x.pending f.short))
      ∙ zeros-zero (n - 10 * length x.pending)

  pub good-stored : good d (store n x) ≡ true
  unfolding good store
  good-stored =
      let us = x.pending in
      let c = ap capacity (pool-length n us f.short room) in
      and_both
      (and_both
      (and_both
      (and_both
      (and_both
      (and_both (and_both (eq-eqb (length x.values) 512 f.long) f.unused)
      (le-leb (length us) _ (omega (arith, c, count-bounded d us, f.bounded))))
      written)
      behind)
      (ap (all_of (known d)) back ∙ f.known))
      (ap all_different back ∙ f.different))
      (ap (λ l. leb (charge d l) (capacity (length (pool_of n us)))) back ∙ le-leb (charge d us) _ (omega (arith, c, f.bounded)))

-- ---- loading

-- a place that is well written holds the numbers of its update
pub written_same : (l : List ℤ) → well_written l ≡ true → place (update_of l) ≡ l
unfolding well_written
written_same l h = eq_list-true eq_z eq_z-true (place (update_of l)) l h

-- the pool is its first n places and what is behind them
places-flat : (n : ℕ) (pool : List ℤ) → 10 * n ≤ length pool → all_of well_written (places n pool) ≡ true
    → flat_map place (updates_of n pool) ≡ take (10 * n) pool
unfolding updates_of places lists
places-flat zero pool l h = refl
places-flat (suc n) pool l h =
    let first = take 10 pool in
    let rest = drop 10 pool in
    let e = places-flat n rest (omega (arith, length-drop 10 pool)) (all_of-tail well_written first (places n rest) h) in
    ap₂ (λ a b. a ++ b) (written_same first (all_of-head well_written first (places n rest) h)) e
    ∙ sym (ap (λ k. take k pool) ten ∙ take-add 10 (10 * n) pool)
  where
    ten : 10 * suc n ≡ 10 + 10 * n
    ten = omega arith

zeros_of : (l : List ℤ) → all_of is_zero l ≡ true → l ≡ zeros (length l)
unfolding zeros is_zero lists
zeros_of [] h = refl
zeros_of (v ∷ l) h =
    ap₂ (λ a b. a ∷ b) (eq_z-true v (pos 0) (all_of-head is_zero v l h)) (zeros_of l (all_of-tail is_zero v l h))

pub updates-length : (n : ℕ) (pool : List ℤ) → length (updates_of n pool) ≡ n
unfolding updates_of places
updates-length zero pool = refl
updates-length (suc n) pool = ap suc (updates-length n (drop 10 pool))

-- a place of ten numbers has room for four pairs
pairs-few : (l : List ℤ) → 2 * length (pairs_of l) ≤ length l
unfolding pairs_of
pairs-few [] = omega arith
pairs-few (c ∷ []) = omega arith
pairs-few (c ∷ v ∷ l) = let e = pairs-few l in omega arith

pub place_short : (l : List ℤ) → length l ≤ 10 → short (update_of l) ≡ true
unfolding short update_of
place_short l h =
    let count = nat_abs (get_or l 1 (pos 0)) in
    let pairs = pairs_of (drop 2 l) in
    le-leb (length (take count pairs)) 4 (omega (arith, length-take count pairs, pairs-few (drop 2 l), length-drop 2 l))

pub updates-short : (n : ℕ) (pool : List ℤ) → all_of short (updates_of n pool) ≡ true
unfolding updates_of places lists
updates-short zero pool = refl
updates-short (suc n) pool =
    all_of-cons short (update_of (take 10 pool)) (updates_of n (drop 10 pool))
    (place_short (take 10 pool) (omega (arith, length-take 10 pool))) (updates-short n (drop 10 pool))

-- the tests of a good state one by one
pub record Tests (d : Deck) (m : Memory) : Type 0 where
  pub long : eqb (length m.state.values) 512 ≡ true
  pub unused : unused_zero d 0 m.state.values ≡ true
  pub few : leb m.state.pending (capacity (length m.pool)) ≡ true
  pub written : all_of well_written (places m.state.pending m.pool) ≡ true
  pub behind : all_of is_zero (drop (10 * m.state.pending) m.pool) ≡ true
  pub known : all_of (known d) (updates_of m.state.pending m.pool) ≡ true
  pub different : all_different (updates_of m.state.pending m.pool) ≡ true
  pub bounded : leb (charge d (updates_of m.state.pending m.pool)) (capacity (length m.pool)) ≡ true

pub good-tests : (d : Deck) (m : Memory) → good d m ≡ true → Tests d m
unfolding good
good-tests d m h =
    let us = updates_of m.state.pending m.pool in
    let long : Bool = eqb (length m.state.values) 512 in
    let unused : Bool = unused_zero d 0 m.state.values in
    let few : Bool = leb m.state.pending (capacity (length m.pool)) in
    let written : Bool = all_of well_written (places m.state.pending m.pool) in
    let behind : Bool = all_of is_zero (drop (10 * m.state.pending) m.pool) in
    let in_pool : Bool = long && unused && few && written && behind in
    let of_updates = four in_pool (all_of (known d) us) (all_different us) (leb (charge d us) (capacity (length m.pool))) h in
    let of_pool = five long unused few written behind of_updates.0 in
    record {
      long = of_pool.0;
      unused = of_pool.1;
      few = of_pool.2;
      written = of_pool.3;
      behind = of_pool.4;
      known = of_updates.1;
      different = of_updates.2;
      bounded = of_updates.3;
    }

module _ (d : Deck) (m : Memory) (h : good d m ≡ true) where
  t : Tests d m
  t = good-tests d m h

  pub fine-loaded : Fine d (capacity (length m.pool)) (load m)
  unfolding load
  fine-loaded =
      record {
        long = eqb-true (length m.state.values) 512 t.long;
        unused = t.unused;
        known = t.known;
        short = updates-short m.state.pending m.pool;
        different = t.different;
        bounded = leb-true (charge d (updates_of m.state.pending m.pool)) (capacity (length m.pool)) t.bounded;
      }

  pub store-load : store (length m.pool) (load m) ≡ m
  unfolding store load pool_of capacity
  store-load =
      let n = m.state.pending in
      let pool = m.pool in
      let few = leb-true n (length pool / 10) t.few in
      let same = updates-length n pool in
      let front = places-flat n pool (omega arith) t.written in
      let rest = zeros_of (drop (10 * n) pool) t.behind in
      let left : length pool - 10 * length (updates_of n pool) ≡ length (drop (10 * n) pool) =
      omega (arith, same, length-drop (10 * n) pool) in
      ap₂ (λ k l. record { state = record { values = m.state.values; pending = k }; pool = l }) same
      (ap₂ (λ a b. a ++ b) front (ap zeros left ∙ sym rest) ∙ take-append-drop (10 * n) pool)
