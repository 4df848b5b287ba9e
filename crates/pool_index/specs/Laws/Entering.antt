-- One more place entered, at the free slot where its way ends; and the places of a pool, one by one. Assumes nothing.
use Rattle.std.specs.Prelude.{ℕ, suc, ◌+◌, ◌*◌, ◌/◌, ◌%◌, ◌≤◌, ◌<◌, ◌≡◌, List, [], ◌∷◌, ◌++◌, length, set, take, drop, replicate, ℤ}
use Rattle.std.proofs.Common.{sym, subst, mul-lt-mul_of_pos_right, arith, length-set}
use Rattle.pool.specs.Places.{places}
use Rattle.pool_index.specs.Hash.{hash_of, bucket_of}
use Rattle.pool_index.specs.Index.{heads_of, Indexed, Roomy, Entering, Enters}
use Rattle.pool_index.specs.Laws.Indexed.{indexed-none, indexed-more, more-inside}
use Rattle.pool_index.specs.Laws.Front.{places-length, places-end}

-- a 2^32th of a number below 2^32, times the number of buckets, is a bucket
bucket-small : (h heads : ℕ) → h < 4294967296 → 0 < heads → h * heads / 4294967296 < heads
bucket-small h heads small some = omega (arith, mul-lt-mul_of_pos_right small some)

-- a bucket is one of the heads
pub bucket-low : (heads : ℕ) (row : List ℤ) → 0 < heads → bucket_of heads row < heads
unfolding bucket_of
bucket-low heads row some = bucket-small (hash_of row % 4294967296) heads (omega arith) some

module _ {used : ℕ} {row : List ℤ} {slot : ℕ} {index : List ℕ} (w : Entering used row slot index) where
  low : bucket_of (heads_of index) row < heads_of index
  low = bucket-low (heads_of index) row w.some

  one_more_lem : (ks : List (List ℤ)) → length ks ≡ used → Indexed ks index → Indexed (ks ++ row ∷ []) (set index slot (used + 1))
  one_more_lem ks count ix =
      let n : suc (length ks) ≡ used + 1 = omega (arith, count) in
      subst (λ x. Indexed (ks ++ row ∷ []) (set index slot x)) n (indexed-more ix row slot w.ends low (omega (arith, count, w.room)))

  -- the slot is one of the index
  pub entering-inside : slot < length index
  entering-inside = more-inside w.indexed row slot w.ends low (omega (arith, w.count, w.room))

  pub entering-done : Enters used row index (set index slot (used + 1))
  entering-done = record { indexed = one_more_lem; long = length-set index slot (used + 1) }

-- a roomy index has buckets, and no more than a hash can choose from
pub roomy-heads : {n : ℕ} {index : List ℕ} → Roomy n index → (0 < heads_of index) × (heads_of index ≤ 65536)
unfolding heads_of
roomy-heads r = (omega (arith, r.some), omega (arith, r.few))

pub entered-none : {n : ℕ} {index : List ℕ} (pool : List ℤ) → Roomy n index → index ≡ replicate (length index) 0
    → Indexed (places 0 pool) index
unfolding places
entered-none {n} {index} pool r e = indexed-none index e (omega (arith, r.links))

-- the place behind the first k
pub entered-next : (pool : List ℤ) {index₀ index : List ℕ} (k : ℕ) → Indexed (places k pool) index₀
    → Enters k (take 10 (drop (10 * k) pool)) index₀ index → Indexed (places (k + 1) pool) index
entered-next pool {index₀} {index} k ix w =
    subst (λ ks. Indexed ks index) (sym (places-end k pool)) (w.indexed (places k pool) (places-length k pool) ix)
