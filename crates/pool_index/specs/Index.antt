-- An index of places in one list of numbers: buckets by a hash, and a tree in each. Place p has the number p + 1; a head holds that of
-- the first place of its bucket, and two links of each place those of places further down, 0 where there is none. A search goes down
-- by the bits of a place's numbers, so that the ways of different numbers part after at most as many steps as these have bits. A place
-- that was taken out is ten zeros, and stays as a branch. Assumes nothing.
use Rattle.std.specs.Prelude.{ℕ, suc, ◌+◌, ◌-◌, ◌*◌, ◌/◌, ◌≤◌, ◌<◌, ◌≡◌, ◌⊎◌, Bool, true, false, not, List, [], ◌∷◌, ◌++◌, length, get_or, ℤ, pos, Option, None, Some}
use Rattle.lists.specs.Lists.{any_of, eq_z, eq_list}
use Rattle.pool.specs.Places.{is_zero, places}
use Rattle.pool_index.specs.Hash.{bucket_of, side_of}

-- a third of the list are heads
unfoldable pub heads_of : List ℕ → ℕ
heads_of index = length index / 3

-- a link of the place with a number
unfoldable pub slot_of : ℕ → ℕ → ℕ → ℕ
slot_of heads i side = heads + 2 * (i - 1) + side

-- the number of the place that a slot belongs to, 0 of a head
unfoldable pub owner_of : ℕ → ℕ → ℕ
owner_of heads s = (s + 2 - heads) / 2

-- the way of these numbers, from a slot at a depth, comes to the place with number n
pub data Leads (heads : ℕ) (index : List ℕ) (row : List ℤ) : ℕ → ℕ → ℕ → Type 0 where
  here : {d s n : ℕ} → get_or index s 0 ≡ suc n → Leads heads index row d s (suc n)
  down : {d s i n : ℕ} → get_or index s 0 ≡ suc i → Leads heads index row (suc d) (slot_of heads (suc i) (side_of row d)) n
      → Leads heads index row d s n

-- it ends at the free slot e
pub data Ends (heads : ℕ) (index : List ℕ) (row : List ℤ) : ℕ → ℕ → ℕ → Type 0 where
  free : {d s : ℕ} → get_or index s 0 ≡ 0 → Ends heads index row d s s
  past : {d s i e : ℕ} → get_or index s 0 ≡ suc i → Ends heads index row (suc d) (slot_of heads (suc i) (side_of row d)) e
      → Ends heads index row d s e

-- a place that holds an update: its count is not 0
unfoldable pub lives : List ℤ → Bool
lives row = not (is_zero (get_or row 1 (pos 0)))

-- a link leads to a later place, and none to a number above the top
pub record Ordered (heads top : ℕ) (index : List ℕ) : Type 0 where
  pub slots : (s : ℕ) → s < length index → (get_or index s 0 ≡ 0) ⊎ ((owner_of heads s < get_or index s 0) × (get_or index s 0 ≤ top))
  pub inside : heads + 2 * top ≤ length index

-- the index of these places
pub record Indexed (ks : List (List ℤ)) (index : List ℕ) : Type 0 where
  pub leads : (p : ℕ) → p < length ks → lives (get_or ks p []) ≡ true
      → Leads (heads_of index) index (get_or ks p []) 0 (bucket_of (heads_of index) (get_or ks p [])) (suc p)
  pub ordered : Ordered (heads_of index) (length ks) index

-- an index with links for n places
pub record Roomy (most : ℕ) (index : List ℕ) : Type 0 where
  pub some : 3 ≤ length index
  pub few : length index ≤ 196610
  pub links : heads_of index + 2 * most ≤ length index

-- what a search for an update takes, among the used places
pub record Seeking (used : ℕ) (pool row : List ℤ) (index : List ℕ) : Type 0 where
  pub long : length row ≡ 10
  pub live : lives row ≡ true
  pub room : 10 * used ≤ length pool
  pub some : 0 < heads_of index
  pub most : heads_of index ≤ 65536
  pub indexed : Indexed (places used pool) index
  pub few : used ≤ 65535

-- it is not among the places, and its way ends at the free slot s
pub record FreeAt (used : ℕ) (pool row : List ℤ) (index : List ℕ) (s : ℕ) : Type 0 where
  pub none : any_of (λ w. eq_list eq_z w row) (places used pool) ≡ false
  pub ends : Ends (heads_of index) index row 0 (bucket_of (heads_of index) row) s

-- and what it comes to: none where it is among the places, else the free slot where its way ends
abbrev pub Finds : ℕ → List ℤ → List ℤ → List ℕ → Option ℕ → Type 0
Finds used pool row index None = any_of (λ w. eq_list eq_z w row) (places used pool) ≡ true
Finds used pool row index (Some s) = FreeAt used pool row index s

-- what the entering of one more place at a slot takes, and what it leaves
pub record Entering (used : ℕ) (row : List ℤ) (slot : ℕ) (index : List ℕ) : Type 0 where
  pub ks : List (List ℤ)
  pub count : length ks ≡ used
  pub indexed : Indexed ks index
  pub ends : Ends (heads_of index) index row 0 (bucket_of (heads_of index) row) slot
  pub some : 0 < heads_of index
  pub room : heads_of index + 2 * (used + 1) ≤ length index

pub record Enters (used : ℕ) (row : List ℤ) (index₀ index : List ℕ) : Type 0 where
  pub indexed : (ks : List (List ℤ)) → length ks ≡ used → Indexed ks index₀ → Indexed (ks ++ row ∷ []) index
  pub long : length index ≡ length index₀
