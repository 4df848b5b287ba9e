-- What the functions of the test for a good state answer. Assumes nothing.
use Rattle.std.specs.Prelude.{ℕ, ◌*◌, ◌≡◌, Bool, true, false, ◌&&◌, cond, List, leb, eqb, length, get_or, drop, replicate, ℤ, pos, Option, None, Some}
use Rattle.lists.specs.Lists.{all_of}
use Rattle.lists.specs.Bits.{mask_of}
use Rattle.deck.specs.Deck.{Deck, R, N}
use Rattle.charge.specs.Charge.{update_charge}
use Rattle.charge.specs.Memo.{Memo, Answered, capped}
use Rattle.pool.specs.Updates.{channels, all_different, charge}
use Rattle.pool.specs.Places.{is_zero, capacity, update_of, well_written, places, updates_of}
use Rattle.pool.specs.States.{Memory, unused_zero, known, good}
use Rattle.pool_index.specs.Index.{Indexed, Roomy}
use Rattle.pool_states.specs.Fits.{within, channels_of, channels_fit, pairs_fit}

-- the set of the channels cs where a test holds, and none where it does not
abbrev pub IfFit : Bool → List ℕ → Option ℕ → Type 0
IfFit test cs None = test ≡ false
IfFit test cs (Some m) = (test ≡ true) × (m ≡ mask_of cs)

-- the channels of the first n pairs
abbrev pub FitsChannels : ℕ → ℕ → List ℤ → Option ℕ → Type 0
FitsChannels R' n t r = IfFit (channels_fit R' 0 n t) (channels_of n t) r

-- the channels of a place, by its count of pairs
abbrev pub FitsPairs : ℕ → List ℤ → Option ℕ → Type 0
FitsPairs R' l r = IfFit (pairs_fit R' l) (channels_of (within 5 (get_or l 1 (pos 0))) (drop 2 l)) r

-- a test of a state sees of a deck only how many channels and parts it has
abbrev pub FitsPlace : ℕ → ℕ → List ℤ → Option ℕ → Type 0
FitsPlace R' N' l r = (d : Deck) → R d ≡ R' → N d ≡ N' → IfFit (well_written l && known d (update_of l)) (channels (update_of l)) r

abbrev pub FitsValues : ℕ → ℕ → List ℤ → Bool → Type 0
FitsValues R' N' values r = (d : Deck) → R d ≡ R' → N d ≡ N' → r ≡ unused_zero d 0 values

-- the place of a well written, known update
pub record HoldsKnown (d : Deck) (l : List ℤ) : Type 0 where
  pub long : length l ≡ 10
  pub written : well_written l ≡ true
  pub known : known d (update_of l) ≡ true

-- s is the charge of the update that a place holds, and the memo that is left is right
abbrev pub PlaceGives : Deck → List ℤ → List ℕ → ℕ → Type 0
PlaceGives d l m s = Answered d (update_charge d (update_of l).part (channels (update_of l))) m s

-- each of n places is well written and holds a known update
unfoldable pub all_fit : Deck → ℕ → List ℤ → Bool
all_fit d n pool = all_of well_written (places n pool) && all_of (known d) (updates_of n pool)

-- the charge of the pending updates where all fit and no two are equal
abbrev pub weight_of : Deck → ℕ → List ℤ → Option ℕ
weight_of d n pool = cond (all_fit d n pool && all_different (updates_of n pool)) (Some (capped (charge d (updates_of n pool)))) None

-- the index of the pending places, where the test is passed
pub record IndexedIf (pending : ℕ) (pool : List ℤ) (index₀ index : List ℕ) (passed : Type 0) : Type 0 where
  pub indexed : passed → Indexed (places pending pool) index
  pub long : length index ≡ length index₀

pub record Weighs (d : Deck) (n : ℕ) (pool : List ℤ) (m index₀ index : List ℕ) (r : Option ℕ) : Type 0 where
  pub answer : r ≡ weight_of d n pool
  pub memo : Memo d m
  pub indexes : IndexedIf n pool index₀ index ((total : ℕ) × (r ≡ Some total))

-- the state and the pool that were lent
abbrev pub memory_of : List ℤ → ℕ → List ℤ → Memory
memory_of values pending pool = record { state = record { values = values; pending = pending }; pool = pool }

-- what `good` tests of the values, the count, and the numbers behind the pending places
unfoldable pub framed : Deck → Memory → Bool
framed d m =
    let n = m.state.pending in
    eqb (length m.state.values) 512
    && unused_zero d 0 m.state.values
    && leb n (capacity (length m.pool))
    && all_of is_zero (drop (10 * n) m.pool)

abbrev pub FitsState : ℕ → ℕ → Memory → Bool → Type 0
FitsState R' N' m r = (d : Deck) → R d ≡ R' → N d ≡ N' → r ≡ framed d m

-- all that it tests but the charge
unfoldable pub uncharged : Deck → Memory → Bool
uncharged d m =
    let n = m.state.pending in
    framed d m && all_fit d n m.pool && all_different (updates_of n m.pool)

abbrev pub goodness_of : Deck → Memory → Option ℕ
goodness_of d m = cond (good d m) (Some (charge d (updates_of m.state.pending m.pool))) None

-- an index of zeros, with room for all places of a pool of n numbers
pub record Fresh (n : ℕ) (index : List ℕ) : Type 0 where
  pub roomy : Roomy (capacity n) index
  pub zeros : index ≡ replicate (length index) 0

-- the answer, a memo that is still right, and the index of a good state
pub record TestsGood (d : Deck) (values : List ℤ) (pending : ℕ) (pool : List ℤ) (m index₀ index : List ℕ) (r : Option ℕ) : Type 0 where
  pub answer : r ≡ goodness_of d (memory_of values pending pool)
  pub memo : Memo d m
  pub indexes : IndexedIf pending pool index₀ index ((total : ℕ) × (r ≡ Some total))
