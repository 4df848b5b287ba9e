-- The places of a pool in which updates were taken out: each used place holds an update or is ten zeros. What is pending are the updates
-- that still stand there, in their order. Assumes nothing.
use Rattle.std.specs.Prelude.{ℕ, suc, ◌+◌, ◌*◌, ◌-◌, ◌≤◌, ◌≡◌, ◌⊎◌, Bool, true, not, ◌&&◌, length, take, drop, get_or, ℤ, pos}
use mathlib.Core.List.{List, [], ◌∷◌, ◌++◌, flat_map}
use Rattle.lists.specs.Lists.{all_of, is_empty}
use Rattle.pool.specs.Updates.{Update}
use Rattle.pool.specs.Places.{zeros, place}
use Rattle.pool.specs.Moves.{moved, Laid}
use Rattle.pool.specs.Fine.{short}

pub data Slot : Type 0 where
  hole : Slot
  holds : Update → Slot

-- the ten numbers of a used place
unfoldable pub row : Slot → List ℤ
row hole = zeros 10
row (holds u) = place u

-- of used places: the numbers, the pending updates, and how many of the places are holes
unfoldable pub rows : List Slot → List ℤ
rows slots = flat_map row slots

unfoldable pub standing : List Slot → List Update
standing [] = []
standing (hole ∷ l) = standing l
standing (holds u ∷ l) = u ∷ standing l

unfoldable pub holes : List Slot → ℕ
holes [] = 0
holes (hole ∷ l) = suc (holes l)
holes (holds u ∷ l) = holes l

-- updates in places of their own, with no hole
unfoldable pub whole : List Update → List Slot
whole [] = []
whole (u ∷ us) = holds u ∷ whole us

-- how many updates stand before place p: its number in the list of the pending ones
unfoldable pub before : ℕ → List Slot → ℕ
before p slots = length (standing (take p slots))

-- an update has room in a place, and one pair at least, so that its numbers are not those of a hole
unfoldable pub fits : Slot → Bool
fits hole = true
fits (holds u) = short u && not (is_empty u.pairs)

-- the pool holds exactly these, zeros behind them
pub record Spread (pool : List ℤ) (slots : List Slot) : Type 0 where
  pub is : pool ≡ rows slots ++ zeros (length pool - 10 * length slots)
  pub fits : all_of fits slots ≡ true
  pub room : 10 * length slots ≤ length pool

-- one place of the pass: a hole is passed, and an update moves down to the first free place
abbrev pub GathersPlace : List ℤ → ℕ → ℕ → List ℤ → ℕ → Type 0
GathersPlace pool₀ from to pool r =
    ((get_or pool₀ (10 * from + 1) (pos 0) ≡ pos 0) × (pool ≡ pool₀) × (r ≡ to))
    ⊎ ((get_or pool₀ (10 * from + 1) (pos 0) ≡ pos 0 → ⊥) × (pool ≡ moved pool₀ (10 * to) (10 * (from - to)) 10) × (r ≡ to + 1))

-- no place before the first nor from the last on is a hole
pub record Edges (slots : List Slot) (first last : ℕ) : Type 0 where
  pub front : before first slots ≡ first
  pub back : length (standing (drop last slots)) ≡ length slots - last

-- what moving together takes: the number of used places, with all holes from the first place to before the last
pub record Scattered (pool : List ℤ) (first last used : ℕ) : Type 0 where
  pub slots : List Slot
  pub spread : Spread pool slots
  pub count : used ≡ length slots
  pub edges : Edges slots first last
  pub low : first ≤ last
  pub high : last ≤ used

-- and what it leaves: the pool of the pending updates, and their number
pub record Gathers (pool₀ : List ℤ) (first last used : ℕ) (pool : List ℤ) (pending : ℕ) : Type 0 where
  pub result : (slots : List Slot) → Spread pool₀ slots → used ≡ length slots → Edges slots first last
      → Laid pool (standing slots) × (pending ≡ length (standing slots))
  pub long : length pool ≡ length pool₀

unfoldable pub slotted : Unit {0}
unfolding row rows standing holes whole before fits
slotted = tt
