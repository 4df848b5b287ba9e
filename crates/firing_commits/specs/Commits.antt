-- What the functions that change a state take and leave: the numbers of a host's state and pool, and the values and pending
-- updates that they stand for. Assumes nothing.
use Rattle.std.specs.Prelude.{ℕ, ◌-◌, ◌*◌, ◌≤◌, ◌<◌, ◌≡◌, Bool, true, List, ◌++◌, length, get_or, take, set, ℤ}
use Rattle.deck.specs.Deck.{Deck}
use Rattle.deck.specs.declared.Deck as Counted
use Rattle.charge.specs.Charge.{update_charge}
use Rattle.charge.specs.Memo.{Memo, Ready, capped}
use Rattle.lists.specs.Lists.{all_of}
use Rattle.lists.specs.Bits.{mask_of}
use Rattle.pool.specs.Updates.{Update, channels, assign}
use Rattle.pool.specs.Places.{pairs_of}
use Rattle.pool.specs.States.{Machine, known}
use Rattle.deck.specs.Shape.{shape}
use Rattle.firing.specs.Firing.{changed, committed, may_take, next_place}
use Rattle.firing.specs.Evaluated.{Assignable}
use Rattle.pool_holes.specs.Slots.{Slot, hole, holds, standing, whole, before, Spread}
use Rattle.firing_queue.specs.Queue.{Held, SameSize}
use Rattle.firing_queue.specs.Stored.{Stored, Committing}

-- place p of these slots holds the update u
pub record At (slots : List Slot) (p : ℕ) (u : Update) : Type 0 where
  pub inside : p < length slots
  pub holds : get_or slots p hole ≡ holds u

-- a pool of slots whose updates are known, and a place that holds one
pub record Looking (k : Counted.Deck) (rules parts memo : List ℕ) (pool : List ℤ) (p : ℕ) : Type 0 where
  pub ready : Ready rules parts k memo
  pub few : k.channels ≤ 32
  pub slots : List Slot
  pub spread : Spread pool slots
  pub known : all_of (known (shape rules parts k)) (standing slots) ≡ true
  pub update : Update
  pub place : At slots p update

-- what stands there: its part, the number of its pairs, its charge, up to 65,536, and the set of the channels that it changes.
-- `after` has it applied, and the first pairs of `back` set its channels back
pub record Looks (e : Deck) (p : ℕ) (vs pool : List ℤ) (m : List ℕ) (after back : List ℤ) (part count c mask : ℕ) : Type 0 where
  pub result : (slots : List Slot) (u : Update) → Spread pool slots → At slots p u
      → (part ≡ u.part)
      × (after ≡ assign u.part u.pairs vs)
      × (c ≡ capped (update_charge e u.part (channels u)))
  pub few : count ≤ 4
  pub assignable : Assignable (take (2 * count) back)
  pub undone : assign part (pairs_of (take (2 * count) back)) after ≡ vs
  pub changes : mask ≡ mask_of (changed e part vs after)
  pub memo : Memo e m

-- what the numbers stand for after the commit of update j: what the definition says, in the slots that were left and in new ones
-- behind them
abbrev pub CommittedTo : Deck → ℕ → ℕ → Machine → List Slot → List ℤ → ℕ → ℕ → Held → Bool → Type 0
CommittedTo d C j x left values used total held applied =
    (extra : List Update)
    × (Stored d C (left ++ whole extra) (committed d j x).machine values used total held × (applied ≡ (committed d j x).applied))

-- what a commit of place p takes
pub record CommittingAt (s : List ℕ) (k : Counted.Deck) (rules parts memo : List ℕ) (held : Held) (C : ℕ) (values : List ℤ)
    (used total p : ℕ) : Type 0 where
  pub committing : Committing s k rules parts memo held C values used total
  pub update : Update
  pub place : At committing.slots p update

-- the commit of place p, which becomes a hole: that of the update of its number among the pending ones, with room for one less
pub record Commits (d e : Deck) (C p : ℕ) (held₀ : Held) (values₀ : List ℤ) (used₀ total₀ : ℕ) (m : List ℕ) (held : Held)
    (values : List ℤ) (used total : ℕ) (applied : Bool) : Type 0 where
  pub result : (slots : List Slot) (u : Update) (x : Machine) → Stored d C slots x values₀ used₀ total₀ held₀ → At slots p u
      → CommittedTo d (C - 1) (before p slots) x (set slots p hole) values used total held applied
  pub memo : Memo e m
  pub size : SameSize held₀ held

-- ---- which place

-- whether a commit may take place k, by the number of pending updates
abbrev pub MayTake : ℕ → ℕ → Bool → Type 0
MayTake pending k r = (us : List Update) → pending ≡ length us → r ≡ may_take us k

-- the place of the pending updates that a settle takes next
abbrev pub NextPlace : ℕ → Type 0
NextPlace r = (us : List Update) → r ≡ next_place us
