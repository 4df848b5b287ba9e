-- New updates offered one by one: what the pool and the counts hold meanwhile. Assumes nothing.
use Rattle.std.specs.Prelude.{ℕ, ◌+◌, ◌*◌, ◌≤◌, ◌<◌, ◌≡◌, true, false, List, ◌++◌, map, length, ℤ}
use Rattle.deck.specs.Deck.{Deck}
use Rattle.deck.specs.declared.Deck as Counted
use Rattle.charge.specs.Memo.{Memo, Ready}
use Rattle.pool.specs.Updates.{Update, charge}
use Rattle.pool_holes.specs.Slots.{Slot, row, standing, holes, whole, Spread}
use Rattle.pool_index.specs.Index.{Indexed, Roomy}
use Rattle.deck.specs.Shape.{shape}
use Rattle.firing.specs.Firing.{enqueue}
use Rattle.firing_queue.specs.declared.Queue.{Queue}

-- a pool and the index of its used places
pub record Held : Type 0 where
  pub index : List ℕ
  pub pool : List ℤ

abbrev pub held_of : List ℕ → List ℤ → Held
held_of index pool = record { index = index; pool = pool }

-- the pool holds these slots, and the index leads to what stands in them
pub record Kept (slots : List Slot) (h : Held) : Type 0 where
  pub spread : Spread h.pool slots
  pub indexed : Indexed (map row slots) h.index

-- room for C updates beside H holes
pub record Room (C H : ℕ) (h : Held) : Type 0 where
  pub bounded : H + C ≤ 65535
  pub places : 10 * (H + C) ≤ length h.pool
  pub index : Roomy (H + C) h.index

pub record SameSize (h₀ h : Held) : Type 0 where
  pub index : length h.index ≡ length h₀.index
  pub pool : length h.pool ≡ length h₀.pool

-- these slots were used at first, and `new` have been offered since. What is written behind them is `extra`: all that "written
-- behind the last pending one, one by one, unless equal to one then pending" leaves of `new`, unless the charge would pass the
-- capacity
pub record Grown (d : Deck) (slots : List Slot) (new : List Update) (held : Held) (q : Queue) : Type 0 where
  pub extra : List Update
  pub kept : Kept (slots ++ whole extra) held
  pub used : q.used ≡ length (slots ++ whole extra)
  pub room : q.full ≡ false
      → (standing slots ++ extra ≡ enqueue (standing slots) new)
      × (q.charge ≡ charge d (standing slots ++ extra))
      × (q.charge ≤ q.capacity)
  pub over : q.full ≡ true → q.capacity < charge d (enqueue (standing slots) new)

-- what a function that offers updates takes: tables without a cycle, a memo that is right, and room
pub record Offering (rules parts : List ℕ) (k : Counted.Deck) (memo : List ℕ) (held : Held) (q : Queue) : Type 0 where
  pub ready : Ready rules parts k memo
  pub few : k.channels ≤ 32
  pub slots : List Slot
  pub room : Room q.capacity (holes slots) held
  pub new : List Update
  pub grown : Grown (shape rules parts k) slots new held q

-- what it leaves, when the updates `fresh` were offered
pub record Offered (d : Deck) (fresh : List Update) (held₀ : Held) (q₀ : Queue) (m : List ℕ) (held : Held) (q : Queue) : Type 0 where
  pub grows : (slots : List Slot) (new : List Update) → Grown d slots new held₀ q₀ → Grown d slots (new ++ fresh) held q
  pub capacity : q.capacity ≡ q₀.capacity
  pub memo : Memo d m
  pub size : SameSize held₀ held
