-- What input, commit and settle take and leave, once deck, pool and state are tested. Assumes nothing.
use Rattle.std.specs.Prelude.{ℕ, ◌≡◌, ◌⊎◌, true, false, List, length, ℤ, Some, None, Result, Ok, Err}
use Rattle.refusals.specs.Outcome.{accepted}
use Rattle.refusals.specs.Numbers.{bad_pool, bad_state}
use Rattle.refusals.specs.Declined.{number_of, decline_outcome}
use Rattle.refusals.specs.declared.Declined.{Declined}
use Rattle.deck.specs.declared.Deck as Counted
use Rattle.pool.specs.Places.{places, capacity}
use Rattle.pool.specs.States.{Machine, Memory, load, good_length}
use Rattle.charge.specs.Memo.{Memo}
use Rattle.pool_holes.specs.Slots.{whole}
use Rattle.pool_index.specs.Index.{Indexed, Roomy}
use Rattle.pool.specs.Moves.{Laid}
use Rattle.pool_states.specs.Answer.{Fresh, goodness_of}
use Rattle.deck.specs.Shape.{shape}
use Rattle.passing.specs.Tabled.{deck_of}
use Rattle.firing_queue.specs.Queue.{held_of}
use Rattle.firing_queue.specs.Stored.{Stored, Committing}
use Rattle.calls.specs.Calls.{tested}
use Rattle.calls.specs.Answers.{memory_at}
use Rattle.calls_tests.specs.declared.TestsFound.{TestsFound}

-- a lent index of zeros is long enough for a pool of n numbers, if that is a good length
abbrev pub Usable : ℕ → List ℕ → Type 0
Usable n index = good_length n ≡ true → Fresh n index

-- as many places as the pool has
abbrev pub Entering : List ℕ → Counted.Deck → List ℕ → List ℕ → List ℕ → List ℕ → List ℤ → List ℤ → ℕ → ℕ → Type 0
Entering s k rules parts memo index pool vs pending total =
    Committing s k rules parts memo (held_of index pool) (capacity (length pool)) vs pending total

-- the tests 9 and 10, by the shape of the tables: the refusal, or a good state with its charge
abbrev pub TestsState : Counted.Deck → List ℕ → List ℕ → List ℕ → List ℕ → List ℤ → List ℤ → ℕ
    → Result TestsFound Declined → Type 0
TestsState k rules parts memo index pool vs pending (Ok x) =
    (x.counts ≡ k)
    × (good_length (length pool) ≡ true)
    × (Some x.pending.charge ≡ goodness_of (shape rules parts k) (memory_at vs pending pool))
    × Memo (shape rules parts k) memo
    × Indexed (places pending pool) index
    × Roomy (capacity (length pool)) index
    × (x.pending.count ≡ pending)
TestsState k rules parts memo index pool vs pending (Err x) =
    (x.place ≡ 0)
    × (((number_of x.refusal ≡ bad_pool) × (good_length (length pool) ≡ false))
    ⊎ ((number_of x.refusal ≡ bad_state)
    × (good_length (length pool) ≡ true)
    × (None ≡ goodness_of (shape rules parts k) (memory_at vs pending pool))))

-- the tests 1 to 10 and 18 to 20: the refusal, or all that the rest of a call needs
pub record TestsPassed (s rules parts memo index : List ℕ) (m : Memory) (k : Counted.Deck) (total : ℕ) : Type 0 where
  pub accepted : tested s m ≡ accepted (deck_of s)
  pub entering : Entering s k rules parts memo index m.pool m.state.values m.state.pending total
  pub loaded : Stored (deck_of s) (capacity (length m.pool)) (whole (load m).pending) (load m)
      m.state.values m.state.pending total (held_of index m.pool)
  -- no update was taken out yet
  pub whole_slots : entering.slots ≡ whole (load m).pending

abbrev pub Tests : List ℕ → List ℕ → List ℕ → List ℕ → List ℕ → List ℤ → List ℤ → ℕ → Result TestsFound Declined → Type 0
Tests s rules parts memo index pool vs pending (Ok x) =
    (x.pending.count ≡ pending) × TestsPassed s rules parts memo index (memory_at vs pending pool) x.counts x.pending.charge
Tests s rules parts memo index pool vs pending (Err x) =
    tested s (memory_at vs pending pool) ≡ decline_outcome x

-- the numbers that are left stand for the values and pending updates x
pub record Left (x : Machine) (vs : List ℤ) (pending : ℕ) (pool : List ℤ) : Type 0 where
  pub values : vs ≡ x.values
  pub count : pending ≡ length x.pending
  pub laid : Laid pool x.pending
