-- Document 01, "State and pool": a state with its pool, as values and pending updates and as the numbers that a host holds;
-- good states. Assumes nothing.
use Rattle.std.specs.Prelude.{ℕ, suc, ◌*◌, ◌/◌, ◌%◌, Bool, true, not, ◌&&◌, ◌||◌, List, [], ◌∷◌, leb, ltb, eqb, length, drop, ℤ}
use Rattle.lists.specs.Lists.{all_of, distinct, is_empty}
use Rattle.deck.specs.Limits.{limits}
use Rattle.deck.specs.Deck.{Deck, R, N}
use Rattle.pool.specs.declared.State.{State}
use Rattle.pool.specs.Updates.{Update, channels, all_different, charge}
use Rattle.pool.specs.Places.{is_zero, capacity, pool_of, well_written, places, updates_of}

-- the value table and the pending updates
pub record Machine : Type 0 where
  pub values : List ℤ
  pub pending : List Update

-- the state that a host holds, and the pool that it lends
pub record Memory : Type 0 where
  pub state : State
  pub pool : List ℤ

unfoldable pub load : Memory → Machine
load m = record { values = m.state.values; pending = updates_of m.state.pending m.pool }

-- with a pool of n numbers
unfoldable pub store : ℕ → Machine → Memory
store n x = record { state = record { values = x.values; pending = length x.pending }; pool = pool_of n x.pending }

-- 9: "a multiple of 10 from 10 to 655,350"
unfoldable pub good_length : ℕ → Bool
good_length n = leb limits.place n && leb n (limits.charge * limits.place) && eqb (n % limits.place) 0

-- "unused ones 0": the numbers of a table, from index i on, that belong to no channel of a part
unfoldable pub unused_zero : Deck → ℕ → List ℤ → Bool
unused_zero d i [] = true
unused_zero d i (v ∷ vs) = (ltb (i / limits.channels) (N d) && ltb (i % limits.channels) (R d) || is_zero v) && unused_zero d (suc i) vs

-- "on a known part with different known channels", one at least
unfoldable pub known : Deck → Update → Bool
known d u =
    ltb u.part (N d) && not (is_empty u.pairs) && all_of (λ c. ltb c (R d)) (channels u) && distinct (channels u)

-- 10: "A good state has these zeros, at most C pending updates, each on a known part with different known channels, no two
-- equal, and a charge of at most C"
unfoldable pub good : Deck → Memory → Bool
good d m =
    let C = capacity (length m.pool) in
    let n = m.state.pending in
    let us = updates_of n m.pool in
    eqb (length m.state.values) limits.values
    && unused_zero d 0 m.state.values
    && leb n C
    && all_of well_written (places n m.pool)
    && all_of is_zero (drop (limits.place * n) m.pool)
    && all_of (known d) us
    && all_different us
    && leb (charge d us) C

-- to open all definitions of this file, on an `unfolding` line
unfoldable pub states : Unit {0}
unfolding load store good_length unused_zero known good
states = tt
