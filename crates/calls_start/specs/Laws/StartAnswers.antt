-- Start answers what the tests come to. Assumes nothing.
use Rattle.std.specs.Prelude.{ℕ, ◌*◌, ◌-◌, ◌≡◌, true, false, List, replicate, ℤ, pos}
use Rattle.std.proofs.Math.Path.{ap}
use Rattle.std.proofs.Common.{ap₂, ◌∙◌}
use native.Mathlib.Omega.{arith}
use Rattle.std.proofs.Math.ListN.{length}
use Rattle.lists.specs.Lists.{lists}
use Rattle.refusals.specs.Outcome.{Outcome, refused, accepted, outcomes}
use Rattle.refusals.specs.Numbers.{bad_pool}
use Rattle.deck.specs.declared.Form.TheVariants.{New}
use Rattle.pool.specs.Places.{zeros, pool_of}
use Rattle.pool.specs.States.{good_length, store}
use Rattle.pool.specs.declared.State.{State}
use Rattle.passing.specs.Check.{passing, opening_values}
use Rattle.passing.specs.Tabled.{layout_of, deck_of}
use Rattle.calls.specs.Calls.{Answer, started, reply, opened, start, start_as}
use Rattle.calls.specs.Answers.{memory_at, reply_of, reply_at}

-- the reply of a call whose answer, values and pending number are known
pub reply-is : {a b : Outcome Answer} {st : State} {vs : List ℤ} {n : ℕ} {pool pool' : List ℤ} → a ≡ b → st.values ≡ vs → st.pending ≡ n
    → pool ≡ pool'
    → reply_of a st pool ≡ reply_at b vs n pool'
reply-is {b} {vs} {n} {pool} e v p q =
    ap₂ (λ a m. record { answer = a; memory = m }) e (ap₂ (λ vs n. memory_at vs n pool) v p) ∙ ap (reply_at b vs n) q

module _ (s : List ℕ) (pool : List ℤ) where
  pub start-declined : (n p : ℕ) → passing New s ≡ refused n p → start s pool ≡ reply_at (refused n p) (replicate 512 (pos 0)) 0 pool
  unfolding start_as reply outcomes zeros
  start-declined n p e = rw e

  module _ (w : passing New s ≡ accepted (layout_of s)) where
    pub start-pool : good_length (length pool) ≡ false
        → start s pool ≡ reply_at (refused bad_pool 0) (replicate 512 (pos 0)) 0 pool
    unfolding start_as reply outcomes zeros
    start-pool l = rw (w, l)

    -- nothing is pending, and the pool is all 0
    none-stored : store (length pool) (opened (deck_of s)) ≡ memory_at (opening_values (deck_of s)) 0 (zeros (length pool))
    unfolding store opened pool_of lists
    none-stored =
        let n : length pool - 10 * 0 ≡ length pool = omega arith in
        ap (λ n. memory_at (opening_values (deck_of s)) 0 (zeros n)) n

    pub start-done : good_length (length pool) ≡ true
        → start s pool ≡ reply_at (accepted started) (opening_values (deck_of s)) 0 (zeros (length pool))
    unfolding start_as reply outcomes
    start-done l = accepting ∙ ap (λ m. record { answer = accepted started; memory = m }) none-stored
      where
        accepting : start s pool ≡ record { answer = accepted started; memory = store (length pool) (opened (deck_of s)) }
        accepting = rw (w, l)
