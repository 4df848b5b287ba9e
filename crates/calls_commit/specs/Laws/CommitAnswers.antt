-- Commit answers what the tests come to, and what the definition makes of the place. Assumes nothing.
use Rattle.std.specs.Prelude.{ℕ, ◌<◌, ◌≡◌, Bool, true, false, List, length, ℤ}
use Rattle.std.proofs.Common.{sym, ap, ap₂, ◌∙◌, subst, arith, ltb-true}
use Rattle.refusals.specs.Outcome.{Outcome, refused, accepted, outcomes}
use Rattle.refusals.specs.Numbers.{place_not_pending}
use Rattle.deck.specs.Deck.{Deck}
use Rattle.pool.specs.Updates.{Update, charge}
use Rattle.pool.specs.Places.{capacity}
use Rattle.pool.specs.States.{Memory, load, store}
use Rattle.passing.specs.Tabled.{deck_of}
use Rattle.firing.specs.Firing.{committed, may_take}
use Rattle.pool_holes.specs.Slots.{whole}
use Rattle.pool_holes.proofs.Laws.Standing.{whole_length}
use Rattle.deck.specs.declared.Deck as Counted
use Rattle.firing_queue.specs.Queue.{held_of}
use Rattle.firing_queue.specs.Stored.{Stored}
use Rattle.calls.specs.Calls.{Answer, reply, tested, commit, commit_as}
use Rattle.calls.specs.Answers.{reply_at}
use Rattle.calls_tests.specs.Tested.{TestsPassed, Left}
use Rattle.calls_turns.specs.Turns.{Turned}
use Rattle.calls_turns.specs.Laws.Beginnings.{one-turn}
use Rattle.calls_commit.specs.Committed.{committed_as, CommitsAs}
use Rattle.calls_tests.specs.Laws.StoredMemory.{left-memory}

module _ (s : List ℕ) (m : Memory) (k : ℕ) where
  pub commit-no-place : (d : Deck) → tested s m ≡ accepted d → may_take (load m).pending k ≡ false
      → commit s m k ≡ record { answer = refused place_not_pending 0; memory = m }
  unfolding commit_as reply outcomes
  commit-no-place d e h = rw (e, h)

  commit-done : (d : Deck) → tested s m ≡ accepted d → may_take (load m).pending k ≡ true
      → commit s m k
      ≡ record {
        answer = accepted (committed_as (committed d k (load m)).applied (charge d (committed d k (load m)).machine.pending));
        memory = store (length m.pool) (committed d k (load m)).machine;
      }
  unfolding commit_as reply outcomes
  commit-done d e h = rw (e, h)

  pub commit-made : {a : Outcome Answer} {index : List ℕ} {total : ℕ} {vs pool : List ℤ} {pending : ℕ}
      → tested s m ≡ accepted (deck_of s)
      → Stored (deck_of s) (capacity (length m.pool)) (whole (load m).pending) (load m) m.state.values m.state.pending total
      (held_of index m.pool)
      → CommitsAs s m.state.values m.state.pending total index m.pool k a vs pending pool
      → length pool ≡ length m.pool → may_take (load m).pending k ≡ true
      → reply_at a vs pending pool ≡ commit s m k
  commit-made {vs} {pool} {pending} t st c l h =
      let d = deck_of s in
      let r = c (load m) st in
      ap₂ (λ x z. record { answer = x; memory = z }) r.0
      (left-memory (committed d k (load m)).machine vs pending pool (length m.pool) r.1 l)
      ∙ sym (commit-done d t h)

-- ---- the places of a good state

module _ {s rules parts memo index : List ℕ} {m : Memory} {c : Counted.Deck} {total : ℕ}
    (w : TestsPassed s rules parts memo index m c total) where
  abbrev us : List Update
  us = (load m).pending

  pub commit-pending : m.state.pending ≡ length us
  commit-pending = w.loaded.count ∙ whole_length us

  -- a place that may be taken is pending
  pub commit-below : (k : ℕ) → may_take us k ≡ true → k < m.state.pending
  commit-below k h = omega (arith, ltb-true k (length us) h, commit-pending)

  -- from the turn on what was tested
  pub commit-as : {k : ℕ} → k < m.state.pending → {made pending t : ℕ} {b : Bool} {vs pool : List ℤ} {a : Outcome Answer}
      → Turned s (capacity (length m.pool)) m.state.values m.state.pending total index m.pool k 1 made pending t b vs pool
      → a ≡ accepted (committed_as b t)
      → CommitsAs s m.state.values m.state.pending total index m.pool k a vs pending pool
  commit-as {k} h {pending} {vs} {pool} turned f x st =
      let r = turned.result x st in
      let left = r.1.1.0 in
      let one = one-turn r.1.0 turned.within (λ l. omega (arith, turned.ended l, left.count))
      (omega (arith, h, st.count, whole_length x.pending)) in (
        f ∙ ap accepted (ap₂ committed_as (turned.told x st one.0) (r.1.1.1 ∙ ap (λ y. charge (deck_of s) y.pending) one.1)),
        subst (λ y. Left y vs pending pool) one.1 left,
      )
