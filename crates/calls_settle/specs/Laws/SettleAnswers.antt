-- Settle answers the refusal of the tests, a budget that is too large, or what the turns come to. Assumes nothing.
use Rattle.std.specs.Prelude.{ℕ, ◌≤◌, ◌<◌, ◌≡◌, List, length, ℤ}
use Rattle.std.proofs.Common.{sym, ap₂, ◌∙◌}
use borrow.Author.Tests.{le-leb, lt-leb}
use Rattle.refusals.specs.Outcome.{Outcome, refused, accepted, outcomes}
use Rattle.refusals.specs.Numbers.{budget_too_large}
use Rattle.deck.specs.Deck.{Deck}
use Rattle.deck.specs.declared.Deck as Counted
use Rattle.pool.specs.Places.{capacity}
use Rattle.pool.specs.States.{Memory, load, store}
use Rattle.passing.specs.Tabled.{deck_of}
use Rattle.calls.specs.Calls.{Answer, reply, tested, settling, settle, settle_as}
use Rattle.calls.specs.Answers.{reply_of, reply_at}
use Rattle.calls_tests.specs.Tested.{TestsPassed}
use Rattle.calls_settle.specs.Settled.{settled_as, Settles}
use Rattle.calls_tests.specs.Laws.StoredMemory.{left-memory}

module _ (s : List ℕ) (m : Memory) (budget : ℕ) where
  pub settle-over : (d : Deck) → tested s m ≡ accepted d → 65535 < budget
      → settle s m budget ≡ reply_of (refused budget_too_large 0) m.state m.pool
  unfolding settle_as reply outcomes
  settle-over d e h = rw (e, lt-leb budget 65535 h)

  settle-done : (d : Deck) → tested s m ≡ accepted d → budget ≤ 65535
      → settle s m budget ≡ record {
        answer = accepted (settled_as (settling d budget (load m)));
        memory = store (length m.pool) (settling d budget (load m)).machine;
      }
  unfolding settle_as reply outcomes settled_as
  settle-done d e h = rw (e, le-leb budget 65535 h)

-- ---- behind the tests

module _ {s rules parts memo index : List ℕ} {m : Memory} {k : Counted.Deck} {total : ℕ}
    (w : TestsPassed s rules parts memo index m k total) where
  pub settle-reply : {budget : ℕ} {answer : Outcome Answer} {vs : List ℤ} {pending : ℕ} {pool : List ℤ} → budget ≤ 65535
      → length pool ≡ length m.pool
      → Settles s (capacity (length m.pool)) m.state.values m.state.pending total index m.pool budget answer vs pending pool
      → reply_at answer vs pending pool ≡ settle s m budget
  settle-reply {budget} {answer} {vs} {pending} {pool} h l e =
      let r = e (load m) w.loaded in
      ap₂ (λ a x. record { answer = a; memory = x }) r.0 (left-memory _ _ _ _ _ r.1 l)
      ∙ sym (settle-done s m budget (deck_of s) w.accepted h)
