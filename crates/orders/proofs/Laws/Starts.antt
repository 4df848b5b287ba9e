-- A start is accepted exactly when the deck passes and the pool's length is a good one. Assumes nothing.
use Rattle.std.specs.Prelude.{ℕ, ◌≡◌, ◌↔◌, true, List, length, ℤ}
use Rattle.std.proofs.Math.Path.{ap₂}
use Rattle.std.proofs.Math.Bool.{Bool}
use Rattle.refusals.specs.Outcome.{Outcome, accepted, ◌>>=◌, ◌>>◌, require, outcomes}
use Rattle.refusals.specs.Numbers.{bad_pool}
use Rattle.deck.specs.declared.Form.TheVariants.{New}
use Rattle.deck.specs.Layout.{Layout}
use Rattle.pool.specs.Places.{zeros}
use Rattle.pool.specs.States.{good_length}
use Rattle.passing.specs.Check.{passing}
use Rattle.calls.specs.Calls as Calls
use Rattle.calls.specs.Calls.{started, reply, opened, Reply}
use Rattle.orders.proofs.Laws.Listing.{start-fresh}

module _ (bytes : List ℕ) (pool : List ℤ) where
  -- no line of 1 to 9 and 18 to 20 refuses it
  abbrev pub Startable : Type 0
  Startable = (l : Layout) × ((passing New bytes ≡ accepted l) × (good_length (length pool) ≡ true))

  started-by : Startable → (Calls.start bytes pool).answer ≡ accepted started
  unfolding Calls.start_as reply outcomes
  started-by (l, (e, f)) = ap₂ (λ o b. (after o b).answer) e f
    where
      after : Outcome Layout → Bool → Reply
      after o b =
          reply (record { state = record { values = zeros 512; pending = 0 }; pool = pool })
          (o >>= λ l. require b bad_pool 0 >> accepted (record { answer = started; machine = opened l.deck }))

  pub start-accepts : ((Calls.start bytes pool).answer ≡ accepted started) ↔ Startable
  start-accepts = (
    λ h. let fresh = start-fresh New bytes pool h in (fresh.0, (fresh.1.passes, fresh.1.long)),
    started-by,
  )
