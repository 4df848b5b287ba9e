-- What an old deck's bytes and those of a new deck have in common where the one gives what the other gave. Assumes nothing.
use Rattle.std.specs.Prelude.{ℕ, ◌≡◌, List, ℤ}
use Rattle.refusals.specs.Outcome.{accepted}
use Rattle.deck.specs.declared.Form.TheVariants.{Old, New}
use Rattle.deck.specs.Layout.{Layout}
use Rattle.pool.specs.Updates.{Update, charge}
use Rattle.pool.specs.States.{Memory}
use Rattle.passing.specs.Check.{passing}
use Rattle.calls.specs.Calls.{start_as}
use Rattle.orders.specs.Calling.{Call, made_as, run_as}
use Rattle.orders.specs.Listed.{listed}
use Rattle.conversion.specs.Converted.{converted}

-- the bytes of an old deck, and those of a new one that gives what it gave
pub record Keeps (old new : List ℕ) : Type 0 where
  pub before : Layout
  pub after : Layout
  -- the old check passes the one, and the new check the other
  pub old_passes : passing Old old ≡ accepted before
  pub new_passes : passing New new ≡ accepted after
  pub deck : after.deck ≡ converted before.deck
  -- answers, turns, values and pending updates of every list of calls, whatever the length of the pool
  pub lists : (n : ℕ) (cs : List Call) → listed after.deck n cs ≡ listed before.deck n cs
  -- each list of updates has the same charge
  pub charges : (us : List Update) → charge after.deck us ≡ charge before.deck us
  -- on memory: a start, each call whatever it is lent, and the calls after a start, each on what the last left
  pub starts : (pool : List ℤ) → start_as New new pool ≡ start_as Old old pool
  pub calls : (m : Memory) (c : Call) → made_as New new m c ≡ made_as Old old m c
  pub runs : (pool : List ℤ) (cs : List Call) → run_as New new pool cs ≡ run_as Old old pool cs
