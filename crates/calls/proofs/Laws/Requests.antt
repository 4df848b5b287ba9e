-- A request is declined where deck, pool and state are. Assumes nothing.
use Rattle.std.specs.Prelude.{ℕ, ◌≡◌, List, ℤ}
use Rattle.refusals.specs.Outcome.{refused, outcomes}
use Rattle.pool.specs.States.{Memory}
use Rattle.calls.specs.Calls.{reply, tested, commit_as, input_as, settle_as}
use Rattle.calls.specs.Answers.{reply_of}
use Rattle.calls.specs.Requests.{requested}
use Rattle.calls.specs.declared.Request.{Request}
use Rattle.calls.specs.declared.Request.TheVariants.{Input, Commit, Settle}

pub requested-declined : (s : List ℕ) (m : Memory) (q : Request) (l : List ℤ) (n p : ℕ) → tested s m ≡ refused n p
    → reply_of (refused n p) m.state m.pool ≡ requested s m q l
unfolding input_as commit_as settle_as reply outcomes
requested-declined s m (Input part) l n p e = rw e
requested-declined s m (Commit place) l n p e = rw e
requested-declined s m (Settle budget) l n p e = rw e
