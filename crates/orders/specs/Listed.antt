-- Document 01, "Lists of calls": the definition of a list. It stands on values and pending updates, and is fed only the deck,
-- the pool's length and what each call names. Assumes nothing.
use Rattle.std.specs.Prelude.{ℕ, zero, suc, ◌-◌, Bool, cond, List, [], ◌∷◌, ◌++◌, leb, ltb, length}
use Rattle.lists.specs.Lists.{sum_of, is_empty}
use Rattle.refusals.specs.Outcome.{Outcome, refused, accepted, ◌>>=◌, ◌>>◌, require}
use Rattle.refusals.specs.Numbers.{unknown_part, bad_input, input_outside, over_capacity, place_not_pending, budget_too_large}
use Rattle.deck.specs.Limits.{limits}
use Rattle.deck.specs.Deck.{Deck, N}
use Rattle.pool.specs.Updates.{assign, charge}
use Rattle.pool.specs.Places.{capacity, pairs_of}
use Rattle.pool.specs.States.{Machine}
use Rattle.passing.specs.Check.{within, opening_values}
use Rattle.firing.specs.Firing.{set_and_fire, pick, committed, may_take, next_place}
use Rattle.calls.specs.Calls.{Answer, passed, started, added, applied, discarded, settled, spent, good_input}
use Rattle.orders.specs.Calling.{Call, input, commit, settle}

-- one commit of a list, a settle's too: its part, whether it was applied, and what it left
pub record Turn : Type 0 where
  pub part : ℕ
  pub applied : Bool
  pub after : Machine

unfoldable pub turn : Deck → ℕ → Machine → Turn
turn d k x =
    let c = committed d k x in
    record { part = (pick k x.pending).part; applied = c.applied; after = c.machine }

-- "a settle goes through its commits one by one": place 0, until none is pending or the budget is used
unfoldable pub turns : Deck → ℕ → Machine → List Turn
turns d zero x = []
turns d (suc budget) x =
    let first = turn d (next_place x.pending) x in
    let all = first ∷ turns d budget first.after in
    cond (is_empty x.pending) [] all

-- what is left when these turns are over, from x
unfoldable pub ending : Machine → List Turn → Machine
ending x [] = x
ending x (t ∷ ts) = ending t.after ts

-- an accepted call of a list: its answer, its turns, and where the list then is
pub record Taken : Type 0 where
  pub answer : Answer
  pub turns : List Turn
  pub machine : Machine

-- "It takes each call by Calls above and the refusals below", with C places
unfoldable pub taken : Deck → ℕ → Machine → Call → Outcome Taken
taken d C x (input p l) = do
  require (ltb p (N d)) unknown_part 0
  require (good_input d l) bad_input 0
  require (within d p (assign p (pairs_of l) x.values)) input_outside 0
  let after = set_and_fire d p (pairs_of l) x
  require (leb (charge d after.pending) C) over_capacity 0
  accepted (record { answer = added (charge d after.pending - charge d x.pending); turns = []; machine = after })
taken d C x (commit k) = do
  require (may_take x.pending k) place_not_pending 0
  let t = turn d k x
  let now = charge d t.after.pending
  accepted (record { answer = cond t.applied (applied now) (discarded now); turns = t ∷ []; machine = t.after })
taken d C x (settle b) = do
  require (leb b limits.charge) budget_too_large 0
  let ts = turns d b x
  let after = ending x ts
  accepted (record { answer = cond (is_empty after.pending) (settled (length ts)) (spent (length ts)); turns = ts; machine = after })

-- a list so far: the answers, all turns, and where it is
pub record Listed : Type 0 where
  pub answers : List (Outcome Answer)
  pub turns : List Turn
  pub machine : Machine

-- one call more in front. "a refused call leaves it where it was"
unfoldable pub machine_after : Machine → Outcome Taken → Machine
machine_after x (refused n p) = x
machine_after x (accepted t) = t.machine

unfoldable pub in_front : Outcome Taken → Listed → Listed
in_front (refused n p) l = record { answers = refused n p ∷ l.answers; turns = l.turns; machine = l.machine }
in_front (accepted t) l =
    record { answers = accepted t.answer ∷ l.answers; turns = t.turns ++ l.turns; machine = l.machine }

unfoldable pub list_from : Deck → ℕ → Machine → List Call → Listed
list_from d C x [] = record { answers = []; turns = []; machine = x }
list_from d C x (c ∷ cs) =
    let t = taken d C x c in
    in_front t (list_from d C (machine_after x t) cs)

-- "goes through its calls in order, from the opening values, nothing pending", n being the pool's length
unfoldable pub listed : Deck → ℕ → List Call → Listed
listed d n cs = list_from d (capacity n) (record { values = opening_values d; pending = [] }) cs

-- "Commits made are the applied and discarded commit calls plus the numbers of commits made that accepted settles answer"
unfoldable pub commits_of : Outcome Answer → ℕ
commits_of (refused n p) = 0
commits_of (accepted (passed r m n x)) = 0
commits_of (accepted started) = 0
commits_of (accepted (added x)) = 0
commits_of (accepted (applied x)) = 1
commits_of (accepted (discarded x)) = 1
commits_of (accepted (settled n)) = n
commits_of (accepted (spent n)) = n

unfoldable pub commits_made : Listed → ℕ
commits_made l = sum_of commits_of l.answers

-- "Charge added is the sum of the charges added that accepted inputs answer"
unfoldable pub added_of : Outcome Answer → ℕ
added_of (refused n p) = 0
added_of (accepted (passed r m n x)) = 0
added_of (accepted started) = 0
added_of (accepted (added x)) = x
added_of (accepted (applied x)) = 0
added_of (accepted (discarded x)) = 0
added_of (accepted (settled n)) = 0
added_of (accepted (spent n)) = 0

unfoldable pub charge_added : Listed → ℕ
charge_added l = sum_of added_of l.answers

-- "Charge pending is that of the state reached"
unfoldable pub charge_pending : Deck → Listed → ℕ
charge_pending d l = charge d l.machine.pending

-- to open all definitions of this file, on an `unfolding` line
unfoldable pub listing : Unit {0}
unfolding turn turns ending taken machine_after in_front list_from listed commits_of commits_made added_of charge_added charge_pending
listing = tt
