-- Demand 3, with the sentence of document 02's Req 01, as one statement about a whole list of calls: a field for each sentence.
-- Assumes nothing.
use Rattle.std.specs.Prelude.{ℕ, ◌+◌, ◌≤◌, ◌<◌, ◌≡◌, Bool, true, false, not, ◌||◌, List, [], ◌∷◌, leb, length, ℤ}
use Rattle.lists.specs.Lists.{all_of}
use Rattle.refusals.specs.Outcome.{Outcome, refused, accepted}
use Rattle.refusals.specs.Numbers.{place_not_pending}
use Rattle.deck.specs.Deck.{Deck, N}
use Rattle.charge.specs.Charge.{update_charge}
use Rattle.pool.specs.Updates.{Update, channels, charge}
use Rattle.pool.specs.Places.{capacity}
use Rattle.pool.specs.States.{Machine, store}
use Rattle.firing.specs.Firing.{may_take}
use Rattle.passing.specs.Check.{within, opening_values}
use Rattle.calls.specs.Calls.{settled}
use Rattle.orders.specs.Calling.{Call, input, commit, settle, run}
use Rattle.orders.specs.Listed.{Turn, turns, Taken, taken, machine_after, listed, commits_made, charge_added, charge_pending}

-- a property of where the list is and of the call that comes next, for every call of the list
unfoldable pub Along : (Machine → Call → Type 0) → Deck → ℕ → Machine → List Call → Type 0
Along P d C x [] = Unit {0}
Along P d C x (c ∷ cs) = P x c × Along P d C (machine_after x (taken d C x c)) cs

-- the call is accepted
pub data Accepted {A : Type 0} : Outcome A → Type 0 where
  yes_accepted : (a : A) → Accepted (accepted a)

-- a commit is refused exactly when its place is not below the pending number, and then by 14
unfoldable pub RefusedAsPlaced : Deck → ℕ → Machine → Call → Type 0
RefusedAsPlaced d C x (input p l) = Unit {0}
RefusedAsPlaced d C x (commit k) =
    (may_take x.pending k ≡ true → Accepted (taken d C x (commit k)))
    × (may_take x.pending k ≡ false → taken d C x (commit k) ≡ refused place_not_pending 0)
RefusedAsPlaced d C x (settle b) = Unit {0}

-- an accepted settle with a budget of at least the charge pending before it ends settled, with as many commits as it made turns
unfoldable pub Settles : Deck → ℕ → Machine → Call → Type 0
Settles d C x (input p l) = Unit {0}
Settles d C x (commit k) = Unit {0}
Settles d C x (settle b) =
    (t : Taken) → taken d C x (settle b) ≡ accepted t → charge d x.pending ≤ b → t.answer ≡ settled (length t.turns)

-- an applied commit leaves its part within its limit
unfoldable pub leaves_within : Deck → Turn → Bool
leaves_within d t = not t.applied || within d t.part t.after.values

-- every part is within its limit
unfoldable pub EveryWithin : Deck → Machine → Type 0
EveryWithin d x = (p : ℕ) → p < N d → within d p x.values ≡ true

-- "after every call in the list, every part is within its limit", whether the call was accepted or refused
unfoldable pub EndsWithin : Deck → ℕ → Machine → Call → Type 0
EndsWithin d C x c = EveryWithin d (machine_after x (taken d C x c))

-- a pending update has a charge of at least 1
unfoldable pub has_charge : Deck → Update → Bool
has_charge d u = leb 1 (update_charge d u.part (channels u))

-- d is the deck that the bytes hold, and pool what is lent to the start, with whatever stood in it
pub record Order (bytes : List ℕ) (d : Deck) (pool : List ℤ) (cs : List Call) : Type 0 where
  -- answers, state and pool are as the definition of the list has them
  pub answers : (run bytes pool cs).answers ≡ (listed d (length pool) cs).answers
  pub memory : (run bytes pool cs).memory ≡ store (length pool) (listed d (length pool) cs).machine
  -- commits made and charge pending are at most the charge added
  pub bound : commits_made (listed d (length pool) cs) + charge_pending d (listed d (length pool) cs)
      ≤ charge_added (listed d (length pool) cs)
  -- each pending update has a charge of at least 1, so that as many commits are paid for as are pending
  pub each_charged : all_of (has_charge d) (listed d (length pool) cs).machine.pending ≡ true
  -- a commit is refused exactly when its place is not below the pending number
  pub commit_refused : Along (RefusedAsPlaced d (capacity (length pool))) d (capacity (length pool))
      (record { values = opening_values d; pending = [] }) cs
  -- each applied commit, within a settle too, leaves its part within its limit
  pub stays_within : all_of (leaves_within d) (listed d (length pool) cs).turns ≡ true
  -- an accepted settle with a budget of at least the charge pending before it ends settled
  pub settles : Along (Settles d (capacity (length pool))) d (capacity (length pool)) (record { values = opening_values d; pending = [] }) cs
  -- after every call, every part is within its limit
  pub parts_within : Along (EndsWithin d (capacity (length pool))) d (capacity (length pool))
      (record { values = opening_values d; pending = [] }) cs

-- to open all definitions of this file, on an `unfolding` line
unfoldable pub ordering : Unit {0}
unfolding Along RefusedAsPlaced Settles leaves_within EveryWithin EndsWithin has_charge
ordering = tt
