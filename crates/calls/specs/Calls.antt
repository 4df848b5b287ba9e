-- Document 01, "Calls": each call is given exactly what a host gives it, and hands back its answer and what the host then
-- holds. Assumes nothing.
use Rattle.std.specs.Prelude.{ℕ, zero, suc, ◌*◌, ◌-◌, ◌%◌, Bool, ◌&&◌, cond, List, [], ◌∷◌, map, leb, ltb, eqb, length, take, drop, ℤ, pos, nat_abs}
use Rattle.std.specs.Int.Signed.{le_z, lt_z}
use Rattle.lists.specs.Lists.{all_of, distinct, is_empty}
use Rattle.refusals.specs.Outcome.{Outcome, refused, accepted, ◌>>=◌, ◌>>◌, require}
use Rattle.refusals.specs.Numbers.{bad_pool, bad_state, unknown_part, bad_input, input_outside, over_capacity, place_not_pending}
use Rattle.refusals.specs.Numbers.{unknown_section, budget_too_large}
use Rattle.deck.specs.declared.Form.{Form}
use Rattle.deck.specs.declared.Form.TheVariants.{New}
use Rattle.deck.specs.Limits.{limits}
use Rattle.deck.specs.Deck.{Deck, R, M, N}
use Rattle.deck.specs.Layout.{Layout}
use Rattle.deck.specs.Sections.{offset_of}
use Rattle.charge.specs.Charge.{largest_charge}
use Rattle.pool.specs.Updates.{assign, charge}
use Rattle.pool.specs.Places.{zeros, capacity, pairs_of}
use Rattle.pool.specs.States.{Machine, Memory, load, store, good_length, good}
use Rattle.passing.specs.Check.{within, passing, opening_values}
use Rattle.firing.specs.Firing.{set_and_fire, committed, may_take, next_place}

-- what an accepted call answers
pub data Answer : Type 0 where
  passed : ℕ → ℕ → ℕ → ℕ → Answer  -- R, M, N and the largest charge of any carried rule
  started : Answer
  added : ℕ → Answer  -- the charge added
  applied discarded : ℕ → Answer  -- the charge now pending
  settled spent : ℕ → Answer  -- the number of commits made

-- what a call hands back: the answer, and what the host then holds
pub record Reply : Type 0 where
  pub answer : Outcome Answer
  pub memory : Memory

-- an accepted call's answer, with the values and pending updates that it leaves
pub record Done : Type 0 where
  pub answer : Answer
  pub machine : Machine

-- "A refusal … changes no lent memory or state"
unfoldable pub reply : Memory → Outcome Done → Reply
reply m (refused n p) = record { answer = refused n p; memory = m }
reply m (accepted a) = record { answer = accepted a.answer; memory = store (length m.pool) a.machine }

-- Each call by the form of the decks that it tests (document 02, Req 03). The published calls test new decks and stand behind these;
-- what an old deck gave, in the theorem of the conversion, is what the same calls give that test old ones.

-- "Every call tests afresh what it is given": deck, pool's length, state
unfoldable pub tested_as : Form → List ℕ → Memory → Outcome Deck
tested_as f bytes m = do
  l ← passing f bytes
  require (good_length (length m.pool)) bad_pool 0
  require (good l.deck m) bad_state 0
  accepted l.deck

-- "Check: R, M, N and the largest charge of any carried rule (0 if none)"
unfoldable pub check_as : Form → List ℕ → Outcome Answer
check_as f bytes = do
  l ← passing f bytes
  accepted (passed (R l.deck) (M l.deck) (N l.deck) (largest_charge l.deck))

-- "Start: the opening values, nothing pending, pool all 0"
unfoldable pub opened : Deck → Machine
opened d = record { values = opening_values d; pending = [] }

-- a refused start hands back a state of zeros
unfoldable pub start_as : Form → List ℕ → List ℤ → Reply
start_as f bytes pool = reply (record { state = record { values = zeros limits.values; pending = 0 }; pool = pool }) do
  l ← passing f bytes
  require (good_length (length pool)) bad_pool 0
  accepted (record { answer = started; machine = opened l.deck })

-- the numbers at channels' places of a list "channel, value, channel, value"
unfoldable pub channels_of : List ℤ → List ℤ
channels_of [] = []
channels_of (c ∷ []) = c ∷ []
channels_of (c ∷ v ∷ l) = c ∷ channels_of l

-- "1 to 32 pairs of known, different channels"
unfoldable pub good_input : Deck → List ℤ → Bool
good_input d l =
    leb 2 (length l)
    && leb (length l) (2 * limits.channels)
    && eqb (length l % 2) 0
    && all_of (λ c. le_z (pos 0) c && lt_z c (pos (R d))) (channels_of l)
    && distinct (map nat_abs (channels_of l))

-- Input: the values are set and the firing follows. The answer is "charge after less charge before". Document 02, Req 01: an input
-- that would leave its part outside its limit is not performed
unfoldable pub input_as : Form → List ℕ → Memory → ℕ → List ℤ → Reply
input_as f bytes m p l = reply m do
  d ← tested_as f bytes m
  require (ltb p (N d)) unknown_part 0
  require (good_input d l) bad_input 0
  let before = load m
  require (within d p (assign p (pairs_of l) before.values)) input_outside 0
  let after = set_and_fire d p (pairs_of l) before
  require (leb (charge d after.pending) (capacity (length m.pool))) over_capacity 0
  accepted (record { answer = added (charge d after.pending - charge d before.pending); machine = after })

-- Commit: "The answer: applied or discarded, and the charge now pending"
unfoldable pub commit_as : Form → List ℕ → Memory → ℕ → Reply
commit_as f bytes m k = reply m do
  d ← tested_as f bytes m
  require (may_take (load m).pending k) place_not_pending 0
  let c = committed d k (load m)
  let now = charge d c.machine.pending
  accepted (record { answer = cond c.applied (applied now) (discarded now); machine = c.machine })

-- a settle so far: the number of commits made, and what they left
pub record Settling : Type 0 where
  pub made : ℕ
  pub machine : Machine

unfoldable pub one_more : Settling → Settling
one_more s = record { made = suc s.made; machine = s.machine }

-- "It commits place 0 until none is pending or the budget is used". The `let` keeps the rest from being computed at the end
unfoldable pub settling : Deck → ℕ → Machine → Settling
settling d zero x = record { made = 0; machine = x }
settling d (suc budget) x =
    let later = one_more (settling d budget (committed d (next_place x.pending) x).machine) in
    cond (is_empty x.pending) (record { made = 0; machine = x }) later

-- "With nothing pending it is settled, otherwise spent"
unfoldable pub settle_as : Form → List ℕ → Memory → ℕ → Reply
settle_as f bytes m budget = reply m do
  d ← tested_as f bytes m
  require (leb budget limits.charge) budget_too_large 0
  let s = settling d budget (load m)
  accepted (record { answer = cond (is_empty s.machine.pending) (settled s.made) (spent s.made); machine = s.machine })

-- the published calls
abbrev pub tested : List ℕ → Memory → Outcome Deck
tested bytes m = tested_as New bytes m

abbrev pub check : List ℕ → Outcome Answer
check bytes = check_as New bytes

abbrev pub start : List ℕ → List ℤ → Reply
start bytes pool = start_as New bytes pool

abbrev pub input : List ℕ → Memory → ℕ → List ℤ → Reply
input bytes m p l = input_as New bytes m p l

abbrev pub commit : List ℕ → Memory → ℕ → Reply
commit bytes m k = commit_as New bytes m k

abbrev pub settle : List ℕ → Memory → ℕ → Reply
settle bytes m budget = settle_as New bytes m budget

-- what section hands back: the bytes of a stretch of the deck, and the two lent numbers
pub record Section : Type 0 where
  pub stretch : List ℕ
  pub number : ℕ
  pub place : ℕ

-- the offset of section k's count; from 3 on, the deck's end
unfoldable pub section_at : Layout → List ℕ → ℕ → ℕ
section_at l bytes k = offset_of l.rules_at l.parts_at (length bytes) k

-- "from that section's count to its end"
pub record Ends : Type 0 where
  pub from : ℕ
  pub to : ℕ

unfoldable pub section_ends : List ℕ → ℕ → Outcome Ends
section_ends bytes k = do
  l ← passing New bytes
  require (leb k 2) unknown_section 0
  accepted (record { from = section_at l bytes k; to = section_at l bytes (suc k) })

-- "Refused, it hands back the empty stretch. Its number and place go into two lent numbers, both 0 when it succeeds"
unfoldable pub section_reply : List ℕ → Outcome Ends → Section
section_reply bytes (refused n p) = record { stretch = []; number = n; place = p }
section_reply bytes (accepted e) = record { stretch = take (e.to - e.from) (drop e.from bytes); number = 0; place = 0 }

unfoldable pub section : List ℕ → ℕ → Section
section bytes k = section_reply bytes (section_ends bytes k)

-- "the stretch of the caller's deck": how many bytes behind the deck's first it begins. The empty stretch begins with the deck
unfoldable pub stretch_from : Outcome Ends → ℕ
stretch_from (refused n p) = 0
stretch_from (accepted e) = e.from

unfoldable pub section_from : List ℕ → ℕ → ℕ
section_from bytes k = stretch_from (section_ends bytes k)

-- to open all definitions of this file, on an `unfolding` line; `stretches` opens section's
unfoldable pub stretches : Unit {0}
unfolding offset_of section_at section_ends section_reply section stretch_from section_from
stretches = tt

unfoldable pub calls : Unit {0}
unfolding reply tested_as check_as opened start_as channels_of good_input input_as commit_as one_more settling settle_as stretches
calls = tt
