-- Document 01, "The deck", and document 02, Req 02 and Req 03: from bytes to the deck, in one of two forms, or to the first fault in
-- reading order: 1, 2, 3, 4, 18, 19 and 20, then 5. Assumes nothing.
use Rattle.std.specs.Prelude.{ℕ, zero, suc, ◌≡◌, refl, Bool, true, not, cond, List, [], ◌∷◌, eqb}
use Rattle.lists.specs.Lists.{member}
use Rattle.refusals.specs.Outcome.{Outcome, refused, accepted}
use Rattle.refusals.specs.Numbers.{repeated_target, default_retired}
use Rattle.expression.specs.Syntax.{Num, Truth}
use Rattle.expression.specs.Reading.{Read, got, nothing, Scope, whole_num, whole_truth}
use Rattle.expression.specs.Faults.{Found, sound, faulty, num_fault, truth_fault}
use Rattle.expression.proofs.Laws.Sound.{num-has-fault, truth-has-fault}
use Rattle.deck.specs.Limits.{limits}
use Rattle.deck.specs.declared.Form.{Form}
use Rattle.deck.specs.declared.Form.TheVariants.{Old, New}
use Rattle.deck.specs.Deck.{Action, Rule, Part, Deck}
use Rattle.deck.specs.Reader.{Got, Reader, ◌>>=◌, ◌>>◌, give, fault, here, expect, byte, end, number, repeats, rising, value, label}

-- what an expression is to be: how its bytes are read, and their first fault from an offset on. Bytes that are not read have one
pub record Expected (A : Type 0) : Type 0 where
  pub whole : List ℕ → Read A
  pub find : List ℕ → ℕ → Found
  pub has_fault : (s : List ℕ) (at : ℕ) → whole s ≡ nothing → find s at ≡ sound → ⊥

abbrev pub numbers : Scope → Expected Num
numbers sc = record { whole = whole_num sc; find = num_fault sc; has_fault = num-has-fault sc }

abbrev pub truths : Scope → Expected Truth
truths sc = record { whole = whole_truth sc; find = truth_fault sc; has_fault = truth-has-fault sc }

-- 3, 18 and 19: the bytes are the expression, or what is refused is their first fault
unfoldable pub judged : {A : Type 0} → (r : Read A) (f : Found) → (r ≡ nothing → f ≡ sound → ⊥) → Reader A
judged (got a n) f has = give a
judged nothing (faulty n p) has = fault n p
judged nothing sound has = absurd (has refl refl)

-- "a length byte 1 to 64, then exactly that many bytes"; judged when all its bytes are there
unfoldable pub expression : {A : Type 0} → Expected A → Reader A
expression e = do
  n ← number 1 (suc limits.expression)
  at ← here
  bytes ← repeats n byte
  judged (e.whole bytes) (e.find bytes at) (e.has_fault bytes at)

-- "Far channels stand only in the condition and action of an everywhere task"
unfoldable pub own_only : ℕ → Scope
own_only R = record { owns = R; fars = 0 }

unfoldable pub own_and_far : ℕ → Scope
own_and_far R = record { owns = R; fars = R }

-- the scope of a rule's condition and action, by its kind
unfoldable pub task_scope : ℕ → Bool → Scope
task_scope R everywhere = cond everywhere (own_and_far R) (own_only R)

-- n assignments to channels that are not among ts. 4: a target stands twice; the place is the second one
unfoldable pub assignments : Scope → ℕ → List ℕ → Reader Action
assignments sc zero ts = give []
assignments sc (suc n) ts = do
  at ← here
  t ← number 0 sc.owns
  expect (not (member t ts)) repeated_target at
  e ← expression (numbers sc)
  rest ← assignments sc n (t ∷ ts)
  give (record { target = t; value = e } ∷ rest)

-- "a count 0 to 4, then for each assignment a target channel and an expression"
unfoldable pub action : Scope → Reader Action
action sc = do
  n ← number 0 (suc limits.assignments)
  assignments sc n []

-- how many assignments a default action may have
unfoldable pub allows : Form → ℕ → Bool
allows Old n = true
allows New n = eqb n 0

-- an action, in an old deck; 20: in a new deck it has assignments. The place is its count
unfoldable pub default_action : Form → ℕ → Reader Action
default_action f R = do
  at ← here
  n ← number 0 (suc limits.assignments)
  expect (allows f n) default_retired at
  assignments (own_only R) n []

-- "event count 1 to 8, then strictly rising channel numbers; a default action; a kind byte", then "a condition; an action"
unfoldable pub rule : Form → ℕ → Reader Rule
rule f R = do
  n ← number 1 (suc limits.events)
  events ← rising n 0 R
  default ← default_action f R
  kind ← number 0 2
  let everywhere = eqb kind 1
  let scope = task_scope R everywhere
  condition ← expression (truths scope)
  act ← action scope
  give (record { events = events; default = default; everywhere = everywhere; condition = condition; action = act })

-- R opening values, "a count 0 to M of carried rules, their strictly rising numbers, and a limit"
unfoldable pub part : ℕ → ℕ → Reader Part
part R M = do
  opening ← repeats R value
  n ← number 0 (suc M)
  carried ← rising n 0 M
  limit ← expression (truths (own_only R))
  give (record { opening = opening; carried = carried; limit = limit })

-- the deck, and the offsets of its last two sections' counts
pub record Layout : Type 0 where
  pub deck : Deck
  pub rules_at : ℕ
  pub parts_at : ℕ

-- "three sections in this order, each after its one-byte count"; a label is a byte 33 to 126
unfoldable pub sections : Form → Reader Layout
sections f = do
  R ← number 1 (suc limits.channels)
  labels ← repeats R label
  rules_at ← here
  M ← number 0 (suc limits.rules)
  rules ← repeats M (rule f R)
  parts_at ← here
  N ← number 1 (suc limits.parts)
  parts ← repeats N (part R M)
  end
  give (record { deck = record { labels = labels; rules = rules; parts = parts }; rules_at = rules_at; parts_at = parts_at })

unfoldable pub value_of : {A : Type 0} → Outcome (Got A) → Outcome A
value_of (refused n p) = refused n p
value_of (accepted g) = accepted g.value

-- the deck that the bytes hold, in one of the two forms
unfoldable pub read : Form → List ℕ → Outcome Layout
read f bytes = value_of (sections f bytes 0)

-- to open all definitions of this file, on an `unfolding` line
unfoldable pub layouts : Unit {0}
unfolding judged expression own_only own_and_far task_scope assignments action allows default_action rule part sections value_of read
layouts = tt
