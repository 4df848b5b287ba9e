-- The reading of a deck once more, with the offsets of what is looked up later, and the tables that a pass over the bytes
-- fills. Assumes nothing.
use Rattle.std.specs.Prelude.{ℕ, suc, ◌+◌, ◌*◌, ◌≤◌, ◌<◌, ◌≡◌, Bool, true, false, not, eqb, leb, length, get_or, drop}
use Rattle.std.specs.Prelude.{Option, None, Some, Result, Ok, Err}
use mathlib.Core.List.{List, [], ◌∷◌, ◌++◌, map, flat_map}
use Rattle.lists.specs.Lists.{member}
use Rattle.lists.specs.Bits.{bit, mask_of}
use Rattle.refusals.specs.Outcome.{Outcome, accepted}
use Rattle.refusals.specs.Numbers.{repeated_target}
use Rattle.refusals.specs.Declined.{fault_outcome}
use Rattle.refusals.specs.declared.Fault.{Fault}
use Rattle.expression.specs.Syntax.{Num, Truth}
use Rattle.expression.specs.Reading.{Scope, whole_num, whole_truth}
use Rattle.expression.specs.Answers.{is_got}
use Rattle.deck.specs.declared.Form.{Form}
use Rattle.deck.specs.Limits.{limits}
use Rattle.deck.specs.Deck.{Assignment, Action, Rule, Part, targets}
use Rattle.deck.specs.Reader.{Got, Reader, ◌>>=◌, ◌>>◌, give, here, expect, end, number, repeats, rising, value, label}
use Rattle.deck.specs.Layout.{numbers, truths, expression, own_only, task_scope, action, Layout, default_action}
use Rattle.deck.specs.Encoding.{kind_byte}
use Rattle.deck.specs.declared.Front.{Front}
use Rattle.deck.specs.declared.Read.{Read}
use Rattle.deck.specs.declared.Deck as Counted

-- an expression of one kind: a truth, or else a number
abbrev pub Kind : Bool → Type 0
Kind true = Truth
Kind false = Num

unfoldable pub expression_for : (truth : Bool) → Scope → Reader (Kind truth)
expression_for true sc = expression (truths sc)
expression_for false sc = expression (numbers sc)

-- how many channels are known where an expression stands
unfoldable pub scope_of : ℕ → ℕ → Scope
scope_of owns fars = record { owns = owns; fars = fars }

-- one assignment to a channel that is not among ts
unfoldable pub assignment : Scope → List ℕ → Reader Assignment
assignment sc ts = do
  at ← here
  t ← number 0 sc.owns
  expect (not (member t ts)) repeated_target at
  e ← expression (numbers sc)
  give (record { target = t; value = e })

-- whether bytes are a whole truth, or else a whole number
abbrev pub is_whole : Bool → Scope → List ℕ → Bool
is_whole true sc bytes = is_got (whole_truth sc bytes)
is_whole false sc bytes = is_got (whole_num sc bytes)

-- a rule's kind, condition and action, with the offsets of its condition's length byte and its action's count
pub record MarkedTask : Type 0 where
  pub everywhere : Bool
  pub condition : Truth
  pub condition_at : ℕ
  pub action : Action
  pub action_at : ℕ

unfoldable pub marked_task : ℕ → Reader MarkedTask
marked_task R = do
  kind ← number 0 2
  let everywhere = eqb kind 1
  let scope = task_scope R everywhere
  condition_at ← here
  condition ← expression (truths scope)
  action_at ← here
  act ← action scope
  give (record { everywhere = everywhere; condition = condition; condition_at = condition_at; action = act; action_at = action_at })

-- a rule, with the offset of its default action's count too
pub record MarkedRule : Type 0 where
  pub events : List ℕ
  pub default : Action
  pub default_at : ℕ
  pub task : MarkedTask

unfoldable pub marked_rule : Form → ℕ → Reader MarkedRule
marked_rule f R = do
  n ← number 1 (suc limits.events)
  events ← rising n 0 R
  default_at ← here
  default ← default_action f R
  task ← marked_task R
  give (record { events = events; default = default; default_at = default_at; task = task })

-- the offsets forgotten
unfoldable pub rule_of : MarkedRule → Rule
rule_of m =
    record {
      events = m.events;
      default = m.default;
      everywhere = m.task.everywhere;
      condition = m.task.condition;
      action = m.task.action;
    }

-- a part, with the offsets of its first opening value and its limit's length byte
pub record MarkedPart : Type 0 where
  pub part : Part
  pub opening_at : ℕ
  pub limit_at : ℕ

unfoldable pub marked_part : ℕ → ℕ → Reader MarkedPart
marked_part R M = do
  opening_at ← here
  opening ← repeats R value
  n ← number 0 (suc M)
  carried ← rising n 0 M
  limit_at ← here
  limit ← expression (truths (own_only R))
  give (record { part = record { opening = opening; carried = carried; limit = limit }; opening_at = opening_at; limit_at = limit_at })

-- the first two sections: their counts, and the offset of the second one
pub record MarkedFront : Type 0 where
  pub channels : ℕ
  pub labels : List ℕ
  pub rules_at : ℕ
  pub count : ℕ
  pub rules : List MarkedRule

unfoldable pub marked_front : Form → Reader MarkedFront
marked_front f = do
  R ← number 1 (suc limits.channels)
  labels ← repeats R label
  rules_at ← here
  M ← number 0 (suc limits.rules)
  rules ← repeats M (marked_rule f R)
  give (record { channels = R; labels = labels; rules_at = rules_at; count = M; rules = rules })

-- all three sections: the count of the last one, and its offset
pub record Marked : Type 0 where
  pub front : MarkedFront
  pub parts_at : ℕ
  pub count : ℕ
  pub parts : List MarkedPart

unfoldable pub marked_sections : Form → Reader Marked
marked_sections f = do
  front ← marked_front f
  parts_at ← here
  N ← number 1 (suc limits.parts)
  parts ← repeats N (marked_part front.channels front.count)
  end
  give (record { front = front; parts_at = parts_at; count = N; parts = parts })

-- the offsets forgotten, but for those of the counts
unfoldable pub unmarked : Marked → Layout
unmarked m =
    record {
      deck = record { labels = m.front.labels; rules = map rule_of m.front.rules; parts = map (λ p. p.part) m.parts };
      rules_at = m.front.rules_at;
      parts_at = m.parts_at;
    }

-- ---- tables

-- a row of eight numbers for each rule: its events and the targets of its two actions as sets, its kind, and its offsets
unfoldable pub rule_row : MarkedRule → List ℕ
rule_row m =
    mask_of m.events
    ∷ mask_of (targets m.default)
    ∷ mask_of (targets m.task.action)
    ∷ kind_byte m.task.everywhere
    ∷ m.default_at
    ∷ m.task.condition_at
    ∷ m.task.action_at
    ∷ 0
    ∷ []

-- a row of four numbers for each part: the rules that it carries as a set, and its offsets
unfoldable pub part_row : MarkedPart → List ℕ
part_row m = mask_of m.part.carried ∷ m.opening_at ∷ m.limit_at ∷ 0 ∷ []

-- ---- what a function of the pass answers: the place after what was read, or the fault

-- o is the reader's outcome at some place of s. Where it is accepted, the value has P
abbrev pub Reads : {A : Type 0} → List ℕ → Outcome (Got A) → (A → Type 0) → Result ℕ Fault → Type 0
Reads {A} s o P (Ok n) = (a : A) × (o ≡ accepted (record { value = a; rest = drop n s; at = n })) × (n ≤ length s) × P a
Reads s o P (Err f) = o ≡ fault_outcome f

-- the same of an answer with what the code keeps of the value, which has P with it
abbrev pub ReadsKept : {A T : Type 0} → List ℕ → Outcome (Got A) → (T → A → Type 0) → Result (Read T) Fault → Type 0
ReadsKept s o P (Ok r) = Reads s o (P r.value) (Ok r.next)
ReadsKept s o P (Err f) = o ≡ fault_outcome f

-- the place after what was read, and none where there is a fault or none is looked for
abbrev pub ReadsTo : {A : Type 0} → List ℕ → Outcome (Got A) → Option ℕ → Type 0
ReadsTo s o (Some n) = Reads s o (λ _. Unit {0}) (Ok n)
ReadsTo s o None = Unit {0}

-- an assignment, of which its target is kept, mask being the set of the targets so far
abbrev pub ReadsAssignment : Scope → List ℕ → ℕ → ℕ → Result (Read ℕ) Fault → Type 0
ReadsAssignment sc s at mask r =
    (ts : List ℕ) → ((c : ℕ) → bit mask c ≡ member c ts)
    → ReadsKept s (assignment sc ts (drop at s) at) (λ target a. (target ≡ a.target) × (a.target < sc.owns)) r

-- the first two sections, with the counts and the offset that the code keeps and the table of the rules after and before
abbrev pub ReadsFront : Form → List ℕ → Result (Read Front) Fault → List ℕ → List ℕ → Type 0
ReadsFront f s r after before =
    ReadsKept s (marked_front f s 0)
    (λ front m.
    (front.channels ≡ m.channels)
    × (front.rules ≡ m.count)
    × (front.rules_at ≡ m.rules_at)
    × (m.channels ≤ 32)
    × (m.count ≤ 64)
    × (after ≡ flat_map rule_row m.rules ++ drop (8 * m.count) before))
    r

-- the whole deck, with both tables after and before
abbrev pub Loads : Form → List ℕ → List ℕ → List ℕ → List ℕ → List ℕ → Result Counted.Deck Fault → Type 0
Loads f s rules rules₀ parts parts₀ (Ok d) =
    (m : Marked)
    × (marked_sections f s 0 ≡ accepted (record { value = m; rest = []; at = length s }))
    × (d ≡ record {
      channels = m.front.channels;
      rules = m.front.count;
      parts = m.count;
      rules_at = m.front.rules_at;
      parts_at = m.parts_at;
    })
    × (rules ≡ flat_map rule_row m.front.rules ++ drop (8 * m.front.count) rules₀)
    × (parts ≡ flat_map part_row m.parts ++ drop (4 * m.count) parts₀)
Loads f s rules rules₀ parts parts₀ (Err e) = marked_sections f s 0 ≡ fault_outcome e

-- the byte where the number of rules stands, behind the labels; and room in a table for as many, if a deck may have them
abbrev pub rules_at : List ℕ → ℕ
rules_at s = get_or s (1 + get_or s 0 0) 0

abbrev pub RulesFit : List ℕ → ℕ → Type 0
RulesFit s n = rules_at s ≤ 64 → 8 * rules_at s ≤ n

-- b tells of bytes that are read as a deck whether it has at most 16 rules; and of other bytes too, if it is true
pub record FewRules (s : List ℕ) (b : Bool) : Type 0 where
  pub right : (f : Form) (g : Got Marked) → marked_sections f s 0 ≡ accepted g → b ≡ leb g.value.front.count 16
  pub low : b ≡ true → rules_at s ≤ 16

-- to open all definitions of this file, on an `unfolding` line
unfoldable pub marks : Unit {0}
unfolding expression_for scope_of assignment marked_task marked_rule rule_of marked_part marked_front marked_sections unmarked rule_row part_row
marks = tt
