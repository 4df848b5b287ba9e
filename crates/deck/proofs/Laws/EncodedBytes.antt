-- The bytes of an encoded deck are bytes, if it is well formed. Assumes nothing.
use Rattle.std.specs.Prelude.{ℕ, suc, ◌≤◌, ◌<◌, ◌≡◌, true, false, ◌&&◌, length}
use Rattle.std.proofs.Math.Bool.{Bool}
use mathlib.Core.List.{List, [], ◌∷◌, ◌++◌, flat_map}
use Rattle.std.proofs.Common.{arith}
use Rattle.std.proofs.Math.Dec.{leb, ltb}
use borrow.Author.Tests.{leb-true, ltb-true, lt-ltb}
use Rattle.lists.specs.Lists.{all_of, distinct}
use Rattle.lists.specs.Laws.Booleans.{and_left, and_right}
use Rattle.lists.specs.Laws.Alls.{all_of-weaken}
use Rattle.expression.specs.Syntax.{Truth}
use Rattle.expression.specs.Reading.{Scope}
use Rattle.expression.specs.Encoding.{encode_value, encode_num, encode_truth, fits, good_num, good_truth}
use Rattle.expression.specs.Bytes.{Bytes}
use Rattle.expression.proofs.Laws.EncodedBytes.{bytes-cons, bytes-none, bytes-append, bytes-flat_map, value-bytes, num-bytes, truth-bytes}
use Rattle.deck.specs.Limits.{limits}
use Rattle.deck.specs.Deck.{Assignment, Action, Rule, Part, Deck, R, M, N, targets}
use Rattle.deck.specs.Layout.{own_only, task_scope, layouts}
use Rattle.deck.specs.Encoding.{encode_expression, encode_assignment, encode_action, kind_byte, encode_rule, encode_part, is_label}
use Rattle.deck.specs.Encoding.{encode_channels, encode_rules, encode_parts, encode, in_range, is_rising, fitting_length}
use Rattle.deck.specs.Encoding.{good_assignment, good_action, good_condition, good_rule, good_part, well_formed}
use Rattle.deck.proofs.Laws.Formed.{rising-head, rule-tests, part-tests, deck-tests}

rising-bytes : (lo hi : ℕ) (l : List ℕ) → hi ≤ 256 → is_rising lo hi l ≡ true → Bytes l
rising-bytes lo hi [] h r = bytes-none
rising-bytes lo hi (c ∷ l) h r =
    let head = rising-head lo hi c l r in
    bytes-cons c l (omega (arith, head.1)) (rising-bytes (suc c) hi l h head.2)

kind-byte : (b : Bool) → kind_byte b < 256
kind-byte false = omega arith
kind-byte true = omega arith

-- ---- actions and conditions

-- channels in the scope are bytes
module _ (sc : Scope) (owns : sc.owns ≤ 256) (fars : sc.fars ≤ 256) where
  expression-bytes : (s : List ℕ) → fitting_length s ≡ true → Bytes s → Bytes (encode_expression s)
  unfolding encode_expression fitting_length in_range
  expression-bytes s h b =
      let few = leb-true (length s) limits.expression (and_right (leb 1 (length s)) (leb (length s) limits.expression) h) in
      bytes-cons (length s) s (omega arith) b

  assignment-bytes : (s : Assignment) → good_assignment sc s ≡ true → Bytes (encode_assignment s)
  unfolding encode_assignment good_assignment
  assignment-bytes s h =
      let known : Bool = ltb s.target sc.owns in
      let both = and_left (known && good_num sc s.value) (fitting_length (encode_num s.value)) h in
      let less = ltb-true s.target sc.owns (and_left known (good_num sc s.value) both) in
      bytes-cons s.target _ (omega arith)
      (expression-bytes (encode_num s.value) (and_right (known && good_num sc s.value) (fitting_length (encode_num s.value)) h)
      (num-bytes sc owns fars s.value (and_right known (good_num sc s.value) both)))

  action-bytes : (a : Action) → good_action sc a ≡ true → Bytes (encode_action a)
  unfolding encode_action good_action
  action-bytes a h =
      let few : Bool = leb (length a) 4 in
      let both = and_left (few && all_of (good_assignment sc) a) (distinct (targets a)) h in
      let less = leb-true (length a) 4 (and_left few (all_of (good_assignment sc) a) both) in
      bytes-cons (length a) _ (omega arith)
      (bytes-flat_map encode_assignment (good_assignment sc) a assignment-bytes (and_right few (all_of (good_assignment sc) a) both))

  condition-bytes : (t : Truth) → good_condition sc t ≡ true → Bytes (encode_expression (encode_truth t))
  unfolding good_condition
  condition-bytes t h =
      expression-bytes (encode_truth t) (and_right (good_truth sc t) (fitting_length (encode_truth t)) h)
      (truth-bytes sc owns fars t (and_left (good_truth sc t) (fitting_length (encode_truth t)) h))

-- ---- rules and parts

here-small : (n : ℕ) → n ≤ 32 → ((own_only n).owns ≤ 256) × ((own_only n).fars ≤ 256)
unfolding layouts
here-small n h = (omega arith, omega arith)

task-small : (n : ℕ) (e : Bool) → n ≤ 32 → ((task_scope n e).owns ≤ 256) × ((task_scope n e).fars ≤ 256)
unfolding layouts
task-small n true h = (omega arith, omega arith)
task-small n false h = (omega arith, omega arith)

rule-bytes : (n : ℕ) → n ≤ 32 → (r : Rule) → good_rule n r ≡ true → Bytes (encode_rule r)
unfolding encode_rule in_range
rule-bytes n l r h =
    let sc : Scope = task_scope n r.everywhere in
    let here = here-small n l in
    let task = task-small n r.everywhere l in
    let tests = rule-tests n r h in
    let few = leb-true (length r.events) 8 (and_right (leb 1 (length r.events)) (leb (length r.events) 8) tests.0) in
    bytes-append _ (encode_action r.action)
    (bytes-append _ (kind_byte r.everywhere ∷ encode_expression (encode_truth r.condition))
    (bytes-append (length r.events ∷ r.events) (encode_action r.default)
    (bytes-cons (length r.events) r.events (omega arith) (rising-bytes 0 n r.events (omega arith) tests.1))
    (action-bytes (own_only n) here.0 here.1 r.default tests.2))
    (bytes-cons (kind_byte r.everywhere) _ (kind-byte r.everywhere)
    (condition-bytes sc task.0 task.1 r.condition tests.3)))
    (action-bytes sc task.0 task.1 r.action tests.4)

part_bytes_lem : (n m : ℕ) → n ≤ 32 → m ≤ 64 → (p : Part) → good_part n m p ≡ true → Bytes (encode_part p)
unfolding encode_part
part_bytes_lem n m l k p h =
    let here = here-small n l in
    let tests = part-tests n m p h in
    let few = leb-true (length p.carried) m tests.2 in
    bytes-append _ (encode_expression (encode_truth p.limit))
    (bytes-append (flat_map encode_value p.opening) (length p.carried ∷ p.carried)
    (bytes-flat_map encode_value fits p.opening (λ z _. value-bytes z) tests.1)
    (bytes-cons (length p.carried) p.carried (omega arith) (rising-bytes 0 m p.carried (omega arith) tests.3)))
    (condition-bytes (own_only n) here.0 here.1 p.limit tests.4)

label-byte : (b : ℕ) → is_label b ≡ true → ltb b 256 ≡ true
unfolding in_range
label-byte b h =
    let less = leb-true b limits.highest (and_right (leb limits.lowest b) (leb b limits.highest) h) in
    lt-ltb b 256 (omega arith)

-- ---- the deck

pub encoded-bytes : (d : Deck) → well_formed d ≡ true → Bytes (encode d)
unfolding encode encode_channels encode_rules encode_parts in_range
encoded-bytes d h =
    let channels : Bool = in_range 1 32 (R d) in
    let labels : Bool = all_of is_label d.labels in
    let tests = deck-tests d h in
    let r = leb-true (R d) 32 (and_right (leb 1 (R d)) (leb (R d) 32) (and_left channels labels tests.0)) in
    let m = leb-true (M d) 64 tests.1 in
    let n = leb-true (N d) 16 (and_right (leb 1 (N d)) (leb (N d) 16) tests.3) in
    bytes-append (encode_channels d ++ encode_rules d) (encode_parts d)
    (bytes-append (encode_channels d) (encode_rules d)
    (bytes-cons (R d) d.labels (omega arith)
    (all_of-weaken (λ b. ltb b 256) is_label label-byte d.labels (and_right channels labels tests.0)))
    (bytes-cons (M d) _ (omega arith) (bytes-flat_map encode_rule (good_rule (R d)) d.rules (rule-bytes (R d) r) tests.2)))
    (bytes-cons (N d) _ (omega arith) (bytes-flat_map encode_part (good_part (R d) (M d)) d.parts (part_bytes_lem (R d) (M d) r m) tests.4))
