-- Laws of actions and rules that stand in a deck, and of what becomes of a rule. Assumes nothing.
use Prim.Native.Nat.{ℕ, zero, suc, ◌+◌, ◌≤◌, ◌<◌}
use Rattle.std.specs.Prelude.{◌≡◌, refl, length, get_or, take, set, pos}
use Rattle.std.proofs.Common.{sym, ap, ap₂, ◌∙◌, subst, arith, add-zero, add-one, length-append, length-set, take-suc, get_or-set_same, get_or-set_other}
use mathlib.Core.List.{List, [], ◌∷◌, ◌++◌, append_assoc, append-nil, flat_map}
use Rattle.std.proofs.Math.Decide.{dec_lt}
use Rattle.lists.specs.Lists.{sum_of}
use Rattle.lists.specs.Laws.Sums.{sum_of-append}
use Rattle.expression.specs.Syntax.{literal}
use Rattle.expression.specs.Encoding.{encode_num, encode_truth, encoding_expressions}
use Rattle.deck.specs.Deck.{Assignment, Action, Rule}
use Rattle.deck.specs.Encoding.{encode_expression, encode_assignment, encode_action, kind_byte, encode_rule}
use Rattle.conversion.specs.Converted.{default_rule, task_rule, split_by, split}
use Rattle.conversion.proofs.Laws.Renumbering.{no_rule}
use Rattle.conversion_bytes.specs.Stands.{stretch, Stands, Walked}
use Rattle.conversion_bytes.specs.Pieces.{event_bytes, task_bytes, RuleEnds, becomes, none_bytes, here_bytes, split_bytes, new_rule_bytes}
use Rattle.conversion_bytes.specs.Decks.{Sums}
use Rattle.conversion_bytes.specs.Laws.Stands.{stands-long, stands-first, stands-second, stands-head, stretch-is}
use Rattle.conversion_bytes.specs.Laws.Stands.{walked_none, walked_here, walked_next, walked_end}
use Rattle.conversion_bytes.specs.declared.Ends.{Ends}

-- ---- actions

-- the target, the length byte and the bytes that it counts
assignment-stands : (s : List ℕ) (at : ℕ) (x : Assignment) → Stands s at (encode_assignment x)
    → (at + 1 < length s) × (at + 2 + get_or s (at + 1) 0 ≡ at + length (encode_assignment x)) × (at + length (encode_assignment x) ≤ length s)
unfolding encode_assignment encode_expression
assignment-stands s at x p =
    let second = stands-second s at (x.target ∷ []) (length (encode_num x.value) ∷ encode_num x.value) p in
    let count = stands-head s (at + 1) (length (encode_num x.value)) (encode_num x.value) second in
    let long = stands-long s at (encode_assignment x) p in
    (omega (arith, long), omega (arith, count), omega (arith, long))

module _ (s : List ℕ) (at : ℕ) (a : Action) where
  pub action-none : Stands s at (encode_action a) → (at < length s) × Walked encode_assignment s (at + 1) (get_or s at 0) a (at + 1) 0
  unfolding encode_action
  action-none p =
      let rest : List ℕ = flat_map encode_assignment a in (
        omega (arith, stands-long s at (length a ∷ rest) p),
        walked_none encode_assignment s (at + 1) (get_or s at 0) a
            (record { count = stands-head s at (length a) rest p; stands = stands-second s at (length a ∷ []) rest p }),
      )

  pub action-next : (n place i : ℕ) → Walked encode_assignment s (at + 1) n a place i → i < n
      → (place + 1 < length s)
      × (place + 2 + get_or s (place + 1) 0 ≤ length s)
      × Walked encode_assignment s (at + 1) n a (place + 2 + get_or s (place + 1) 0) (i + 1)
  action-next n place i w h =
      let none : Assignment = record { target = 0; value = literal (pos 0) } in
      let p = assignment-stands s place (get_or a i none) (walked_here encode_assignment s (at + 1) n a place i none w h) in
      let next = walked_next encode_assignment s (at + 1) n a place i none w (place + 2 + get_or s (place + 1) 0) p.1 h in
      (p.0, omega (arith, p.1, p.2), next)

  pub action-end : (n place i : ℕ) → Walked encode_assignment s (at + 1) n a place i → n ≤ i → place ≡ at + length (encode_action a)
  unfolding encode_action
  action-end n place i w h =
      let none : Assignment = record { target = 0; value = literal (pos 0) } in
      omega (arith, walked_end encode_assignment s (at + 1) n a place i none w h)

-- ---- rules

encode-three : (r : Rule) → encode_rule r ≡ event_bytes r ++ (encode_action r.default ++ task_bytes r)
unfolding encode_rule
encode-three r =
    let k = kind_byte r.everywhere ∷ encode_expression (encode_truth r.condition) in
    append_assoc (event_bytes r ++ encode_action r.default) k (encode_action r.action)
    ∙ append_assoc (event_bytes r) (encode_action r.default) (k ++ encode_action r.action)

module _ (s : List ℕ) (at : ℕ) (r : Rule) (p : Stands s at (encode_rule r)) where
  three : Stands s at (event_bytes r ++ (encode_action r.default ++ task_bytes r))
  three = subst (Stands s at) (encode-three r) p

  events-stand : Stands s at (event_bytes r)
  events-stand = stands-first s at (event_bytes r) (encode_action r.default ++ task_bytes r) three

  behind : Stands s (at + length (event_bytes r)) (encode_action r.default ++ task_bytes r)
  behind = stands-second s at (event_bytes r) (encode_action r.default ++ task_bytes r) three

  pub default-stands : Stands s (at + length (event_bytes r)) (encode_action r.default)
  default-stands = stands-first s (at + length (event_bytes r)) (encode_action r.default) (task_bytes r) behind

  pub task-stands : Stands s (at + length (event_bytes r) + length (encode_action r.default)) (task_bytes r)
  task-stands = stands-second s (at + length (event_bytes r)) (encode_action r.default) (task_bytes r) behind

  pub rule-long : length (encode_rule r) ≡ length (event_bytes r) + (length (encode_action r.default) + length (task_bytes r))
  rule-long =
      ap length (encode-three r)
      ∙ length-append (event_bytes r) (encode_action r.default ++ task_bytes r)
      ∙ ap (λ n. length (event_bytes r) + n) (length-append (encode_action r.default) (task_bytes r))

  -- the count of the events
  pub event-count : (at < length s) × (at + 1 + get_or s at 0 ≡ at + length (event_bytes r)) × (at + length (encode_rule r) ≤ length s)
  event-count =
      let count = stands-head s at (length r.events) r.events events-stand in
      let long = stands-long s at (encode_rule r) p in
      (omega (arith, long, rule-long), omega (arith, count), omega (arith, long, rule-long))

-- the condition behind the kind, and the action behind it
pub task-parts : (s : List ℕ) (at : ℕ) (r : Rule) → Stands s at (task_bytes r)
    → (at + 1 < length s)
    × Stands s (at + 1 + 1 + get_or s (at + 1) 0) (encode_action r.action)
    × (at + 1 + 1 + get_or s (at + 1) 0 + length (encode_action r.action) ≡ at + length (task_bytes r))
unfolding encode_expression
task-parts s at r p =
    let truth : List ℕ = encode_truth r.condition in
    let act : List ℕ = encode_action r.action in
    let behind = stands-second s at (kind_byte r.everywhere ∷ []) ((length truth ∷ truth) ++ act) p in
    let count = stands-head s (at + 1) (length truth) (truth ++ act) behind in
    let last = stands-second s (at + 1) (length truth ∷ truth) act behind in
    let long : length (task_bytes r) ≡ 2 + length truth + length act = omega (arith, length-append truth act) in
    let e : at + 1 + length (length truth ∷ truth) ≡ at + 1 + 1 + get_or s (at + 1) 0 = omega (arith, count) in
    (omega (arith, long, stands-long s at (task_bytes r) p), subst (λ k. Stands s k act) e last, omega (arith, long, count))

-- the stretches of a rule, by where they end
pub record Stretches (s : List ℕ) (at : ℕ) (e : Ends) (r : Rule) : Type 0 where
  pub events : stretch s at e.default ≡ event_bytes r
  pub action : stretch s e.default e.task ≡ encode_action r.default
  pub task : stretch s e.task e.end ≡ task_bytes r
  pub count : get_or s e.default 0 ≡ length r.default
  pub order : (at < e.default) × (e.default < e.task) × (e.task < e.end) × (e.end ≤ length s)

rule-stretches : (s : List ℕ) (at : ℕ) (e : Ends) → RuleEnds s at e → (r : Rule) → Stands s at (encode_rule r) → Stretches s at e r
unfolding encode_action
rule-stretches s at e w r p =
    let ends = w r p in
    let long = rule-long s at r p in
    let events : List ℕ = event_bytes r in
    let action : List ℕ = encode_action r.default in
    let end : e.end ≡ at + length events + length action + length (task_bytes r) = omega (arith, ends.2, long) in
    let there = default-stands s at r p in
    record {
      events = stretch-is s at at e.default events refl ends.0 (events-stand s at r p);
      action = stretch-is s (at + length events) e.default e.task action ends.0 ends.1 there;
      task =
          stretch-is s (at + length events + length action) e.task e.end (task_bytes r) ends.1 end (task-stands s at r p);
      count =
          ap (λ k. get_or s k 0) ends.0
          ∙ stands-head s (at + length events) (length r.default) (flat_map encode_assignment r.default) there;
      order = (
        omega (arith, ends.0),
        omega (arith, ends.0, ends.1),
        omega (arith, ends.1, end),
        omega (arith, ends.2, (event-count s at r p).2),
      );
    }

-- the next rule of a list, and the ones behind it
module _ (s : List ℕ) (n : ℕ) (rs : List Rule) (place i : ℕ) (w : Walked encode_rule s 0 n rs place i) (less : i < n) where
  pub rule-here : Stands s place (encode_rule (get_or rs i no_rule))
  rule-here = walked_here encode_rule s 0 n rs place i no_rule w less

  module _ (e : Ends) (ends : RuleEnds s place e) where
    pub rule-stretched : Stretches s place e (get_or rs i no_rule)
    rule-stretched = rule-stretches s place e ends (get_or rs i no_rule) rule-here

    pub rule-next : Walked encode_rule s 0 n rs e.end (i + 1)
    rule-next = walked_next encode_rule s 0 n rs place i no_rule w e.end (ends (get_or rs i no_rule) rule-here).2 less

-- ---- what becomes of a rule

default-bytes : (r : Rule) → encode_rule (default_rule r) ≡ event_bytes r ++ (here_bytes ++ encode_action r.default)
unfolding encoding_expressions encode_expression encode_action flat_map
default-bytes r = encode-three (default_rule r)

task-bytes : (r : Rule) → encode_rule (task_rule r) ≡ event_bytes r ++ (none_bytes ++ task_bytes r)
unfolding encode_action flat_map
task-bytes r = encode-three (task_rule r)

-- with this default action
split_by_lem : (r : Rule) (a : Action) → encode_rule r ≡ event_bytes r ++ (encode_action a ++ task_bytes r)
    → split_bytes (length a) (event_bytes r) (encode_action r.default) (task_bytes r) ≡ flat_map encode_rule (split_by a r)
unfolding split_bytes split_by flat_map encode_action
split_by_lem r [] e = sym (append-nil (encode_rule r) ∙ e)
split_by_lem r (x ∷ a) e = sym (ap₂ ◌++◌ (default-bytes r) (append-nil (encode_rule (task_rule r)) ∙ task-bytes r))

split-bytes : (r : Rule) → split_bytes (length r.default) (event_bytes r) (encode_action r.default) (task_bytes r) ≡ new_rule_bytes r
unfolding split
split-bytes r = split_by_lem r r.default (encode-three r)

-- by the stretches of a rule that stands in a deck
pub stretches-split : (s : List ℕ) (at : ℕ) (e : Ends) (r : Rule) → Stretches s at e r
    → let default = stretch s e.default e.task in
    (0 < length default)
    × (split_bytes (get_or default 0 0) (stretch s at e.default) default (stretch s e.task e.end) ≡ new_rule_bytes r)
unfolding encode_action
stretches-split s at e r w =
    let default : List ℕ = stretch s e.default e.task in (
      omega (arith, ap length w.action),
      ap (λ x. split_bytes (get_or default 0 0) x default (stretch s e.task e.end)) w.events
          ∙ ap₂ (λ x y. split_bytes (get_or x 0 0) (event_bytes r) x y) w.action w.task
          ∙ split-bytes r,
    )

pub split-size : (r : Rule) → length (split r) ≡ becomes (length r.default)
unfolding split split_by becomes
split-size r = go r.default
  where
    go : (a : Action) → length (split_by a r) ≡ becomes (length a)
    go [] = refl
    go (x ∷ a) = refl

pub becomes-few : (n : ℕ) → becomes n ≤ 2
unfolding becomes
becomes-few zero = omega arith
becomes-few (suc n) = omega arith

-- ---- how many rules become of the first r

abbrev size : Rule → ℕ
size r = length (split r)

pub sums_none : (rs : List Rule) (numbers : List ℕ) → length numbers ≡ 65 → Sums rs 0 (set numbers 0 0)
unfolding sum_of
sums_none rs numbers long =
    record {
      size = length-set numbers 0 0 ∙ long;
      at = λ r h.
          let e : r ≡ 0 = omega arith in
          ap (λ k. get_or (set numbers 0 0) k 0) e
          ∙ get_or-set_same numbers 0 0 0 (omega (arith, long))
          ∙ ap (λ k. sum_of size (take k rs)) (sym e);
    }

pub sums_next : (rs : List Rule) (i : ℕ) (numbers : List ℕ) (more : ℕ) → i < length rs → i < 64 → Sums rs i numbers
    → more ≡ length (split (get_or rs i no_rule)) → Sums rs (i + 1) (set numbers (i + 1) (get_or numbers i 0 + more))
unfolding sum_of
sums_next rs i numbers more less few w e =
    record { size = length-set numbers (i + 1) (get_or numbers i 0 + more) ∙ w.size; at = λ r h. go r h (dec_lt r (i + 1)) }
  where
    last : get_or numbers i 0 + more ≡ sum_of size (take (i + 1) rs)
    last =
        ap₂ ◌+◌ (w.at i (omega arith)) (e ∙ sym (add-zero _))
        ∙ sym (sum_of-append size (take i rs) (get_or rs i no_rule ∷ []))
        ∙ ap (sum_of size) (sym (take-suc rs i no_rule less))
        ∙ ap (λ k. sum_of size (take k rs)) (sym (add-one i))

    go : (r : ℕ) → r ≤ i + 1 → Dec (r < i + 1) → get_or (set numbers (i + 1) (get_or numbers i 0 + more)) r 0 ≡ sum_of size (take r rs)
    go r h (yes a) =
        get_or-set_other numbers (i + 1) r (get_or numbers i 0 + more) 0 (λ q. absurd (omega (arith, q))) ∙ w.at r (omega arith)
    go r h (no a) =
        let q : r ≡ i + 1 = omega arith in
        ap (λ k. get_or (set numbers (i + 1) (get_or numbers i 0 + more)) k 0) q
        ∙ get_or-set_same numbers (i + 1) (get_or numbers i 0 + more) 0 (omega (arith, w.size))
        ∙ last
        ∙ ap (λ k. sum_of size (take k rs)) (sym q)
