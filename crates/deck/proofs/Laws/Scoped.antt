-- The expressions of a well-formed deck name known channels only. Assumes nothing.
use Rattle.std.specs.Prelude.{ℕ, ◌≤◌, ◌≡◌, refl, true, false, ◌&&◌, eqb, length}
use Rattle.std.proofs.Math.Bool.{Bool}
use Rattle.std.proofs.Common.{arith}
use Rattle.std.proofs.Math.Dec.{leb, ltb}
use Rattle.lists.specs.Lists.{lists, all_of, distinct}
use Rattle.lists.specs.Laws.Booleans.{and_left, and_right}
use Rattle.lists.specs.Laws.Alls.{all_of-weaken, all_of-get_or}
use Rattle.expression.specs.Syntax.{Truth}
use Rattle.expression.specs.Reading.{Scope}
use Rattle.expression.specs.Encoding.{encode_num, encode_truth, fits, good_num, good_truth, encoding_expressions}
use Rattle.deck.specs.Deck.{Assignment, Action, Rule, Part, Deck, R, M, N, targets, decks}
use Rattle.deck.specs.Layout.{own_only, task_scope, layouts}
use Rattle.deck.specs.Encoding.{in_range, is_rising, fitting_length, good_assignment, good_action, good_condition, good_rule, good_part}
use Rattle.deck.specs.Encoding.{is_label}
use Rattle.deck.specs.Encoding.{well_formed}
use Rattle.deck.specs.Facts.{Scoped, all_in}

-- a task's scope has at most R far channels
pub task-fars : (R : ℕ) (everywhere : Bool) → (task_scope R everywhere).fars ≤ R
unfolding layouts
task-fars R true = omega arith
task-fars R false = omega arith

module _ (sc : Scope) where
  value_in_lem : (s : Assignment) → good_assignment sc s ≡ true → good_num sc s.value ≡ true
  unfolding good_assignment
  value_in_lem s h =
      let known : Bool = ltb s.target sc.owns in
      let good : Bool = good_num sc s.value in
      and_right known good (and_left (known && good) (fitting_length (encode_num s.value)) h)

  action-in : (a : Action) → good_action sc a ≡ true → all_in sc a ≡ true
  unfolding good_action
  action-in a h =
      let few : Bool = leb (length a) 4 in
      let good : Bool = all_of (good_assignment sc) a in
      all_of-weaken (λ s. good_num sc s.value) (good_assignment sc) value_in_lem a
      (and_right few good (and_left (few && good) (distinct (targets a)) h))

  condition-in : (t : Truth) → good_condition sc t ≡ true → good_truth sc t ≡ true
  unfolding good_condition
  condition-in t h = and_left (good_truth sc t) (fitting_length (encode_truth t)) h

module _ (R : ℕ) where
  abbrev default_in : Rule → Bool
  default_in r = all_in (own_only R) r.default

  abbrev condition_in : Rule → Bool
  condition_in r = good_truth (task_scope R r.everywhere) r.condition

  abbrev action_in : Rule → Bool
  action_in r = all_in (task_scope R r.everywhere) r.action

  module _ (r : Rule) (h : good_rule R r ≡ true) where
    abbrev sc : Scope
    sc = task_scope R r.everywhere

    abbrev t1 : Bool
    t1 = in_range 1 8 (length r.events) && is_rising 0 R r.events

    abbrev t2 : Bool
    t2 = t1 && good_action (own_only R) r.default

    abbrev t3 : Bool
    t3 = t2 && good_condition sc r.condition

    h3 : t3 ≡ true
    unfolding good_rule
    h3 = and_left t3 (good_action sc r.action) h

    rule-action : action_in r ≡ true
    unfolding good_rule
    rule-action = action-in sc r.action (and_right t3 (good_action sc r.action) h)

    rule-condition : condition_in r ≡ true
    rule-condition = condition-in sc r.condition (and_right t2 (good_condition sc r.condition) h3)

    rule-default : default_in r ≡ true
    rule-default =
        action-in (own_only R) r.default
        (and_right t1 (good_action (own_only R) r.default) (and_left t2 (good_condition sc r.condition) h3))

part_limit : (R M : ℕ) (p : Part) → good_part R M p ≡ true → good_truth (own_only R) p.limit ≡ true
unfolding good_part
part_limit R M p h =
    let t : Bool = eqb (length p.opening) R && all_of fits p.opening && leb (length p.carried) M && is_rising 0 M p.carried in
    condition-in (own_only R) p.limit (and_right t (good_condition (own_only R) p.limit) h)

pub scoped : (d : Deck) → well_formed d ≡ true → Scoped d
unfolding well_formed decks layouts lists encoding_expressions
scoped d h =
    let t3 : Bool = in_range 1 32 (R d) && all_of is_label d.labels && leb (M d) 64 in
    let t4 : Bool = t3 && all_of (good_rule (R d)) d.rules in
    let t5 : Bool = t4 && in_range 1 16 (N d) in
    let h5 = and_left t5 (all_of (good_part (R d) (M d)) d.parts) h in
    let rules = and_right t3 (all_of (good_rule (R d)) d.rules) (and_left t4 (in_range 1 16 (N d)) h5) in
    let parts = and_right t5 (all_of (good_part (R d) (M d)) d.parts) h in
    record {
      default = λ r. all_of-get_or (default_in (R d)) d.rules r _
          (all_of-weaken (default_in (R d)) (good_rule (R d)) (rule-default (R d)) d.rules rules) refl;
      condition = λ r. all_of-get_or (condition_in (R d)) d.rules r _
          (all_of-weaken (condition_in (R d)) (good_rule (R d)) (rule-condition (R d)) d.rules rules) refl;
      action = λ r. all_of-get_or (action_in (R d)) d.rules r _
          (all_of-weaken (action_in (R d)) (good_rule (R d)) (rule-action (R d)) d.rules rules) refl;
      limit = λ p. all_of-get_or (λ p. good_truth (own_only (R d)) p.limit) d.parts p _
          (all_of-weaken (λ p. good_truth (own_only (R d)) p.limit) (good_part (R d) (M d)) (part_limit (R d) (M d)) d.parts parts) refl;
    }
