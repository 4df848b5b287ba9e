-- `conversion_bytes::rule_ends` meets its contract: events, default action and task, one after the other. Assumes nothing.
use Prim.Native.Nat.{ℕ, ◌+◌}
use mathlib.Core.Path.{◌≡◌, sym, ap, subst, ◌∙◌}
use mathlib.Core.List.{List}
use native.Mathlib.Omega.{arith}
use lib.ListN.{length, get_or}
use Rattle.deck.specs.Deck.{Action, Rule}
use Rattle.deck.specs.Encoding.{encode_action, encode_rule}
use Rattle.conversion_bytes.specs.Stands.{Stands}
use Rattle.conversion_bytes.specs.Pieces.{event_bytes, task_bytes}
use Rattle.conversion_bytes.specs.Laws.Rules.{event-count, default-stands, task-stands, task-parts, rule-long}
use Rattle.conversion_bytes.proofs.rule_ends.Goals as goal

-- a rule that stands there, its number of events, and the end that was found of its default action
module _ (s : List ℕ) (at : ℕ) (r : Rule) (p : Stands s at (encode_rule r)) (n : ℕ) (e : n ≡ get_or s at 0) where
  -- where the default action begins, and what stands there
  default-is : at + 1 + n ≡ at + length (event_bytes r)
  default-is = ap (λ n. at + 1 + n) e ∙ (event-count s at r p).1

  default-there : Stands s (at + 1 + n) (encode_action r.default)
  default-there = subst (λ k. Stands s k (encode_action r.default)) (sym default-is) (default-stands s at r p)

  -- and the task
  module _ (task : ℕ) (f : (a : Action) → Stands s (at + 1 + n) (encode_action a) → task ≡ at + 1 + n + length (encode_action a)) where
    task-is : task ≡ at + length (event_bytes r) + length (encode_action r.default)
    task-is = f r.default default-there ∙ ap (λ k. k + length (encode_action r.default)) default-is

    task-there : Stands s task (task_bytes r)
    task-there = subst (λ k. Stands s k (task_bytes r)) (sym task-is) (task-stands s at r p)

pub overflow_add-default : goal.overflow_add-default
overflow_add-default c = omega (arith, (event-count c.args.deck.now c.args.at c.requires.0 c.requires.1).0)

pub bounds-deck-at : goal.bounds-deck-at
bounds-deck-at c = (event-count c.args.deck.now c.args.at c.requires.0 c.requires.1).0

pub overflow_add-default-2 : goal.overflow_add-default-2
overflow_add-default-2 c =
    let s = c.args.deck.now in
    let r = c.requires.0 in
    let p = c.requires.1 in
    omega (arith, default-is s c.args.at r p _ c.from.ensures, (event-count s c.args.at r p).2, rule-long s c.args.at r p)

pub action_end-task-requires : goal.action_end-task-requires
action_end-task-requires c =
    (c.requires.0.default, default-there c.args.deck.now c.args.at c.requires.0 c.requires.1 _ c.from.ensures)

pub overflow_add-condition : goal.overflow_add-condition
overflow_add-condition c =
    let s = c.args.deck.now in
    let r = c.requires.0 in
    let task = c.action_end-task.result in
    omega (arith, (task-parts s task r (task-there s c.args.at r c.requires.1 _ c.from.ensures task c.action_end-task.ensures)).0)

pub overflow_add-action : goal.overflow_add-action
overflow_add-action c =
    let s = c.args.deck.now in
    let r = c.requires.0 in
    let task = c.action_end-task.result in
    omega (arith, (task-parts s task r (task-there s c.args.at r c.requires.1 _ c.from.ensures task c.action_end-task.ensures)).0)

pub bounds-deck-condition : goal.bounds-deck-condition
bounds-deck-condition c =
    let s = c.args.deck.now in
    let r = c.requires.0 in
    let task = c.action_end-task.result in
    (task-parts s task r (task-there s c.args.at r c.requires.1 _ c.from.ensures task c.action_end-task.ensures)).0

pub overflow_add-action-2 : goal.overflow_add-action-2
overflow_add-action-2 c =
    let s = c.args.deck.now in
    let r = c.requires.0 in
    let p = c.requires.1 in
    let task = c.action_end-task.result in
    let t = task-parts s task r (task-there s c.args.at r p _ c.from.ensures task c.action_end-task.ensures) in
    let is = task-is s c.args.at r p _ c.from.ensures task c.action_end-task.ensures in
    omega (arith, c.from-2.ensures, (event-count s c.args.at r p).2, rule-long s c.args.at r p, is, t.2)

pub action_end-end-requires : goal.action_end-end-requires
action_end-end-requires c =
    let s = c.args.deck.now in
    let r = c.requires.0 in
    let task = c.action_end-task.result in
    let t = task-parts s task r (task-there s c.args.at r c.requires.1 _ c.from.ensures task c.action_end-task.ensures) in
    (r.action, rw c.from-2.ensures t.1)

pub returns : goal.returns
returns c r p =
    let s = c.args.deck.now in
    let task = c.action_end-task.result in
    let t = task-parts s task r (task-there s c.args.at r p _ c.from.ensures task c.action_end-task.ensures) in
    let place : task + 1 + 1 + c.from-2.result ≡ task + 1 + 1 + get_or s (task + 1) 0 = ap (λ n. task + 1 + 1 + n) c.from-2.ensures in
    let there = subst (λ k. Stands s k (encode_action r.action)) (sym place) t.1 in
    let last = c.action_end-end.ensures r.action there in
    let is = task-is s c.args.at r p _ c.from.ensures task c.action_end-task.ensures in (
      default-is s c.args.at r p _ c.from.ensures,
      is,
      omega (arith, last, place, t.2, is, rule-long s c.args.at r p),
    )
