-- `conversion_bytes::action_end` meets its contract. The loop's invariant: so many assignments end at the place. Assumes nothing.
use Prim.Native.Nat.{◌+◌}
use mathlib.Core.Path.{◌≡◌}
use native.Mathlib.Omega.{arith}
use lib.ListN.{get_or}
use Rattle.conversion_bytes.specs.Laws.Rules.{action-none, action-next, action-end}
use Rattle.conversion_bytes.proofs.action_end.Goals as goal

pub bounds-deck-at : goal.bounds-deck-at
bounds-deck-at c = (action-none c.args.deck.now c.args.at c.requires.0 c.requires.1).0

pub overflow_add-place : goal.overflow_add-place
overflow_add-place c = omega (arith, (action-none c.args.deck.now c.args.at c.requires.0 c.requires.1).0)

pub loop-init : goal.loop-init
loop-init c a p = (action-none c.args.deck.now c.args.at a p).1

pub overflow_add-place-in-loop : goal.overflow_add-place-in-loop
overflow_add-place-in-loop c =
    let l = c.loop in
    let known = l.invariant c.requires.0 c.requires.1 in
    omega (arith, (action-next c.args.deck.now c.args.at c.requires.0 _ l.place l.counter known c.loop-test.true).0)

pub bounds-deck-place : goal.bounds-deck-place
bounds-deck-place c =
    let l = c.loop in
    let known = l.invariant c.requires.0 c.requires.1 in
    (action-next c.args.deck.now c.args.at c.requires.0 _ l.place l.counter known c.loop-test.true).0

pub overflow_add-place-in-loop-3 : goal.overflow_add-place-in-loop-3
overflow_add-place-in-loop-3 c =
    let l = c.loop in
    let known = l.invariant c.requires.0 c.requires.1 in
    omega (arith, (action-next c.args.deck.now c.args.at c.requires.0 _ l.place l.counter known c.loop-test.true).1, c.from.ensures)

pub loop-preserved : goal.loop-preserved
loop-preserved c a p =
    let s = c.args.deck.now in
    let l = c.loop in
    let e : l.place + (2 + c.from.result) ≡ l.place + 2 + get_or s (l.place + 1) 0 = omega (arith, c.from.ensures) in
    rw e (action-next s c.args.at a _ l.place l.counter (l.invariant a p) c.loop-test.true).2

pub returns : goal.returns
returns c a p =
    let l = c.loop in
    action-end c.args.deck.now c.args.at a _ l.place l.counter (l.invariant a p) c.loop-test.false
