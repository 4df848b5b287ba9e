-- `deck_rules::action_at` meets its contract. The loop's invariant: i assignments were read, and `value` is the set of their targets.
-- Assumes nothing.
use Prim.Native.Nat.{◌<◌}
use native.Mathlib.Omega.{arith}
use native.Mathlib.Nat.{sub-zero}
use Rattle.lists.specs.Laws.Bits.{bit_shifted}
use Rattle.deck.specs.Marks.{scope_of}
use Rattle.deck.proofs.Laws.Turns.{got-value, hands_on_kept}
use Rattle.deck.proofs.Laws.ActionTurns.{action-fault, action-none, assigning-next, assigning-fault, assigning-end}
use Rattle.deck_rules.proofs.action_at.Goals as goal

pub returns-in_err-count : goal.returns-in_err-count
returns-in_err-count c =
    let a = c.args in
    hands_on_kept _ _ _ _ _ c.from_residual.ensures.1
    (action-fault (scope_of a.own a.far) a.s.now a.at c.in_err-count.ensures)

pub loop-init : goal.loop-init
loop-init c =
    let a = c.args in
    let count = c.in_ok-count.count in
    let read = c.in_ok-count.ensures in
    (read.2, rw sub-zero (action-none (scope_of a.own a.far) a.s.now a.at (got-value a.s.now count.next count.value read)))

pub returns-in_err-a : goal.returns-in_err-a
returns-in_err-a c =
    hands_on_kept _ _ _ _ _ c.from_residual-in_err-a.ensures.1
    (assigning-fault _ _ c.args.s.now c.loop.next c.loop.value _ c.loop-test.true c.in_err-a.ensures c.loop.invariant.1)

pub overflow_shl-value : goal.overflow_shl-value
unfolding scope_of
overflow_shl-value c =
    let w = c.loop.invariant.1 in
    let x = c.in_ok-a.ensures w.ts w.same in
    omega (arith, x.3.0, x.3.1, c.requires)

pub loop-preserved : goal.loop-preserved
unfolding scope_of
loop-preserved c =
    let w = c.loop.invariant.1 in
    let t = c.in_ok-a.a.value in
    let x = c.in_ok-a.ensures w.ts w.same in
    let below : t < 64 = omega (arith, x.3.0, x.3.1, c.requires) in
    (x.2, rw (bit_shifted 64 t below) (assigning-next _ _ c.args.s.now c.loop.next c.loop.value t c.loop-test.true c.in_ok-a.ensures w))

pub returns : goal.returns
returns c = assigning-end _ _ _ _ _ c.loop-test.false c.loop.invariant.0 c.loop.invariant.1
