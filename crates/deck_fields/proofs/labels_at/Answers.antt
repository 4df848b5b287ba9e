-- `deck_fields::labels_at` meets its contract. The loop's invariant: i labels were read. Assumes nothing.
use native.Mathlib.Nat.{sub-zero}
use Rattle.deck.proofs.Laws.Turns.{turns-none, repeats-next, repeats-fault, repeats-end, hands-on}
use Rattle.deck_fields.proofs.labels_at.Goals as goal

pub loop-init : goal.loop-init
loop-init c = (c.requires, rw sub-zero (turns-none tt))

pub returns-in_err-next : goal.returns-in_err-next
returns-in_err-next c =
    hands-on _ _ _ _ _ c.from_residual.ensures.1
    (repeats-fault _ _ _ c.args.s.now c.loop.next c.loop-test.true c.in_err-next.ensures c.loop.invariant.1)

pub loop-preserved : goal.loop-preserved
loop-preserved c =
    let read = c.in_ok-next.ensures in
    (read.2, repeats-next _ _ _ c.args.s.now c.loop.next c.loop-test.true read.1 (λ xs p. tt) c.loop.invariant.1)

pub returns : goal.returns
returns c = repeats-end _ _ _ _ _ c.loop-test.false c.loop.invariant.0 c.loop.invariant.1
