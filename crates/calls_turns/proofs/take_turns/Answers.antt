-- `calls_turns::take_turns` meets its contract: each turn is a commit of one place, and the places move together at the end. Assumes
-- nothing.
use Prim.Native.Nat.{◌+◌, ◌-◌, ◌<◌, ◌≤◌, ◌/◌}
use mathlib.Core.Path.{◌≡◌, sym, ◌∙◌}
use mathlib.Core.Logic.{inl, inr}
use native.Mathlib.Omega.{arith}
use lib.ListN.{length}
use mir.Syntax.{w32, w64}
use mir.Val.{Fits}
use borrow.Author.Rules.{rules}
use Rattle.pool.specs.Places.{capacity}
use Rattle.calls_turns.specs.Laws.Turning.{Turning, first-turn, next-turn, turn-requires, next_low, made-few}
use Rattle.calls_turns.specs.Laws.Turning.{turns-scattered, gathered-long, turns-ended}
use Rattle.calls_turns.proofs.take_turns.Goals as goal
use Rattle.calls_turns.proofs.take_turns.Goals.{else-loop-made-test, then-loop-made-test+then-ahead-eq0}

pub loop-made-init : goal.loop-made-init
unfolding capacity
loop-made-init c =
    (first-turn c.args.budget c.requires, omega arith)

-- something is pending
more : (i : goal.After-commit-arg-in-loop-made-3-1) → i.loop-made.next < i.loop-made.queue.used
more i = omega (arith, next_low i.loop-made.invariant.0, i.if-ahead-eq0.false)

-- something is pending
more-2 : (i : goal.After-queue-1) → i.loop-made.next < i.loop-made.queue.used
more-2 i = omega (arith, next_low i.loop-made.invariant.0, i.if-ahead-eq0.false)

pub commit-step-requires : goal.commit-step-requires
commit-step-requires c =
    rw c.loop-made.invariant.1 (turn-requires c.loop-made.invariant.0 (more c))

pub loop-made-preserved : goal.loop-made-preserved
loop-made-preserved c = (
  next-turn c.loop-made.invariant.0 c.loop-made-test.true (more-2 c) (rw c.loop-made.invariant.1 at c.commit-step.ensures.0),
  omega (arith, c.commit-step.ensures.1, c.loop-made.invariant.1),
)

one_more_lem : (i : goal.After-queue-1) → Fits w32 (i.loop-made.made + 1)
one_more_lem i = record { fits = omega (arith, i.loop-made-test.true, i.ranges.budget.fits) }

next_fits : (i : goal.After-queue-1) → Fits w64 (i.loop-made.next + 1)
next_fits i = record { fits = omega (arith, (made-few i.loop-made.invariant.0).1) }

one_less : (i : goal.After-queue-1) → i.args.budget - (i.loop-made.made + 1) < i.args.budget - i.loop-made.made
one_less i = omega (arith, i.loop-made-test.true)

pub shape_of-memo : goal.shape_of-memo
shape_of-memo c =
    c.loop-made.invariant.0.committing.ready.memo.long ∙ sym c.requires.committing.ready.memo.long

pub returns : goal.returns
unfolding capacity
returns c =
    turns-ended c.loop-made.invariant.0 c.gather-left.ensures
    (elim c.loop-made-test.branch [
      | else-loop-made-test w ↦ inr (omega (arith, w.loop-made-test.false))
      | then-loop-made-test+then-ahead-eq0 w ↦ inl (omega (arith, next_low c.loop-made.invariant.0, w.if-ahead-eq0.true))
    ])

-- the places of the pool are few
few : (s : goal.After-struct_known-1) → length s.args.pool.now / 10 ≤ 65535
unfolding capacity
few s = omega (arith, s.requires.committing.room.bounded)

pub overflow_cast-queue-2 : goal.overflow_cast-queue-2
overflow_cast-queue-2 c = omega (arith, few c)

pub overflow_sub-ahead : goal.overflow_sub-ahead
overflow_sub-ahead c = omega (arith, next_low c.loop-made.invariant.0)

pub overflow_add-made : goal.overflow_add-made
overflow_add-made c = one_more_lem c

pub overflow_add-next : goal.overflow_add-next
overflow_add-next c = next_fits c

pub loop-made-smaller : goal.loop-made-smaller
loop-made-smaller c = one_less c

pub gather-left-requires : goal.gather-left-requires
gather-left-requires c = turns-scattered c.loop-made.invariant.0

pub shape_of-index : goal.shape_of-index
shape_of-index c = c.loop-made.invariant.0.index-long

pub shape_of-pool : goal.shape_of-pool
shape_of-pool c = gathered-long c.loop-made.invariant.0 c.gather-left.ensures
