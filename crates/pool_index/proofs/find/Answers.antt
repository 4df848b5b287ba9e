-- `pool_index::find` meets its contract. The loop's invariant: the way from the slot in hand is the rest of the whole way, and comes to
-- each place that has these numbers. Assumes nothing.
use Prim.Native.Nat.{◌<◌}
use native.Mathlib.Omega.{arith}
use Rattle.pool_index.specs.Index.{heads_of}
use Rattle.pool_index.proofs.Searching.{searching-starts, searching-ends, step_is, step-inside, searching-less}
use Rattle.pool_index.proofs.Searching.{searching-low, searching-found, searching-next}
use Rattle.pool_index.proofs.find.Goals as goal

-- the place at hand
some : (c : goal.After-from-i-in-loop-i) → 0 < c.loop-i.i
some c = omega (arith, c.loop-i-test.true)

pub bucket-s-requires : goal.bucket-s-requires
unfolding heads_of
bucket-s-requires c = let p = c.requires in (p.long, p.some, p.most)

pub loop-i-init : goal.loop-i-init
unfolding heads_of
loop-i-init c = rw c.from-i.ensures (searching-starts c.bucket-s.result c.requires c.bucket-s.ensures.0 c.bucket-s.ensures.1)

pub same_at-requires : goal.same_at-requires
same_at-requires c =
    let low = searching-low c.loop-i.invariant (omega (arith, c.loop-i-test.true)) in
    (c.requires.long, omega (arith, low, c.requires.room))

pub returns-then-same_at : goal.returns-then-same_at
returns-then-same_at c =
    searching-found c.loop-i.invariant (omega (arith, c.loop-i-test.true)) c.same_at.ensures c.if-same_at.true

pub bounds-index-s-in-loop-i : goal.bounds-index-s-in-loop-i
bounds-index-s-in-loop-i c = step-inside c.loop-i.invariant (omega (arith, c.loop-i-test.true)) c.side-b.ensures.0

pub loop-i-smaller : goal.loop-i-smaller
loop-i-smaller c =
    let w = c.loop-i.invariant in
    rw (c.from-i-in-loop-i.ensures, step_is w (some c) c.side-b.ensures.0) (searching-less w (some c))

pub loop-i-preserved : goal.loop-i-preserved
loop-i-preserved c =
    let w = c.loop-i.invariant in
    rw (c.from-i-in-loop-i.ensures, step_is w (some c) c.side-b.ensures.0)
    (searching-next w (some c) c.same_at.ensures c.if-same_at.false)

pub returns : goal.returns
returns c = searching-ends c.loop-i.invariant (omega (arith, c.loop-i-test.false))
