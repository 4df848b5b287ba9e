-- `graph::spread` meets its contract: the edges from the channels below the next one are added. Assumes nothing.
use native.Mathlib.Nat.{le_refl}
use native.Mathlib.Omega.{arith}
use Rattle.lists.specs.Laws.Iterating.{going-first, going-here, going-on, going-end}
use Rattle.graph.proofs.Spreading.{spreading-none, spreading-skip, spreading-more, spreading-all}
use Rattle.graph.proofs.spread.Goals as goal

pub loop-b-init : goal.loop-b-init
loop-b-init c =
    let e = c.members_below-b-items.ensures in
    going-first (omega arith) c.into_iter-b-iterator.ensures.into_iter_gives e.from e.to (λ i b f h. spreading-skip _ _ h f)
    (spreading-none _ _ _ _)

pub bounds-edges-b : goal.bounds-edges-b
bounds-edges-b c =
    let h = going-here c.loop-b.invariant c.in-Some.ensures.steps in
    omega (arith, h.below)

pub loop-b-preserved : goal.loop-b-preserved
loop-b-preserved c =
    let h = going-here c.loop-b.invariant c.in-Some.ensures.steps in
    going-on c.loop-b.invariant c.in-Some.ensures.steps (λ i b f h. spreading-skip _ _ h f)
    (spreading-more _ _ h.done h.below h.member)

pub returns : goal.returns
returns c = spreading-all _ _ (going-end c.loop-b.invariant c.in-None.ensures.steps.0.0) (le_refl _)
