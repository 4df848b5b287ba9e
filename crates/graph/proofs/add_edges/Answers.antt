-- `graph::add_edges` meets its contract: the events below the next one are done. Assumes nothing.
use native.Mathlib.Omega.{arith}
use Rattle.lists.specs.Laws.Iterating.{going-first, going-here, going-on, going-end}
use Rattle.graph.proofs.Adding.{adding-none, adding-yes, adding-no, adding-all}
use Rattle.graph.proofs.add_edges.Goals as goal

pub loop-c-init : goal.loop-c-init
loop-c-init c =
    let e = c.members_below-c-items.ensures in
    going-first (omega arith) c.into_iter-c-iterator.ensures.into_iter_gives e.from e.to (λ i b f h. adding-no h f)
    (adding-none _ _ _ c.requires)

pub bounds-edges-c : goal.bounds-edges-c
bounds-edges-c c =
    let h = going-here c.loop-c.invariant c.in-Some.ensures.steps in
    omega (arith, h.below, h.done.long)

pub bounds-edges-c-in-loop-c : goal.bounds-edges-c-in-loop-c
bounds-edges-c-in-loop-c c =
    let h = going-here c.loop-c.invariant c.in-Some.ensures.steps in
    omega (arith, h.below, h.done.long)

pub loop-c-preserved : goal.loop-c-preserved
loop-c-preserved c =
    let h = going-here c.loop-c.invariant c.in-Some.ensures.steps in
    going-on c.loop-c.invariant c.in-Some.ensures.steps (λ i b f h. adding-no h f) (adding-yes h.done h.below h.member)

pub returns : goal.returns
returns c = adding-all (going-end c.loop-c.invariant c.in-None.ensures.steps.0.0) (omega arith)
