-- `graph::draw` meets its contract: the edges of the carried rules below the next one are drawn. Assumes nothing.
use mathlib.Core.Path.{sym, ◌∙◌}
use native.Mathlib.Omega.{arith}
use Rattle.lists.specs.Laws.Iterating.{going-first, going-here, going-on, going-end}
use Rattle.graph.proofs.Drawing.{drawn-skip, drawn-more}
use Rattle.graph.proofs.draw.Goals as goal

pub loop-r-init : goal.loop-r-init
loop-r-init c =
    let e = c.members_below-r-items.ensures in
    let all = c.carried_by_some-carried.ensures in
    going-first (omega arith) c.into_iter-r-iterator.ensures.into_iter_gives e.from e.to
    (λ i b f h. drawn-skip h (sym (all.each i) ∙ f)) c.requires.1

pub loop-r-preserved : goal.loop-r-preserved
loop-r-preserved c =
    let h = going-here c.loop-r.invariant c.in-Some.ensures.steps in
    let all = c.carried_by_some-carried.ensures in
    going-on c.loop-r.invariant c.in-Some.ensures.steps (λ i b f h. drawn-skip h (sym (all.each i) ∙ f))
    (drawn-more h.done (sym (all.each c.in-Some.r) ∙ h.member) c.add_edges.ensures)

pub returns : goal.returns
returns c = going-end c.loop-r.invariant c.in-None.ensures.steps.0.0
