-- `graph::first_cycle` meets its contract: the table has the edges of the shape. Assumes nothing.
use mathlib.Core.Path.{subst}
use Rattle.graph.specs.FirstCycle.{FoundBelow}
use Rattle.graph.proofs.Drawing.{drawn-none, drawn-cycle}
use Rattle.graph.proofs.first_cycle.Goals as goal

pub draw-requires : goal.draw-requires
draw-requires c = (c.requires.0, drawn-none _ _ _)

pub returns : goal.returns
returns c =
    subst (λ n. FoundBelow c.args.counts.channels n c.lowest_cycle.result)
    (drawn-cycle c.requires.1 c.requires.0.few_rules c.draw.ensures) c.lowest_cycle.ensures
