-- `graph::lowest_cycle` meets its contract: no channel below `start` can reach itself, and the rounds made from `start`
-- have not led back to it. Assumes nothing.
use mathlib.Core.Path.{◌≡◌}
use mathlib.Core.Bool.{false}
use Rattle.std.specs.Prelude.{None}
use Prim.Native.Nat.{ℕ, ◌<◌}
use Rattle.graph.specs.Graph.{reaches_itself}
use Rattle.graph.specs.Masks.{edge_at}
use Rattle.graph.proofs.Searching.{Searching}
use Rattle.graph.proofs.lowest_cycle.Given as goal

abbrev pub invariant-loop : goal.invariant-loop
invariant-loop l = (l.found ≡ None) × Searching l.channels l.edges l.start l.seen l.fresh l.counter

abbrev pub invariant-search : goal.invariant-search
invariant-search l = (l.found ≡ None) × ((k : ℕ) → k < l.start → reaches_itself l.channels (edge_at l.edges) k ≡ false)
