-- `calls_turns::take_turns` meets its contract: each turn is a commit of one place, and the places move together at the end. Assumes
-- nothing.
use Prim.Native.Nat.{◌+◌, ◌-◌, ◌<◌, ◌≤◌, ◌/◌}
use mathlib.Core.Path.{◌≡◌, sym, ◌∙◌}
use mathlib.Core.Logic.{⊎_elim, inl, inr}
use native.Mathlib.Omega.{arith}
use lib.ListN.{length}
use mir.Syntax.{w32, w64}
use mir.Val.{Fits}
use borrow.Author.Rules.{rules}
use Rattle.pool.specs.Places.{capacity}
use Rattle.calls_turns.specs.Laws.Turning.{Turning, first-turn, next-turn, turn-requires, next_low, made-few}
use Rattle.calls_turns.specs.Laws.Turning.{turns-scattered, gathered-long, turns-ended}
use Rattle.calls_turns.proofs.take_turns.Given as goal

-- with each turn there is room for one less
abbrev pub invariant-loop-made : goal.invariant-loop-made
invariant-loop-made l =
    Turning l.rig.deck.now l.rig.counts l.rig.rules.now l.rig.parts.now l.initial.queue.capacity l.first l.budget
    l.initial.values l.initial.queue.used l.initial.queue.charge l.initial.index l.initial.pool
    l.memo l.index l.pool l.values l.queue.used l.queue.charge l.applied l.made l.next
    × (l.queue.capacity ≡ l.initial.queue.capacity - l.made)

abbrev pub decreases-loop-made : goal.decreases-loop-made
decreases-loop-made l = l.budget - l.made
