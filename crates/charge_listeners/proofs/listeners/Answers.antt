-- `charge_listeners::listeners` meets its contract: the rules that listen to a channel of the mask below the next one are in the set.
-- Assumes nothing.
use native.Mathlib.Omega.{arith}
use Rattle.lists.specs.Laws.Iterating.{going-first, going-here, going-on, going-end}
use Rattle.charge_listeners.proofs.Columns.{collected-none, collected-skip, collected-more, collected-all}
use Rattle.charge_listeners.proofs.listeners.Goals as goal

pub loop-c-init : goal.loop-c-init
loop-c-init c =
    let e = c.members_below-c-items.ensures in
    going-first (omega arith) c.into_iter-c-iterator.ensures.into_iter_gives e.from e.to (λ i b f h. collected-skip h f)
    collected-none

pub loop-c-preserved : goal.loop-c-preserved
loop-c-preserved c =
    let h = going-here c.loop-c.invariant c.in-Some.ensures.steps in
    going-on c.loop-c.invariant c.in-Some.ensures.steps (λ i b f h. collected-skip h f) (collected-more h.done h.member)

pub returns : goal.returns
returns c = collected-all (going-end c.loop-c.invariant c.in-None.ensures.steps.0.0)
