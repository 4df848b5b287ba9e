-- `charge_listeners::note_rule` meets its contract: the rule is noted for the events below the next one. Assumes nothing.
use native.Mathlib.Omega.{arith}
use Rattle.lists.specs.Laws.Bits.{bit_shifted}
use Rattle.lists.specs.Laws.Iterating.{going-first, going-here, going-on, going-end}
use Rattle.charge_listeners.proofs.Columns.{noting-none, noting-skip, noting-more, noting-all}
use Rattle.charge_listeners.proofs.note_rule.Goals as goal

pub loop-c-init : goal.loop-c-init
loop-c-init c =
    let e = c.members_below-c-items.ensures in
    going-first (omega arith) c.into_iter-c-iterator.ensures.into_iter_gives e.from e.to (λ i b f h. noting-skip h f) noting-none

pub loop-c-preserved : goal.loop-c-preserved
loop-c-preserved c =
    let h = going-here c.loop-c.invariant c.in-Some.ensures.steps in
    going-on c.loop-c.invariant c.in-Some.ensures.steps (λ i b f h. noting-skip h f)
    (rw (bit_shifted 64 c.args.r (omega arith)) (noting-more h.done (omega (arith, h.below)) h.member))

pub returns : goal.returns
returns c = noting-all (going-end c.loop-c.invariant c.in-None.ensures.steps.0.0) (omega arith)
