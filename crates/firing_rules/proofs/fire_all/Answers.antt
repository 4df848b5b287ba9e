-- `firing_rules::fire_all` meets its contract. The loop's invariant: the rules of the set before the next one had their turn. Assumes
-- nothing.
use native.Mathlib.Omega.{arith}
use Rattle.lists.specs.Laws.Iterating.{going-first, going-here, going-on, going-end}
use Rattle.firing_rules.specs.Laws.Halves.{half-none, half-pass, half-fail, half-all}
use Rattle.firing_rules.proofs.fire_all.Goals as goal

pub loop-rule-init : goal.loop-rule-init
loop-rule-init c =
    let e = c.members_below-rule-items.ensures in
    let k = c.requires.0.counts in
    going-first (omega (arith, k.rules, k.formed.rules)) c.into_iter-rule-iterator.ensures.into_iter_gives e.from e.to
    (λ i b f h. half-fail i h (omega (arith, b, k.rules)) f)
    (half-none c.requires.1)

pub fire_rule-out-requires : goal.fire_rule-out-requires
fire_rule-out-requires c =
    let h = going-here c.loop-rule.invariant c.in-Some.ensures.steps in
    (c.requires.0, h.done.offering, c.requires.2, c.requires.3, h.below, c.requires.4)

pub loop-rule-preserved : goal.loop-rule-preserved
loop-rule-preserved c =
    let k = c.requires.0.counts in
    let h = going-here c.loop-rule.invariant c.in-Some.ensures.steps in
    going-on c.loop-rule.invariant c.in-Some.ensures.steps
    (λ i b f h. half-fail i h (omega (arith, b, k.rules)) f)
    (half-pass _ h.done (omega (arith, h.below, k.rules)) h.member c.fire_rule-out.ensures)

pub returns : goal.returns
returns c =
    let x = going-end c.loop-rule.invariant c.in-None.ensures.steps.0.0 in
    (half-all c.requires.0.counts.rules x, x.offering)
