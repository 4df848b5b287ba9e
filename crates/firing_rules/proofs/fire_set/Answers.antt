-- `firing_rules::fire_set` meets its contract: the two halves, one behind the other. Assumes nothing.
use mathlib.Core.Path.{subst}
use Rattle.charge.specs.Memo.{ActiveIs}
use Rattle.firing_rules.specs.Laws.Halves.{both_halves}
use Rattle.firing_rules.specs.Laws.Reacting.{offering-first, reacted}
use Rattle.firing_rules.proofs.fire_set.Goals as goal

pub returns : goal.returns
returns c mask h =
    let a = c.args in
    let p = a.firing.part in
    reacted a.rig.now.deck.now a.rig.now.counts a.rig.now.rules.now a.rig.now.parts.now c.requires.0 a.values.now p mask
    (both_halves c.requires.0.tabled.sets c.requires.0.tabled.ranged a.values.now p mask _
    (subst (λ n. ActiveIs a.rig.now.rules.now a.rig.now.parts.now n p mask a.firing.set) c.requires.0.tabled.counts.rules h)
    c.fire_all-first.ensures.0 c.fire_all.ensures.0)

pub fire_all-first-requires : goal.fire_all-first-requires
fire_all-first-requires c = (c.requires.0.tabled, offering-first c.requires.0, c.requires.1, c.requires.2, c.requires.0.none)

pub fire_all-requires : goal.fire_all-requires
fire_all-requires c = (c.requires.0.tabled, c.fire_all-first.ensures.1, c.requires.1, c.requires.2, c.requires.0.none)
