-- `firing_rules::react` meets its contract: nothing where no rule is active, and else the firing of the active ones. Assumes nothing.
use mathlib.Core.Path.{subst}
use Rattle.deck.specs.Deck.{M}
use Rattle.charge.specs.Memo.{ActiveIs}
use Rattle.passing.specs.Tabled.{deck_of}
use Rattle.firing_rules.specs.Reactions.{fired_in}
use Rattle.firing_rules.specs.declared.Half.TheVariants.{Here, Others}
use Rattle.firing_rules.specs.Laws.Halves.{half-empty, both_halves}
use Rattle.firing_rules.specs.Laws.Reacting.{offering-first, reacted}
use Rattle.firing_rules.proofs.react.Goals as goal

-- the set, by the deck's own number of rules
found : (c : goal.Then-set-eq0)
    → let a = c.args in
    ActiveIs a.rig.now.rules.now a.rig.now.parts.now (M (deck_of a.rig.now.deck.now)) a.change.part a.change.channels c.active-set.result
found c =
    let a = c.args in
    subst (λ n. ActiveIs a.rig.now.rules.now a.rig.now.parts.now n a.change.part a.change.channels c.active-set.result)
    c.requires.0.tabled.counts.rules
    c.active-set.ensures

pub returns-then-set-eq0 : goal.returns-then-set-eq0
returns-then-set-eq0 c =
    let a = c.args in
    let d = deck_of a.rig.now.deck.now in
    let p = a.change.part in
    let o = offering-first c.requires.0 in
    reacted a.rig.now.deck.now a.rig.now.counts a.rig.now.rules.now a.rig.now.parts.now c.requires.0 a.values.now p a.change.channels
    (both_halves c.requires.0.tabled.sets c.requires.0.tabled.ranged a.values.now p a.change.channels _ (found c)
    (half-empty d (fired_in d a.values.now p Here) p _ c.if-set-eq0.true o)
    (half-empty d (fired_in d a.values.now p Others) p _ c.if-set-eq0.true o))

pub returns : goal.returns
returns c =
    c.fire_set.ensures c.args.change.channels c.active-set.ensures

pub active-set-requires : goal.active-set-requires
active-set-requires c = (c.requires.0.ready.tables, c.requires.2)

pub fire_set-requires : goal.fire_set-requires
fire_set-requires c = (c.requires.0, c.requires.1, c.requires.2)
