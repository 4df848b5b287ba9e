-- `pool_states::place_charge` meets its contract: part and channels of the place give the charge. Assumes nothing.
use mathlib.Core.Path.{◌∙◌}
use native.Mathlib.Omega.{arith}
use Rattle.deck.proofs.Laws.Shape.{counted-R, counted-N}
use Rattle.pool.specs.Places.{update_of}
use Rattle.pool_states.specs.Laws.PairsHeld.{known-low}
use Rattle.pool_states.specs.Laws.Charges.{holds-natural, holds-number, holds-part, holds-charge}
use Rattle.pool_states.proofs.place_charge.Goals as goal

pub number_at-p-requires : goal.number_at-p-requires
number_at-p-requires c =
    let a = c.args in
    let h = c.requires.2 in (
      omega (arith, h.long),
      holds-natural _ a.rig.now.counts.parts
          (counted-N a.rig.now.rules.now a.rig.now.parts.now a.rig.now.counts) a.place.now h,
    )

pub channels_of-mask-requires : goal.channels_of-mask-requires
channels_of-mask-requires c =
    let a = c.args in
    let h = c.requires.2 in
    let few = counted-R a.rig.now.rules.now a.rig.now.parts.now a.rig.now.counts in
    (h.long, h.written, known-low _ (update_of a.place.now) h.known (omega (arith, few)))

pub update_charge-requires : goal.update_charge-requires
update_charge-requires c =
    let a = c.args in
    let h = c.requires.2 in
    let n = counted-N a.rig.now.rules.now a.rig.now.parts.now a.rig.now.counts in (
      c.requires.0,
      holds-part _ a.rig.now.counts.parts n a.place.now h
          (c.number_at-p.ensures ∙ holds-number _ a.rig.now.counts.parts n a.place.now h),
    )

pub returns : goal.returns
returns c =
    let a = c.args in
    let h = c.requires.2 in
    let n = counted-N a.rig.now.rules.now a.rig.now.parts.now a.rig.now.counts in
    holds-charge _ a.rig.now.counts.parts n a.place.now h
    (omega (arith, counted-R a.rig.now.rules.now a.rig.now.parts.now a.rig.now.counts))
    (c.number_at-p.ensures ∙ holds-number _ a.rig.now.counts.parts n a.place.now h)
    c.channels_of-mask.ensures
    c.update_charge.ensures
