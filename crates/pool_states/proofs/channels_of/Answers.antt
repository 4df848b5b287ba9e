-- `pool_states::channels_of` meets its contract. The loop's invariant: with the channels of the pairs from number i on, the set is
-- that of all pairs. Assumes nothing.
use mathlib.Core.Path.{◌∙◌}
use native.Mathlib.Omega.{arith}
use lib.ListN.{get_or}
use lib.IntN.{pos}
use Rattle.lists.specs.Laws.Bits.{bit_shifted}
use Rattle.pool_states.specs.Fits.{within}
use Rattle.pool_states.specs.Laws.Fits.{within-natural}
use Rattle.pool_states.specs.Laws.PairsHeld.{PairsHeld, pairs-held}
use Rattle.pool_states.proofs.Collecting.{collected-none, collected-natural, collected-low, collected-more, collected-all}
use Rattle.pool_states.proofs.channels_of.Goals as goal

-- the pairs, by the count that is read
held : (c : goal.Start) → let l = c.args.place.now in PairsHeld l (within 5 (get_or l 1 (pos 0)))
held c = pairs-held c.args.place.now c.requires.0 c.requires.1 c.requires.2

pub number_at-count-requires : goal.number_at-count-requires
number_at-count-requires c = (omega (arith, c.requires.0), (within-natural 5 _ (held c).few).0)

pub loop-i-init : goal.loop-i-init
loop-i-init c =
    let h = pairs-held c.args.place.now c.requires.0 c.requires.1 c.requires.2 in
    rw (c.number_at-count.ensures ∙ (within-natural 5 _ h.few).1) (collected-none c.args.place.now _ h)

pub number_at-c-requires : goal.number_at-c-requires
number_at-c-requires c =
    let k = c.loop-i.invariant in
    (omega (arith, k.few, c.loop-i-test.true, c.requires.0), collected-natural c.args.place.now _ c.requires.0 k c.loop-i-test.true)

pub overflow_shl-mask : goal.overflow_shl-mask
overflow_shl-mask c =
    omega (arith, collected-low c.args.place.now _ c.requires.0 c.loop-i.invariant c.loop-i-test.true c.number_at-c.ensures)

pub loop-i-preserved : goal.loop-i-preserved
loop-i-preserved c =
    let l = c.args.place.now in
    let k = c.loop-i.invariant in
    let low = collected-low l _ c.requires.0 k c.loop-i-test.true c.number_at-c.ensures in
    rw (bit_shifted 64 c.number_at-c.result (omega (arith, low)))
    (collected-more l _ c.requires.0 k c.loop-i-test.true c.number_at-c.ensures)

pub returns : goal.returns
returns c = collected-all c.args.place.now _ c.loop-i.invariant c.loop-i-test.false
