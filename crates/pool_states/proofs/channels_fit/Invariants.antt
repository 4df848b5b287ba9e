-- `pool_states::channels_fit` meets its contract. The loop's invariant: the answer for the pairs from number i on, with the
-- channels passed as a set, is the answer for all, and with their channels the set is that of all. Assumes nothing.
use Prim.Native.Nat.{◌+◌, ◌*◌, ◌-◌}
use mathlib.Core.Path.{◌≡◌}
use lib.ListN.{drop}
use Rattle.lists.specs.Bits.{mask_from, mask_of}
use Rattle.pool_states.specs.Fits.{channels_of, channels_fit}
use Rattle.pool_states.proofs.channels_fit.Given as goal

abbrev pub invariant-loop-i : goal.invariant-loop-i
invariant-loop-i l =
    (channels_fit l.channels l.mask (l.count - l.i) (drop (2 + 2 * l.i) l.place) ≡ channels_fit l.channels 0 l.count (drop 2 l.place))
    × (mask_from l.mask (channels_of (l.count - l.i) (drop (2 + 2 * l.i) l.place)) ≡ mask_of (channels_of l.count (drop 2 l.place)))
