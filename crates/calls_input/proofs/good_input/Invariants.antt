-- `calls_input::good_input` meets its contract. The loop's invariant: the answer for the pairs from number i on, with the channels
-- passed as a set, is the answer for all. Assumes nothing.
use Prim.Native.Nat.{◌*◌, ◌-◌, ◌/◌}
use mathlib.Core.Path.{◌≡◌}
use lib.ListN.{length, drop}
use Rattle.pool_states.specs.Fits.{channels_fit}
use Rattle.calls_input.proofs.good_input.Given as goal

abbrev pub invariant-loop-i : goal.invariant-loop-i
invariant-loop-i l =
    channels_fit l.channels l.seen (length l.pairs / 2 - l.i) (drop (2 * l.i) l.pairs)
    ≡ channels_fit l.channels 0 (length l.pairs / 2) l.pairs
