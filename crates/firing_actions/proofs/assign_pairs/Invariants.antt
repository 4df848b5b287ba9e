-- `firing_actions::assign_pairs` meets its contract. The loop's invariant: setting the pairs that are left gives what setting all of
-- them gave at first. Assumes nothing.
use mathlib.Core.Path.{◌≡◌}
use Rattle.std.specs.Slice.Iter.{chunks_exact_rest, chunks_exact_size}
use Rattle.pool.specs.Updates.{assign}
use Rattle.pool.specs.Places.{pairs_of}
use Rattle.firing.specs.Evaluated.{Assignable}
use Rattle.firing_actions.proofs.assign_pairs.Given as goal

abbrev pub invariant-loop-pair : goal.invariant-loop-pair
invariant-loop-pair l =
    let it = l.pair-iterator in
    (chunks_exact_size it ≡ 2) × Assignable (chunks_exact_rest it)
    × (assign l.part (pairs_of (chunks_exact_rest it)) l.values ≡ assign l.part (pairs_of l.pairs) l.initial.values)
