-- `firing_actions::assign_pairs` meets its contract. The loop's invariant: setting the pairs that are left gives what setting all of
-- them gave at first. Assumes nothing.
use mathlib.Core.Path.{sym, ap, ◌∙◌, subst}
use native.Mathlib.Omega.{arith}
use lib.ListN.{get_or}
use lib.IntN.{pos}
use mir.Syntax.{w32}
use mir.ValLaws.{to_z-of_z}
use Rattle.std.proofs.Common.{rules}
use Rattle.std.specs.Slice.Iter.{chunks_exact_rest, chunks_exact_size}
use Rattle.pool.specs.Updates.{assign}
use Rattle.pool.specs.Places.{pairs_of}
use Rattle.firing.specs.Evaluated.{Assignable}
use Rattle.firing_actions.proofs.Chunks.{First, first-of, assign-first, assign-done}
use Rattle.firing_actions.proofs.Naturals.{index-there, index_is}
use Rattle.firing_actions.proofs.assign_pairs.Goals as goal
use Rattle.firing_actions.proofs.assign_pairs.Goals.{In-Some}

pub loop-pair-init : goal.loop-pair-init
loop-pair-init c =
    let e = c.chunks_exact-pair-items.ensures in
    let same = c.into_iter-pair-iterator.ensures.into_iter_gives in
    let rest = ap chunks_exact_rest same ∙ e.rest in (
      ap chunks_exact_size same ∙ e.size,
      subst Assignable (sym rest) c.requires.2,
      ap (λ l. assign c.args.part (pairs_of l) c.args.values.now) rest,
    )

-- the pair of a turn
first : (c : In-Some) → First (chunks_exact_rest c.loop-pair.pair-iterator) c.in-Some.pair.now (chunks_exact_rest c.next.new.self)
first c =
    let k = c.loop-pair.invariant in
    let s = c.in-Some.ensures.steps in
    first-of _ _ _ k.1 s.1.0 (s.1.1 ∙ k.0)

pub overflow_cast-c : goal.overflow_cast-c
overflow_cast-c c = let f = first (goal.at.overflow_cast-c c).In-Some in index-there _ f.channel f.is (omega (arith, f.low))

pub bounds-values-part : goal.bounds-values-part
bounds-values-part c =
    let f = first (goal.at.bounds-values-part c).In-Some in
    omega (arith, c.loop-pair.auto.values, index_is _ f.channel f.is (omega (arith, f.low)), f.low)

pub loop-pair-preserved : goal.loop-pair-preserved
loop-pair-preserved c =
    let k = c.loop-pair.invariant in
    let f = first (goal.at.loop-pair-preserved c).In-Some in (
      c.in-Some.ensures.steps.0 ∙ k.0,
      f.others,
      rw (
        to_z-of_z w32 (get_or c.in-Some.pair.now 1 (pos 0)) (record { sfits = search rules }),
        index_is (get_or c.in-Some.pair.now 0 (pos 0)) f.channel f.is (omega (arith, f.low)),
      )
          (assign-first c.args.part c.loop-pair.values f ∙ k.2),
    )

pub returns : goal.returns
returns c =
    let k = c.loop-pair.invariant in
    assign-done c.args.part c.loop-pair.values _ (omega (arith, c.in-None.ensures.steps.1.0, k.0)) ∙ k.2
