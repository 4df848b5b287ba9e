-- `charge_bound::part_above` meets its contract. The loop's invariant: most is the largest charge at the places passed, and the
-- memo is right. Assumes nothing.
use Prim.Native.Nat.{◌+◌, ◌*◌}
use lib.ListN.{get_or}
use Rattle.lists.specs.Laws.Iterating.{Going}
use Rattle.deck.specs.Shape.{shape}
use Rattle.charge.specs.Memo.{Memo}
use Rattle.charge.specs.Answer.{LargestBelow}
use Rattle.charge_bound.proofs.part_above.Given as goal

abbrev pub invariant-loop-r : goal.invariant-loop-r
invariant-loop-r l =
    let d = shape l.rig.rules.now l.rig.parts.now l.rig.counts in
    Memo d l.memo
    × Going (get_or l.rig.parts.now (4 * l.p) 0) l.rig.counts.rules (λ k. LargestBelow d (64 * l.p + k) l.most) l.r-iterator
