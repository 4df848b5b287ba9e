-- `charge_bound::search_above` meets its contract. The loop's invariant: best is the largest charge at the parts passed, and
-- the memo is right. Assumes nothing.
use Prim.Native.Nat.{◌*◌}
use Rattle.deck.specs.Shape.{shape}
use Rattle.charge.specs.Memo.{Memo}
use Rattle.charge.specs.Answer.{LargestBelow}
use Rattle.charge_bound.proofs.search_above.Given as goal

abbrev pub invariant-loop-p : goal.invariant-loop-p
invariant-loop-p l =
    let d = shape l.rig.rules.now l.rig.parts.now l.rig.counts in
    Memo d l.memo × LargestBelow d (64 * l.p) l.best
