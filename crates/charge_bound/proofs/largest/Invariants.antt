-- `charge_bound::largest` meets its contract. The loop's invariant: most is the largest charge of the carried rules passed, up
-- to the cap, and the memo is right. Assumes nothing.
use Rattle.lists.specs.Laws.Iterating.{Going}
use Rattle.deck.specs.Shape.{shape}
use Rattle.charge.specs.Memo.{Memo}
use Rattle.charge.specs.Answer.{LargestOfRules}
use Rattle.charge_bound.proofs.largest.Given as goal

abbrev pub invariant-loop-r : goal.invariant-loop-r
invariant-loop-r l =
    let d = shape l.rig.rules.now l.rig.parts.now l.rig.counts in
    Memo d l.memo × Going l.carried l.rig.counts.rules (λ k. LargestOfRules d k l.most) l.r-iterator
