-- `charge_tables::rule_charges` and `charge_tables::update_charges` call each other with a lower rank: the measure. The loop's invariant:
-- the charges of the rules passed are added at every part, up to the cap, and the memo is right. Assumes nothing.
use Rattle.lists.specs.Laws.Iterating.{Going}
use Rattle.deck.specs.Shape.{bits_of, shape}
use Rattle.charge.specs.Memo.{Memo, Keeps}
use Rattle.charge_tables.proofs.Heights.{update_rank, rule_rank}
use Rattle.charge_tables.proofs.RowCharges.{Hearing}
use Rattle.charge_tables.proofs.+rule_charges_update_charges.Given as goal

abbrev pub decreases-rule_charges : goal.decreases-rule_charges
decreases-rule_charges l = rule_rank (shape l.rig.now.rules.now l.rig.now.parts.now l.rig.now.counts) l.r

abbrev pub decreases-update_charges : goal.decreases-update_charges
decreases-update_charges l = update_rank (shape l.rig.now.rules.now l.rig.now.parts.now l.rig.now.counts) (bits_of 32 l.mask)

abbrev pub invariant-update_charges-loop-r : goal.invariant-update_charges-loop-r
invariant-update_charges-loop-r l =
    let d = shape l.rig.rules.now l.rig.parts.now l.rig.counts in
    Memo d l.memo × Keeps l.initial.memo l.memo
    × Going l.set l.rig.counts.rules (λ k. Hearing d l.rig.counts.parts l.mask k l.sums) l.r-iterator
