-- `charge_tables::update_charge` meets its contract: the charges of the rules passed are added, up to the cap, and the memo is
-- right. Assumes nothing.
use Rattle.lists.specs.Laws.Iterating.{Going}
use Rattle.deck.specs.Shape.{bits_of, shape}
use Rattle.charge_tables.proofs.Terms.{heard}
use Rattle.charge_tables.proofs.Sums.{Summing}
use Rattle.charge_tables.proofs.update_charge.Given as goal

abbrev pub invariant-loop-r : goal.invariant-loop-r
invariant-loop-r l =
    let d = shape l.rig.rules.now l.rig.parts.now l.rig.counts in
    Going l.set l.rig.counts.rules (Summing d 1 (heard d l.p (bits_of 32 l.mask)) l.memo l.total) l.r-iterator
