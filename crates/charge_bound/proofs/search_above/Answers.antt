-- `charge_bound::search_above` meets its contract. The loop's invariant: best is the largest charge at the parts passed, and
-- the memo is right. Assumes nothing.
use native.Mathlib.Omega.{arith}
use Rattle.deck.proofs.Laws.Shape.{counted-N}
use Rattle.charge_bound.proofs.Search.{few_rules, passed-all}
use Rattle.charge_bound.proofs.search_above.Goals as goal

pub returns : goal.returns
returns c =
    let i = c.loop-p.invariant in (
      passed-all _ (few_rules c.requires.tables) i.1 c.args.rig.now.counts.parts
          (counted-N c.args.rig.now.rules.now c.args.rig.now.parts.now c.args.rig.now.counts)
          (omega (arith, c.loop-p.auto.p-end, c.loop-p-test.false)),
      i.0,
    )
