-- `graph::lowest_cycle` meets its contract: no channel below `start` can reach itself, and the rounds made from `start`
-- have not led back to it. Assumes nothing.
use mathlib.Core.Path.{sym}
use native.Mathlib.Omega.{arith}
use borrow.Author.Count.{below_more}
use Rattle.lists.specs.Laws.Bits.{bit_shifted}
use Rattle.lists.specs.Laws.BitTests.{bit-yes, bit-no}
use Rattle.lists.specs.Laws.First.{first-is}
use Rattle.graph.proofs.Searching.{searching-none, searching-more, searching-hit, searching-miss, searching-closed}
use Rattle.graph.proofs.lowest_cycle.Goals as goal
use Rattle.graph.proofs.lowest_cycle.Goals.{else-loop-test, then-loop-test+else-next-start-eq1+then-next-seen}

pub loop-init : goal.loop-init
loop-init c = (c.search.invariant.0, searching-none _ _ _ _ (bit_shifted 64 c.search.start (omega arith)))

pub loop-preserved : goal.loop-preserved
loop-preserved c =
    let made = c.loop.invariant in
    (made.0, searching-more made.1 c.search-test.true c.spread-next.ensures (bit-no _ _ c.if-next-start-eq1.false))

pub search-preserved : goal.search-preserved
search-preserved c =
    let h = c.loop.invariant in
    let l = c.search-test.true in (
      h.0,
      below_more _ _ c.search.invariant.1
          (elim c.loop-test.branch [
            | else-loop-test w ↦ searching-miss h.1 l (omega arith)
            | then-loop-test+else-next-start-eq1+then-next-seen w ↦ searching-closed h.1 l w.spread-next.ensures w.if-next-seen.true
          ]),
    )

pub returns-then-next-start-eq1 : goal.returns-then-next-start-eq1
returns-then-next-start-eq1 c =
    let l = c.search-test.true in (
      sym (first-is _ _ _ (omega arith)
          (λ m. searching-hit c.loop.invariant.1 m c.spread-next.ensures (bit-yes _ _ c.if-next-start-eq1.true))
          c.search.invariant.1),
      l,
    )

pub returns-after-search : goal.returns-after-search
returns-after-search c =
    rw c.search.invariant.0
    (sym (first-is _ _ c.args.channels (omega arith) (λ l. absurd (omega arith)) (λ k l. c.search.invariant.1 k (omega arith))))
