-- `expression_faults::literal_fault` meets its contract. Assumes nothing.
use native.Mathlib.Omega.{arith}
use Rattle.expression.proofs.Laws.Searches.{literal-ends, literal-cut}
use Rattle.expression_faults.proofs.literal_fault.Goals as goal

pub returns-then-s-at-lt4 : goal.returns-then-s-at-lt4
returns-then-s-at-lt4 c = let a = c.args in rw c.fault.ensures (literal-cut a.s.now a.at c.requires c.if-s-at-lt4.true)

pub returns : goal.returns
returns c = let a = c.args in literal-ends a.s.now a.at (omega (arith, c.requires, c.if-s-at-lt4.false))
