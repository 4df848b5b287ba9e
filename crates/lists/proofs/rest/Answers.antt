-- `lists::rest` meets its contract. Assumes nothing.
use native.Mathlib.Omega.{arith}
use Rattle.lists.specs.Laws.Lowest.{rest-none, rest_of}
use Rattle.lists.proofs.rest.Goals as goal

pub returns-then-set-eq0 : goal.returns-then-set-eq0
returns-then-set-eq0 c = rest-none _ c.if-set-eq0.true

pub overflow_sub-result : goal.overflow_sub-result
overflow_sub-result c = omega (arith, c.if-set-eq0.false)

pub returns : goal.returns
returns c = rest_of _ c.before.ranges.set.fits c.if-set-eq0.false
