-- `calls_lent::call_pooled` meets its contract: the index is long enough for the pool. Assumes nothing.
use native.Mathlib.Omega.{arith}
use Rattle.calls_tests.specs.Laws.Tested.{usable-tiny, usable-small, usable-short, usable-medium, usable-long, usable-longer, usable}
use Rattle.calls_lent.proofs.call_pooled.Goals as goal

pub call_indexed-requires : goal.call_indexed-requires
call_indexed-requires c = (usable-tiny _ c.if-n-le-TINY_POOL.true, c.requires.0, c.requires.1, omega arith)

pub call_indexed-requires-then-n-le-SMALL_POOL : goal.call_indexed-requires-then-n-le-SMALL_POOL
call_indexed-requires-then-n-le-SMALL_POOL c = (usable-small _ c.if-n-le-SMALL_POOL.true, c.requires.0, c.requires.1, omega arith)

pub call_indexed-requires-then-n-le-SHORT_POOL : goal.call_indexed-requires-then-n-le-SHORT_POOL
call_indexed-requires-then-n-le-SHORT_POOL c = (usable-short _ c.if-n-le-SHORT_POOL.true, c.requires.0, c.requires.1, omega arith)

pub call_indexed-requires-then-n-le-MEDIUM_POOL : goal.call_indexed-requires-then-n-le-MEDIUM_POOL
call_indexed-requires-then-n-le-MEDIUM_POOL c = (usable-medium _ c.if-n-le-MEDIUM_POOL.true, c.requires.0, c.requires.1, omega arith)

pub call_indexed-requires-then-n-le-LONG_POOL : goal.call_indexed-requires-then-n-le-LONG_POOL
call_indexed-requires-then-n-le-LONG_POOL c = (usable-long _ c.if-n-le-LONG_POOL.true, c.requires.0, c.requires.1, omega arith)

pub call_indexed-requires-then-n-le-LONGER_POOL : goal.call_indexed-requires-then-n-le-LONGER_POOL
call_indexed-requires-then-n-le-LONGER_POOL c = (usable-longer _ c.if-n-le-LONGER_POOL.true, c.requires.0, c.requires.1, omega arith)

pub call_indexed-requires-else-n-le-LONGER_POOL : goal.call_indexed-requires-else-n-le-LONGER_POOL
call_indexed-requires-else-n-le-LONGER_POOL c = (usable _, c.requires.0, c.requires.1, omega arith)
