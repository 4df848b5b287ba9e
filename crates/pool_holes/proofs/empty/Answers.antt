-- `pool_holes::empty` meets its contract. Assumes nothing.
use borrow.Author.Rules.{rules}
use Rattle.pool.specs.Places.{zeros}
use Rattle.pool_holes.proofs.empty.Goals as goal

pub returns : goal.returns
unfolding zeros
returns c = search rules
