-- `pool::clear` meets its contract. Assumes nothing.
use Rattle.pool.specs.Places.{zeros}
use Rattle.pool.proofs.clear.Goals as goal

pub returns : goal.returns
unfolding zeros
returns c = c.fill.ensures.after (λ y e. e)
