-- `firing_commits::may_take` meets its contract. Assumes nothing.
use mathlib.Core.Path.{ap}
use lib.Dec.{ltb}
use Rattle.firing_commits.proofs.may_take.Goals as goal

pub returns : goal.returns
returns c us e = ap (ltb c.args.k) e
