-- `calls_input::take_back` meets its contract: the tail is lent to be cleared. Assumes nothing.
use Prim.Native.Nat.{◌*◌}
use Rattle.calls_input.specs.Laws.Entering.{emptied}
use Rattle.calls_input.proofs.take_back.Goals as goal

pub returns : goal.returns
returns c = emptied (10 * c.args.pending) c.args.pool.now c.clear.new.tail c.requires c.clear.ensures
