-- `charge_listeners::carries` meets its contract: the test is that of a bit. Assumes nothing.
use mathlib.Core.Path.{refl}
use Rattle.lists.specs.Bits.{bit}
use Rattle.charge_listeners.proofs.carries.Goals as goal

pub returns : goal.returns
unfolding bit
returns c = refl
