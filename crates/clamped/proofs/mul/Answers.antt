-- `clamped::mul` meets its contract. Assumes nothing.
use lib.IntN.{◌*ℤ◌}
use Rattle.clamped.specs.Clamp.{clamping}
use Rattle.clamped.proofs.Saturating.{clamps}
use Rattle.clamped.proofs.mul.Goals as goal

pub returns : goal.returns
unfolding clamping
returns c = clamps ◌*ℤ◌ c.ranges.a c.ranges.b (record { sfits = c.saturating_mul.type_inv }) c.saturating_mul.ensures
