-- `clamped::add` meets its contract. Assumes nothing.
use lib.IntN.{◌+ℤ◌}
use Rattle.clamped.specs.Clamp.{clamping}
use Rattle.clamped.proofs.Saturating.{clamps}
use Rattle.clamped.proofs.add.Goals as goal

pub returns : goal.returns
unfolding clamping
returns c = clamps ◌+ℤ◌ c.ranges.a c.ranges.b (record { sfits = c.saturating_add.type_inv }) c.saturating_add.ensures
