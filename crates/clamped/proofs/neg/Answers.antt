-- `clamped::neg` meets its contract. Assumes nothing.
use lib.IntN.{neg_ℤ}
use Rattle.clamped.specs.Clamp.{clamping}
use Rattle.clamped.proofs.Saturating.{clamps}
use Rattle.clamped.proofs.neg.Goals as goal

pub returns : goal.returns
unfolding clamping
returns c = clamps (λ a b. neg_ℤ a) c.ranges.a c.ranges.a (record { sfits = c.saturating_neg.type_inv }) c.saturating_neg.ensures
