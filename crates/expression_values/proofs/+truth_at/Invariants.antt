-- The measure of `expression_values::truth_at` is how many bytes are left. Assumes nothing.
use Rattle.std.proofs.Common.{◌-◌, length}
use Rattle.expression_values.proofs.+truth_at.Given as goal

abbrev pub decreases-truth_at : goal.decreases-truth_at
decreases-truth_at l = length l.lent.now.bytes.now - l.at.now
