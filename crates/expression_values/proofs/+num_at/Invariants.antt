-- The measure of `expression_values::num_at` is how many bytes are left. Assumes nothing.
use Rattle.std.proofs.Common.{◌-◌, length}
use Rattle.expression_values.proofs.+num_at.Given as goal

abbrev pub decreases-num_at : goal.decreases-num_at
decreases-num_at l = length l.lent.now.bytes.now - l.at.now
