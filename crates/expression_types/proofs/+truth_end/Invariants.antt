-- The measure of `expression_types::truth_end` is how many bytes are left. Assumes nothing.
use Rattle.std.proofs.Common.{◌-◌, length}
use Rattle.expression_types.proofs.+truth_end.Given as goal

abbrev pub decreases-truth_end : goal.decreases-truth_end
decreases-truth_end l = length l.lent.now.bytes.now - l.at.now
