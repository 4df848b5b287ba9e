-- The measure of `expression_types::num_end` is how many bytes are left. Assumes nothing.
use Rattle.std.proofs.Common.{◌-◌, length}
use Rattle.expression_types.proofs.+num_end.Given as goal

abbrev pub decreases-num_end : goal.decreases-num_end
decreases-num_end l = length l.lent.now.bytes.now - l.at.now
