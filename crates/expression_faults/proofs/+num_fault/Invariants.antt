-- The measure of `expression_faults::num_fault` is how many bytes are left. Assumes nothing.
use Rattle.std.proofs.Common.{◌-◌, length}
use Rattle.expression_faults.proofs.+num_fault.Given as goal

abbrev pub decreases-num_fault : goal.decreases-num_fault
decreases-num_fault l = length l.s.now - l.at
