-- The measure of `expression_faults::truth_fault` is how many bytes are left. Assumes nothing.
use Rattle.std.proofs.Common.{◌-◌, length}
use Rattle.expression_faults.proofs.+truth_fault.Given as goal

abbrev pub decreases-truth_fault : goal.decreases-truth_fault
decreases-truth_fault l = length l.s.now - l.at
