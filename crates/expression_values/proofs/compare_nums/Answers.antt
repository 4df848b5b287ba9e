-- `expression_values::compare_nums` meets its contract. Assumes nothing.
use Rattle.expression_values.proofs.Signed.{bits-equal}
use Rattle.expression_values.proofs.compare_nums.Goals as goal

pub returns-in-Equal : goal.returns-in-Equal
returns-in-Equal c = rw c.in-Equal.is (bits-equal c.args.a c.args.b c.ranges.a c.ranges.b)
