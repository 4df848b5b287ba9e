-- `expression_faults::ended` meets its contract. Assumes nothing.
use Rattle.expression_faults.proofs.Operators.{whole-left, whole-sound}
use Rattle.expression_faults.proofs.ended.Goals as goal

pub returns-then-n-s : goal.returns-then-n-s
returns-then-n-s c = rw (c.in_ok-n.was, c.fault.ensures) (whole-left c.args.s.now c.if-n-s.true)

pub returns-else-n-s : goal.returns-else-n-s
returns-else-n-s c = rw c.in_ok-n.was (whole-sound c.args.s.now c.if-n-s.false)
