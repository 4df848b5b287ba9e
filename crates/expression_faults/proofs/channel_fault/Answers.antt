-- `expression_faults::channel_fault` meets its contract. Assumes nothing.
use Rattle.expression.proofs.Laws.Searches.{no-channel, a-channel, unknown-channel}
use Rattle.expression_faults.proofs.channel_fault.Goals as goal

pub returns-then-s-at : goal.returns-then-s-at
returns-then-s-at c = let a = c.args in rw c.fault.ensures (no-channel a.s.now a.known a.at c.if-s-at.true)

pub returns-then-from-known : goal.returns-then-from-known
returns-then-from-known c = let a = c.args in
    a-channel a.s.now a.known a.at c.if-s-at.false (rw c.from.ensures at c.if-from-known.true)

pub returns-else-from-known : goal.returns-else-from-known
returns-else-from-known c = let a = c.args in
    rw c.fault-else-from-known.ensures
    (unknown-channel a.s.now a.known a.at c.if-s-at.false (rw c.from.ensures at c.if-from-known.false))
