-- `calls_lent::call_lent` meets its contract: what is looked up of the deck decides on the tables. Assumes nothing.
use native.Mathlib.Omega.{arith}
use Rattle.passing.proofs.Laws.Tables.{zero-rules, zero-memo}
use Rattle.calls_lent.proofs.call_lent.Goals as goal

pub call_tabled-requires : goal.call_tabled-requires
call_tabled-requires c =
    let few = c.few_rules.ensures in
    (zero-rules _ few c.if-few_rules.true, zero-memo _ few c.if-few_rules.true, omega arith, omega arith)

pub call_tabled-requires-else-few_rules : goal.call_tabled-requires-else-few_rules
call_tabled-requires-else-few_rules c =
    let few = c.few_rules.ensures in
    (zero-rules _ few c.if-few_rules.false, zero-memo _ few c.if-few_rules.false, omega arith, omega arith)
