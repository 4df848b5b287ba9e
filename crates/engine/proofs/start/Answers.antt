-- `engine::start` meets its contract: the tables are as long as the deck needs them. Assumes nothing.
use native.Mathlib.Omega.{arith}
use Rattle.passing.proofs.Laws.Tables.{zero-rules, zero-memo}
use Rattle.engine.proofs.start.Goals as goal

pub start_tabled-requires : goal.start_tabled-requires
start_tabled-requires c =
    let few = c.few_rules.ensures in
    (zero-rules _ few c.if-few_rules.true, zero-memo _ few c.if-few_rules.true, omega arith, omega arith)

pub start_tabled-requires-else-few_rules : goal.start_tabled-requires-else-few_rules
start_tabled-requires-else-few_rules c =
    let few = c.few_rules.ensures in
    (zero-rules _ few c.if-few_rules.false, zero-memo _ few c.if-few_rules.false, omega arith, omega arith)
