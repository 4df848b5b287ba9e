-- `engine::check` meets its contract: the tables are as long as the deck needs them. Assumes nothing.
use native.Mathlib.Omega.{arith}
use Rattle.passing.proofs.Laws.Tables.{zero-rules, zero-memo}
use Rattle.engine.proofs.check.Goals as goal

pub check_tabled-requires : goal.check_tabled-requires
check_tabled-requires c =
    let few = c.few_rules.ensures in
    (zero-rules _ few c.if-few_rules.true, zero-memo _ few c.if-few_rules.true, omega arith, omega arith)

pub check_tabled-requires-else-few_rules : goal.check_tabled-requires-else-few_rules
check_tabled-requires-else-few_rules c =
    let few = c.few_rules.ensures in
    (zero-rules _ few c.if-few_rules.false, zero-memo _ few c.if-few_rules.false, omega arith, omega arith)
