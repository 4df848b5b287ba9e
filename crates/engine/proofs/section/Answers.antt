-- `engine::section` meets its contract: the tables are as long as the deck needs them. Assumes nothing.
use native.Mathlib.Omega.{arith}
use Rattle.passing.proofs.Laws.Tables.{zero-rules, zero-memo}
use Rattle.engine.proofs.section.Goals as goal

pub section_tabled-requires : goal.section_tabled-requires
section_tabled-requires c =
    let few = c.few_rules.ensures in
    (zero-rules _ few c.if-few_rules.true, zero-memo _ few c.if-few_rules.true, omega arith, omega arith)

pub section_tabled-requires-else-few_rules : goal.section_tabled-requires-else-few_rules
section_tabled-requires-else-few_rules c =
    let few = c.few_rules.ensures in
    (zero-rules _ few c.if-few_rules.false, zero-memo _ few c.if-few_rules.false, omega arith, omega arith)
