-- `passing_tests::judge_rules` meets its contract. Assumes nothing.
use mathlib.Core.Path.{refl, sym}
use Rattle.passing.proofs.Laws.Judged.{above_place, acyclic-tables, memo-zeros}
use Rattle.passing_tests.proofs.judge_rules.Goals as goal

pub first_above-requires : goal.first_above-requires
first_above-requires c =
    let a = c.args in
    record {
      tables = acyclic-tables a.rig.now.rules.now a.rig.now.parts.now a.rig.now.counts c.requires.0 c.in_default.ensures;
      memo = memo-zeros a.rig.now.rules.now a.rig.now.parts.now a.rig.now.counts c.requires.1;
    }

pub declined-requires-in-Err : goal.declined-requires-in-Err
declined-requires-in-Err c =
    above_place c.args.rig.now.rules.now c.args.rig.now.parts.now c.args.rig.now.counts c.requires.0 _ (sym c.in-Err.ensures.0)

pub returns-in-Ok : goal.returns-in-Ok
returns-in-Ok c =
    let a = c.args in
    let none = c.in_default.ensures in (
      refl,
      none,
      sym c.in-Ok.ensures.0,
      acyclic-tables a.rig.now.rules.now a.rig.now.parts.now a.rig.now.counts c.requires.0 none,
      c.in-Ok.ensures.1,
    )
