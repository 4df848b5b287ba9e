-- `expression_types::leaf_end` meets its contract: the byte says which leaf it is. Assumes nothing.
use mathlib.Core.Path.{◌≡◌, sym, ap, ◌∙◌}
use native.Mathlib.Omega.{arith}
use lib.ListN.{get_or}
use Rattle.expression.specs.Reading.{num_op}
use Rattle.expression_types.proofs.Checking.{here, as-literal, as_own, as-far}
use Rattle.expression_types.proofs.leaf_end.Goals as goal

pub returns-in-0 : goal.returns-in-0
returns-in-0 c = as-literal (here _ _ _ c.requires.0) (ap num_op (sym c.requires.1 ∙ c.in-0.is)) c.literal_end.ensures

pub returns-in-1 : goal.returns-in-1
returns-in-1 c = as_own (here _ _ _ c.requires.0) (ap num_op (sym c.requires.1 ∙ c.in-1.is)) c.channel_end.ensures

pub returns-in_default : goal.returns-in_default
returns-in_default c =
    let two : get_or c.args.lent.now.bytes.now c.args.at.now 0 ≡ 2 = omega (arith, c.requires.1) in
    as-far (here _ _ _ c.requires.0) (ap num_op two) c.channel_end-in_default.ensures
