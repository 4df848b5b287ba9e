-- `expression_types::is_num` meets its contract. Assumes nothing.
use mathlib.Core.Path.{◌∙◌}
use Rattle.expression.specs.Answers.{scope}
use Rattle.expression.proofs.Laws.WholeAnswers.{ends-num}
use Rattle.expression_types.proofs.is_num.Goals as goal

pub returns : goal.returns
returns c = let a = c.args in c.ends.ensures ∙ ends-num (scope a.own a.far) a.s.now c.num_end-end.ensures
