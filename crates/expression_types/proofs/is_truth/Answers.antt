-- `expression_types::is_truth` meets its contract. Assumes nothing.
use mathlib.Core.Path.{◌∙◌}
use Rattle.expression.specs.Answers.{scope}
use Rattle.expression.proofs.Laws.WholeAnswers.{ends-truth}
use Rattle.expression_types.proofs.is_truth.Goals as goal

pub returns : goal.returns
returns c = let a = c.args in c.ends.ensures ∙ ends-truth (scope a.own a.far) a.s.now c.truth_end-end.ensures
