-- `deck_fields::expression_at` meets its contract. Assumes nothing.
use Rattle.deck_fields.proofs.expression_at.Goals as goal

pub returns-then-truth : goal.returns-then-truth
returns-then-truth c = rw c.if-truth.true c.expression_step.ensures

pub returns-else-truth : goal.returns-else-truth
returns-else-truth c = rw c.if-truth.false c.expression_step-else-truth.ensures
