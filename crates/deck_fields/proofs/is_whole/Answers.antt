-- `deck_fields::is_whole` meets its contract: each of the two tests answers for its kind. Assumes nothing.
use Rattle.deck.specs.Marks.{scope_of}
use Rattle.deck_fields.proofs.is_whole.Goals as goal

pub returns-then-truth : goal.returns-then-truth
unfolding scope_of
returns-then-truth c = rw c.if-truth.true c.is_truth.ensures

pub returns-else-truth : goal.returns-else-truth
unfolding scope_of
returns-else-truth c = rw c.if-truth.false c.is_num.ensures
