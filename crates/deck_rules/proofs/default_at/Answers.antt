-- `deck_rules::default_at` meets its contract, form by form. Assumes nothing.
use Rattle.deck.specs.Reader.{readers}
use Rattle.deck.specs.Layout.{layouts}
use Rattle.deck.specs.Marks.{scope_of}
use Rattle.deck_rules.proofs.default_at.Goals as goal

pub returns-in-Old : goal.returns-in-Old
unfolding layouts readers scope_of
returns-in-Old c = rw c.in-Old.is c.action_at.ensures
