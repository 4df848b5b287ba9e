-- `lists::lowest` meets its contract. Assumes nothing.
use lib.Count.{trailing_le}
use borrow.Author.Rules.{rules}
use Rattle.lists.specs.Laws.Lowest.{lowest-of}
use Rattle.lists.proofs.lowest.Goals as goal

pub overflow_cast-result : goal.overflow_cast-result
overflow_cast-result c = search (rules, trailing_le 64 c.args.set)

pub returns : goal.returns
returns c = lowest-of _
