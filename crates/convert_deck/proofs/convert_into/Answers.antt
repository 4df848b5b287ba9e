-- `convert_deck::convert_into` meets its contract. Assumes nothing.
use Rattle.std.proofs.Common.{refl}
use Rattle.conversion.proofs.Laws.Tests.{answer-fits}
use Rattle.convert_deck.proofs.Made.{answer-holds}
use Rattle.convert_deck.proofs.convert_into.Goals as goal

pub returns : goal.returns
returns c = record {
  fits = answer-fits _ _ _ _ refl c.convert.result c.convert.ensures;
  holds = answer-holds _ _ _ c.convert.result c.convert.ensures;
}
