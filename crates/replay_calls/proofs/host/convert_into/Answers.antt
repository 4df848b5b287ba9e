-- `replay_calls::host::convert_into` meets its contract. Assumes nothing.
use Rattle.std.proofs.Common.{refl}
use Rattle.conversion.proofs.Laws.Tests.{answer-fits}
use Rattle.replay_calls.proofs.host.convert_into.Goals as goal

pub returns : goal.returns
returns c = answer-fits _ _ _ _ refl c.convert.result c.convert.ensures
