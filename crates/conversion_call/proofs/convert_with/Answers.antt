-- `conversion_call::convert_with` meets its contract: the old check, and then the conversion. Assumes nothing.
use mathlib.Core.Path.{ap}
use Rattle.conversion.specs.Conversion.{convert_outcome}
use Rattle.refusals.specs.Laws.HandedOn.{handed_on}
use Rattle.conversion_call.specs.Laws.Answers.{passed-old, convert-declined}
use Rattle.conversion_call.proofs.convert_with.Goals as goal

pub convert_passed-requires : goal.convert_passed-requires
convert_passed-requires c = passed-old _ _ _ _ _ _ c.in_ok-passing.ensures

pub returns-in_err-passing : goal.returns-in_err-passing
returns-in_err-passing c =
    convert-declined _ _ (ap convert_outcome (handed_on c.from_residual.ensures.1)) c.in_err-passing.ensures
