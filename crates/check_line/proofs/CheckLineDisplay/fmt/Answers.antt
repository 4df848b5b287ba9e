-- A line is plain text, so that it is printed whole. Assumes nothing.
use Rattle.std.specs.Str.{IsUtf8}
use Rattle.std.proofs.Common.{sym, subst}
use Rattle.std.proofs.lemmas.Str.{IsUtf8-from_ascii}
use Rattle.check_line.specs.Plain.{line-plain}
use Rattle.check_line.proofs.CheckLineDisplay.fmt.Goals as goal

pub unreachable-requires : goal.unreachable-requires
unreachable-requires g c = c.in-Err.ensures.cases.0 (subst IsUtf8 (sym c.put_line-n.ensures.out_after) (IsUtf8-from_ascii _ (line-plain _)))
