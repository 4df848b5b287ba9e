-- `conversion_bytes::put_carried` meets its contract. The loop's invariant: the new numbers of so many rules are written. Assumes nothing.
use Rattle.std.proofs.Common.{take}
use mathlib.Core.List.{flat_map}
use Rattle.conversion_bytes.specs.Written.{Written}
use Rattle.conversion_bytes.specs.Pieces.{renewed}
use Rattle.conversion_bytes.proofs.put_carried.Given as goal

abbrev pub invariant-loop-rule : goal.invariant-loop-rule
invariant-loop-rule l = Written l.initial.out l.at (flat_map (renewed l.numbers) (take l.rule-index l.carried)) l.out l.to
