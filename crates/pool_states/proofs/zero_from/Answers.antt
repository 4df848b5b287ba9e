-- `pool_states::zero_from` meets its contract. The loop's invariant: the numbers from i on are zeros exactly if all are. Assumes
-- nothing.
use mathlib.Core.Path.{ap, ◌∙◌}
use mathlib.Core.Bool.{true}
use native.Mathlib.Omega.{arith}
use lib.ListN.{get_or}
use lib.IntN.{pos}
use mir.Syntax.{w32}
use mir.Val.{of_z}
use Rattle.std.proofs.Common.{rules}
use Rattle.pool.proofs.Scanning.{bits-same, zero-next, zero-not, zero-end}
use Rattle.pool_states.proofs.zero_from.Goals as goal

pub returns-then-place-i-ne0 : goal.returns-then-place-i-ne0
returns-then-place-i-ne0 c =
    zero-not c.args.place.now c.loop-i.i true (omega arith) (λ e. c.if-place-i-ne0.true (ap (of_z w32) e)) ∙ c.loop-i.invariant

pub loop-i-preserved : goal.loop-i-preserved
loop-i-preserved c =
    let place = c.args.place.now in
    let same = bits-same (get_or place c.loop-i.i (pos 0)) (pos 0) (search rules) (omega arith) c.if-place-i-ne0.false in
    zero-next place c.loop-i.i true (omega arith) same ∙ c.loop-i.invariant

pub returns : goal.returns
returns c = zero-end c.args.place.now c.loop-i.i true (omega arith) ∙ c.loop-i.invariant
