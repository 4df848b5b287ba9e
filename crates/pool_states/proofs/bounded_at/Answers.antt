-- `pool_states::bounded_at` meets its contract: a signed number is split by its sign. Assumes nothing.
use Rattle.std.proofs.Common.{rules}
use lib.ListN.{get_or}
use lib.IntN.{pos}
use mir.Syntax.{w32}
use mir.Val.{SFits}
use mir.ValLaws.{to_z-of_z}
use Rattle.pool_states.proofs.Numbers.{below-zero, within-small, within-large}
use Rattle.pool_states.proofs.bounded_at.Goals as goal

pub returns-then-x-lt0 : goal.returns-then-x-lt0
returns-then-x-lt0 c =
    let z = get_or c.args.place.now c.args.i (pos 0) in
    let f : SFits w32 z = record { sfits = search rules } in
    below-zero c.args.bound z (rw (to_z-of_z w32 z f) at c.if-x-lt0.true)

pub returns-then-n-bound : goal.returns-then-n-bound
returns-then-n-bound c =
    let z = get_or c.args.place.now c.args.i (pos 0) in
    let f : SFits w32 z = record { sfits = search rules } in
    let small = rw (to_z-of_z w32 z f) at c.if-n-bound.true in
    rw (to_z-of_z w32 z f) (within-small c.args.bound z (rw (to_z-of_z w32 z f) at c.if-x-lt0.false) small, small)

pub returns-else-n-bound : goal.returns-else-n-bound
returns-else-n-bound c =
    let z = get_or c.args.place.now c.args.i (pos 0) in
    let f : SFits w32 z = record { sfits = search rules } in
    within-large c.args.bound z (rw (to_z-of_z w32 z f) at c.if-x-lt0.false) (rw (to_z-of_z w32 z f) at c.if-n-bound.false)
