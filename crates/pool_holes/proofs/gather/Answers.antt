-- `pool_holes::gather` meets its contract. The loop's invariant: the places before `from` are looked at, and the updates that stood there
-- are in
-- the first `to` places. Assumes nothing.
use Prim.Native.Nat.{◌*◌, ◌≤◌}
use mathlib.Core.Path.{◌≡◌}
use native.Mathlib.Omega.{arith}
use lib.ListN.{length}
use Rattle.pool_holes.proofs.Laws.Gathering.{passing-starts, passing-low, passing-next, passing-room, passing-ends}
use Rattle.pool_holes.proofs.gather.Goals as goal

-- behind the loop
stop : (c : goal.After-move_down-arg-1) → c.args.last ≤ c.loop-from.from
stop c = omega (arith, c.loop-from-test.false)

-- behind the loop
stop-3 : (c : goal.After-pool-3-1) → c.args.last ≤ c.loop-from.from
stop-3 c = omega (arith, c.loop-from-test.false)

-- the places lie in the pool, so that what is computed of them fits
small : (c : goal.After-move_down-arg-1)
    → let a = c.args in
    (c.loop-from.to ≤ a.last) × (a.last ≤ a.used) × (10 * a.used ≤ length c.loop-from.pool)
    × (length c.loop-from.pool ≡ length a.pool.now)
small c =
    let i = passing-low c.loop-from.invariant in
    (omega (arith, i.0, c.loop-from.invariant.within), i.1, i.2, i.3)

-- the places lie in the pool, so that what is computed of them fits
small-2 : (c : goal.After-pool-2-1)
    → let a = c.args in
    (c.loop-from.to ≤ a.last) × (a.last ≤ a.used) × (10 * a.used ≤ length c.loop-from.pool)
    × (length c.loop-from.pool ≡ length a.pool.now)
small-2 c =
    let i = passing-low c.loop-from.invariant in
    (omega (arith, i.0, c.loop-from.invariant.within), i.1, i.2, i.3)

ended : goal.returns
ended c =
    passing-ends c.loop-from.invariant (stop-3 c) c.move_down.ensures c.clear.new.tail c.clear.ensures

pub loop-from-init : goal.loop-from-init
loop-from-init c = passing-starts c.requires

pub gather_place-to-requires : goal.gather_place-to-requires
gather_place-to-requires c = let l = c.loop-from.invariant in
    let i = passing-low l in
    (omega (arith, i.1, i.2, c.loop-from-test.true), i.0)

pub loop-from-preserved : goal.loop-from-preserved
loop-from-preserved c = passing-next c.loop-from.invariant c.loop-from-test.true
    c.gather_place-to.ensures

pub overflow_mul-to : goal.overflow_mul-to
overflow_mul-to c = let i = small c in record { fits = omega (arith, i.0, i.1, i.2, i.3) }

pub overflow_sub-last : goal.overflow_sub-last
overflow_sub-last c = (small c).0

pub move_down-requires : goal.move_down-requires
move_down-requires c = passing-room c.loop-from.invariant (stop c)

pub overflow_add-left : goal.overflow_add-left
overflow_add-left c = let i = small-2 c in record { fits = omega (arith, i.0, i.1, i.2, i.3) }

pub overflow_mul-start : goal.overflow_mul-start
overflow_mul-start c = let i = small-2 c in record { fits = omega (arith, i.0, i.1, i.2, i.3) }

pub offset_bounds-pool-start : goal.offset_bounds-pool-start
offset_bounds-pool-start c = let i = small-2 c in record { fits = omega (arith, i.0, i.1, i.2, i.3) }

pub slice_bounds-clear-count : goal.slice_bounds-clear-count
slice_bounds-clear-count c = let i = small-2 c in omega (arith, i.0, i.1)

pub slice_bounds-clear-start : goal.slice_bounds-clear-start
slice_bounds-clear-start c = let i = small-2 c in omega (arith, i.0, i.1)

pub returns : goal.returns
returns c = ended c
