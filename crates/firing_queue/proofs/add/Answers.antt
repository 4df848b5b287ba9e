-- `firing_queue::add` meets its contract: each way out leaves what the offered update makes of the pool. Assumes nothing.
use Prim.Native.Nat.{◌+◌, ◌<◌, ◌≤◌}
use mathlib.Core.Path.{sym, subst}
use native.Mathlib.Omega.{arith}
use Rattle.pool.specs.Places.{places}
use Rattle.pool_index.specs.Index.{Indexed, Entering}
use Rattle.pool_index.specs.Laws.Entering.{roomy-heads, entering-inside, entering-done}
use Rattle.firing_queue.specs.Laws.Adding.{added_full, added-same, added-over, added-room, added-few, added-entering}
use Rattle.firing_queue.specs.Laws.Adding.{added_more, few-used, still-room}
use Rattle.pool_states.specs.Laws.PairsHeld.{holds-lives}
use Rattle.pool_holes.specs.Slots.{holes}
use Rattle.firing_queue.specs.Laws.Kept.{kept-indexed}
use Rattle.firing_queue.proofs.add.Goals as goal
use Rattle.firing_queue.proofs.add.Goals.{Start, Else-total-queue}

few : (c : Start) → c.args.queue.capacity ≤ 65535
few c = omega (arith, c.requires.0.room.bounded)

pub returns-then-queue : goal.returns-then-queue
returns-then-queue c =
    added_full c.requires.1 c.requires.0.ready.memo c.if-queue.true

pub find-requires : goal.find-requires
find-requires c =
    let o = c.requires.0 in
    let g = o.grown in
    let r = roomy-heads o.room.index in
    record {
      long = c.requires.1.long;
      live = holds-lives c.requires.1;
      room = omega (arith, g.used, g.kept.spread.room);
      some = r.0;
      most = r.1;
      indexed = subst (λ n. Indexed (places n c.args.pool.now) c.args.index.now) (sym g.used) (kept-indexed g.kept);
      few = omega (arith, few-used g c.if-queue.false, o.room.bounded);
    }

pub returns-in_default : goal.returns-in_default
returns-in_default c =
    added-same c.requires.1 c.requires.0.ready.memo c.in_default.ensures

pub place_charge-c-requires : goal.place_charge-c-requires
place_charge-c-requires c =
    (c.requires.0.ready, c.requires.0.few, c.requires.1)

pub overflow_add-total : goal.overflow_add-total
overflow_add-total c =
    omega (
      arith,
      c.place_charge-c.ensures.value,
      (c.requires.0.grown.room c.if-queue.false).2,
      few (goal.at.overflow_add-total c).Start,
    )

pub returns-then-total-queue : goal.returns-then-total-queue
returns-then-total-queue c =
    added-over c.requires.1 (few (goal.at.returns-then-total-queue c).Start) c.if-queue.false c.in-Some.ensures.none
    c.place_charge-c.ensures
    (omega (arith, c.if-total-queue.true))
    c.over_capacity.ensures

pub push-requires : goal.push-requires
push-requires c =
    let o = c.requires.0 in (
      c.requires.1.long,
      added-room c.requires.1 (few (goal.at.push-requires c).Start) c.if-queue.false c.in-Some.ensures.none c.place_charge-c.ensures
          (omega (arith, c.if-total-queue.false))
          o.room
          o.grown,
    )

-- one more fits
fewer : (c : Else-total-queue) → c.args.queue.used < holes c.requires.0.slots + c.args.queue.capacity
fewer c =
    added-few c.requires.1 (omega (arith, c.requires.0.room.bounded)) c.if-queue.false c.in-Some.ensures.none c.place_charge-c.ensures
    (omega (arith, c.if-total-queue.false))
    c.requires.0.room c.requires.0.grown

-- its place can be entered where the search ended
entering : (c : Else-total-queue) → let a = c.args in Entering a.queue.used a.row.now c.in-Some.slot a.index.now
entering c =
    added-entering c.requires.1 (omega (arith, c.requires.0.room.bounded)) c.if-queue.false c.in-Some.ensures.none c.place_charge-c.ensures
    (omega (arith, c.if-total-queue.false))
    c.requires.0.room c.requires.0.grown c.in-Some.ensures.ends

pub note-requires : goal.note-requires
note-requires c =
    let k = (goal.at.note-requires c).Else-total-queue in
    (omega (arith, fewer k, c.requires.0.room.bounded), entering-inside (entering k))

pub returns : goal.returns
returns c =
    rw (c.push.ensures, c.note.ensures)
    (still-room c.if-queue.false
    (added_more c.requires.1 (few (goal.at.returns c).Start) c.if-queue.false c.in-Some.ensures.none c.place_charge-c.ensures
    (omega (arith, c.if-total-queue.false))
    c.requires.0.room c.requires.0.grown
    (entering-done (entering (goal.at.returns c).Else-total-queue))))
