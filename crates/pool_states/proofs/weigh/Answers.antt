-- `pool_states::weigh` meets its contract. The loop's invariant: the first k places fit and are different, the total is the charge of
-- their updates, the memo is right, and the index has them. Assumes nothing.
use native.Mathlib.Omega.{arith}
use Rattle.deck.specs.Shape.{shape}
use Rattle.deck.proofs.Laws.Shape.{counted-R, counted-N}
use Rattle.pool_index.specs.Laws.Entering.{roomy-heads, entering-inside, entering-done}
use Rattle.pool_states.specs.Laws.PairsHeld.{holds-lives}
use Rattle.pool_states.proofs.Adding.{adding-none, adding-unfit, adding-heads, adding-entering, adding-twice, adding-more}
use Rattle.pool_states.proofs.Adding.{place-held, place-natural, place-part, place-charged}
use Rattle.pool_states.proofs.weigh.Goals as goal

pub loop-k-init : goal.loop-k-init
loop-k-init c = adding-none _ c.args.pending c.args.pool.now c.requires.0.memo c.requires.4 c.requires.5

pub returns-in_err-mask : goal.returns-in_err-mask
returns-in_err-mask c =
    let a = c.args in
    let d = shape a.rig.now.rules.now a.rig.now.parts.now a.rig.now.counts in
    let unfit = c.in_err-mask.ensures d (counted-R a.rig.now.rules.now a.rig.now.parts.now a.rig.now.counts)
    (counted-N a.rig.now.rules.now a.rig.now.parts.now a.rig.now.counts) in
    rw c.from_residual.ensures (adding-unfit d a.pending a.pool.now c.loop-k.invariant c.loop-k-test.true unfit)

pub number_at-p-requires : goal.number_at-p-requires
number_at-p-requires c =
    let a = c.args in
    let w = place-held a.rig.now.rules.now a.rig.now.parts.now a.rig.now.counts a.pending a.pool.now c.loop-k-test.true c.requires.2
    c.in_ok-mask.ensures in (
      omega (arith, w.holds.long),
      place-natural a.rig.now.rules.now a.rig.now.parts.now a.rig.now.counts a.pending a.pool.now c.loop-k-test.true c.requires.2
          c.in_ok-mask.ensures,
    )

pub update_charge-c-requires : goal.update_charge-c-requires
update_charge-c-requires c =
    let a = c.args in (
      record { tables = c.requires.0.tables; memo = c.loop-k.invariant.memo },
      place-part a.rig.now.rules.now a.rig.now.parts.now a.rig.now.counts a.pending a.pool.now c.loop-k-test.true c.requires.2
          c.in_ok-mask.ensures c.number_at-p.ensures,
    )

pub find-requires : goal.find-requires
find-requires c =
    let a = c.args in
    let i = c.loop-k.invariant in
    let w = place-held a.rig.now.rules.now a.rig.now.parts.now a.rig.now.counts a.pending a.pool.now c.loop-k-test.true c.requires.2
    c.in_ok-mask.ensures in
    let h = adding-heads _ a.pending a.pool.now i in
    let r = roomy-heads c.requires.4 in
    record {
      long = w.holds.long;
      live = holds-lives w.holds;
      room = omega (arith, c.loop-k-test.true, c.requires.2);
      some = omega (arith, h, r.0);
      most = omega (arith, h, r.1);
      indexed = i.indexed;
      few = omega (arith, c.loop-k-test.true, c.requires.3);
    }

pub returns-in_err-slot : goal.returns-in_err-slot
returns-in_err-slot c =
    let a = c.args in
    let t = c.loop-k-test.true in
    let f = c.in_ok-mask.ensures in
    let w = place-held a.rig.now.rules.now a.rig.now.parts.now a.rig.now.counts a.pending a.pool.now t c.requires.2 f in
    let charged = place-charged a.rig.now.rules.now a.rig.now.parts.now a.rig.now.counts a.pending a.pool.now t c.requires.2 f
    c.number_at-p.ensures c.requires.1
    c.update_charge-c.ensures in
    rw c.from_residual-in_err-slot.ensures
    (adding-twice _ a.pending a.pool.now c.loop-k.invariant t w.fit charged c.in_err-slot.ensures)

pub note-requires : goal.note-requires
note-requires c =
    let a = c.args in (
      omega (arith, c.loop-k-test.true, c.requires.3),
      entering-inside
          (adding-entering _ a.pending a.pool.now c.loop-k.invariant c.loop-k-test.true c.requires.4 c.in_ok-slot.ensures.ends),
    )

pub loop-k-preserved : goal.loop-k-preserved
loop-k-preserved c =
    let a = c.args in
    let i = c.loop-k.invariant in
    let t = c.loop-k-test.true in
    let f = c.in_ok-mask.ensures in
    let w = place-held a.rig.now.rules.now a.rig.now.parts.now a.rig.now.counts a.pending a.pool.now t c.requires.2 f in
    let charged = place-charged a.rig.now.rules.now a.rig.now.parts.now a.rig.now.counts a.pending a.pool.now t c.requires.2 f
    c.number_at-p.ensures c.requires.1
    c.update_charge-c.ensures in
    let entered = entering-done (adding-entering _ a.pending a.pool.now i t c.requires.4 c.in_ok-slot.ensures.ends) in
    rw c.note.ensures
    (adding-more _ a.pending a.pool.now i t w.fit charged c.capped_sum-total.ensures c.in_ok-slot.ensures.none entered)
