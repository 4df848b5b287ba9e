-- `pool_states::good_state` meets its contract: the frame, the places with their charge, and the comparison. Assumes nothing.
use mathlib.Core.Path.{◌≡◌, refl, sym, ◌∙◌}
use mathlib.Core.Bool.{Bool}
use mathlib.Core.List.{List}
use Prim.Native.Nat.{ℕ}
use native.Mathlib.Omega.{arith}
use Rattle.deck.specs.declared.Deck as Counted
use Rattle.deck.specs.Shape.{shape}
use Rattle.deck.proofs.Laws.Shape.{counted-R, counted-N}
use Rattle.pool.specs.States.{Memory}
use Rattle.pool_states.specs.Answer.{memory_of, FitsState, framed}
use Rattle.pool_states.specs.Laws.Judged.{framed-tests, no-frame, not_sound, all-but-charge}
use Rattle.pool_states.specs.Laws.Judged.{weight-good, weight-bad, judged-bad, judged-above, judged-good}
use Rattle.pool_states.specs.Laws.Indexing.{few-places, fresh-roomy, index-none}
use Rattle.pool_states.proofs.good_state.Goals as goal

-- what the test of the frame says of the deck by its tables
learnt : (rules parts : List ℕ) (k : Counted.Deck) (m : Memory) {b x : Bool} → FitsState k.channels k.parts m b → b ≡ x
    → framed (shape rules parts k) m ≡ x
learnt rules parts k m f e = sym (f (shape rules parts k) (counted-R rules parts k) (counted-N rules parts k)) ∙ e

pub returns-then-not-state_fits : goal.returns-then-not-state_fits
returns-then-not-state_fits c =
    let a = c.args in
    let d = shape a.rig.now.rules.now a.rig.now.parts.now a.rig.now.counts in
    let m = memory_of a.values.now a.pending a.pool.now in
    let out = learnt a.rig.now.rules.now a.rig.now.parts.now a.rig.now.counts m c.state_fits.ensures c.if-not-state_fits.true in
    record { answer = judged-bad d m (no-frame d m out); memo = c.requires.0.memo; indexes = index-none refl }

pub weigh-requires : goal.weigh-requires
weigh-requires c =
    let a = c.args in
    let d = shape a.rig.now.rules.now a.rig.now.parts.now a.rig.now.counts in
    let m = memory_of a.values.now a.pending a.pool.now in
    let few = (framed-tests d m (learnt a.rig.now.rules.now a.rig.now.parts.now a.rig.now.counts m c.state_fits.ensures
    c.if-not-state_fits.false)).few in (
      c.requires.0,
      c.requires.1,
      omega (arith, few),
      omega (arith, few, few-places _ c.requires.2),
      fresh-roomy c.requires.3 a.pending few,
      c.requires.3.zeros,
    )

pub returns-in_err-total : goal.returns-in_err-total
returns-in_err-total c =
    let a = c.args in
    let d = shape a.rig.now.rules.now a.rig.now.parts.now a.rig.now.counts in
    let m = memory_of a.values.now a.pending a.pool.now in
    let w = c.in_err-total.ensures in
    rw c.from_residual.ensures
    (record { answer = judged-bad d m (not_sound d m (weight-bad d m refl w.answer)); memo = w.memo; indexes = index-none w.indexes.long })

pub returns-then-places-total : goal.returns-then-places-total
returns-then-places-total c =
    let a = c.args in
    let d = shape a.rig.now.rules.now a.rig.now.parts.now a.rig.now.counts in
    let m = memory_of a.values.now a.pending a.pool.now in
    let w = c.in_ok-total.ensures in
    let sound = weight-good d m refl w.answer in
    let frame = learnt a.rig.now.rules.now a.rig.now.parts.now a.rig.now.counts m c.state_fits.ensures c.if-not-state_fits.false in
    record {
      answer = judged-above d m (all-but-charge d m frame sound.0) sound.1 c.if-places-total.true;
      memo = w.memo;
      indexes = index-none w.indexes.long;
    }

pub returns : goal.returns
returns c =
    let a = c.args in
    let d = shape a.rig.now.rules.now a.rig.now.parts.now a.rig.now.counts in
    let m = memory_of a.values.now a.pending a.pool.now in
    let w = c.in_ok-total.ensures in
    let sound = weight-good d m refl w.answer in
    let frame = learnt a.rig.now.rules.now a.rig.now.parts.now a.rig.now.counts m c.state_fits.ensures c.if-not-state_fits.false in
    record {
      answer = judged-good d m (all-but-charge d m frame sound.0) sound.1 c.requires.2 c.if-places-total.false;
      memo = w.memo;
      indexes = record { indexed = λ _. w.indexes.indexed (_, refl); long = w.indexes.long };
    }
