-- `passing_tests::open_parts` meets its contract. The loop's invariant: the first p parts have their opening values. Assumes nothing.
use Prim.Native.Nat.{ℕ, ◌+◌, ◌*◌, ◌-◌, ◌≤◌, ◌<◌}
use mathlib.Core.Path.{◌≡◌, sym, ap, ap₂, ◌∙◌}
use mathlib.Core.List.{List, ◌++◌}
use native.Mathlib.Omega.{arith}
use lib.ListN.{length, take, drop, length-take, length-drop}
use lib.IntN.{ℤ}
use Rattle.deck.specs.Deck.{N}
use Rattle.pool.specs.Places.{zeros}
use Rattle.passing.specs.Tabled.{deck_of, PartsKnown}
use Rattle.passing.proofs.Laws.Opening.{zeros-length, open_to, open_none, open_next, open-all, known-part, opening-stands}
use Rattle.deck.specs.declared.Deck as Counted
use Rattle.passing_tests.proofs.open_parts.Goals as goal

pub loop-p-init : goal.loop-p-init
loop-p-init c f = c.requires.1 ∙ open_none (deck_of c.args.rig.now.deck.now) f

-- a part's stretch lies in the table
part-fits : (s : List ℕ) (k : Counted.Deck) (parts : List ℕ) (w : PartsKnown s k parts) (p : ℕ) → p < k.parts → 32 * p + k.channels ≤ 512
part-fits s k parts w p h =
    omega (arith, w.counts.parts, w.counts.formed.parts, w.counts.channels, w.counts.formed.channels)

table-long : (values : List ℤ) → values ≡ zeros 512 → length values ≡ 512
table-long values e = ap length e ∙ zeros-length 512

-- the stretch that is lent has room for the values
tail-long : (n p c : ℕ) (values : List ℤ) → length values ≡ 512 → 32 * p + c ≤ 512
    → c ≤ length (take (length values - 32 * p) (drop (32 * p) values))
tail-long n p c values l h =
    omega (arith, length-take (length values - 32 * p) (drop (32 * p) values), length-drop (32 * p) values)

pub slice_bounds-open_part-count : goal.slice_bounds-open_part-count
slice_bounds-open_part-count c =
    omega (
      arith,
      part-fits c.args.rig.now.deck.now c.args.rig.now.counts c.args.rig.now.parts.now c.requires.0 c.loop-p.p c.loop-p-test.true,
      c.loop-p.auto.values,
      table-long c.args.values.now c.requires.1,
    )

pub slice_bounds-open_part-start : goal.slice_bounds-open_part-start
slice_bounds-open_part-start c =
    omega (
      arith,
      part-fits c.args.rig.now.deck.now c.args.rig.now.counts c.args.rig.now.parts.now c.requires.0 c.loop-p.p c.loop-p-test.true,
      c.loop-p.auto.values,
      table-long c.args.values.now c.requires.1,
    )

pub open_part-requires : goal.open_part-requires
open_part-requires c =
    let a = c.args in
    let h = c.loop-p-test.true in (
      tail-long 0 c.loop-p.p a.rig.now.counts.channels c.loop-p.values (c.loop-p.auto.values ∙ table-long a.values.now c.requires.1)
          (part-fits a.rig.now.deck.now a.rig.now.counts a.rig.now.parts.now c.requires.0 c.loop-p.p h),
      (opening-stands a.rig.now.deck.now a.rig.now.counts a.rig.now.parts.now c.requires.0 c.loop-p.p h).1,
    )

pub loop-p-preserved : goal.loop-p-preserved
loop-p-preserved c f =
    let a = c.args in
    let h = c.loop-p-test.true in
    let w = c.requires.0 in
    let p = c.loop-p.p in
    let lp = known-part a.rig.now.deck.now a.rig.now.counts a.rig.now.parts.now w p h in
    open_next (deck_of a.rig.now.deck.now) f p lp c.loop-p.values (c.loop-p.invariant f) c.open_part.new.stretch
    (c.open_part.ensures
    ∙ ap₂ (λ v n. v ++ drop n (take (length c.loop-p.values - 32 * p) (drop (32 * p) c.loop-p.values)))
    (sym (opening-stands a.rig.now.deck.now a.rig.now.counts a.rig.now.parts.now w p h).0)
    w.counts.channels)

pub returns : goal.returns
returns c =
    let k = c.requires.0.counts in
    let e : c.loop-p.p ≡ N (deck_of c.args.rig.now.deck.now) = omega (arith, k.parts, c.loop-p-test.false) in
    c.loop-p.invariant k.formed
    ∙ ap (open_to (deck_of c.args.rig.now.deck.now) k.formed) e
    ∙ open-all (deck_of c.args.rig.now.deck.now) k.formed
