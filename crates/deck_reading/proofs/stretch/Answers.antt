-- `deck_reading::stretch` meets its contract: the ends of the part, in order. Assumes nothing.
use Prim.Native.Nat.{◌≤◌, ◌-◌}
use mathlib.Core.Path.{refl, ◌∙◌, ap, ap₂}
use native.Mathlib.Omega.{arith}
use native.Mathlib.Numerals.{add-one}
use lib.ListN.{length, take, drop}
use Rattle.deck.specs.Sections.{offset_of, stretch_of}
use Rattle.deck.proofs.Laws.Stretches.{offset-order}
use Rattle.deck_reading.proofs.stretch.Goals as goal

-- the part's two ends are in order
ordered : (c : goal.After-offset-to) → (c.offset-from.result ≤ c.offset-to.result)
    × (c.offset-to.result ≤ length c.args.bytes.now)
ordered c =
    let a = c.args in
    let pre = c.requires in
    let o = offset-order a.deck.rules_at a.deck.parts_at (length a.bytes.now) pre.0 pre.1 a.number pre.2 in
    let e = c.offset-from.ensures in
    let f = c.offset-to.ensures
    ∙ ap (offset_of a.deck.rules_at a.deck.parts_at (length a.bytes.now)) (add-one a.number) in
    (omega (arith, e, f, o.0), omega (arith, f, o.1))

pub slice_bounds-result-count : goal.slice_bounds-result-count
slice_bounds-result-count c = (ordered c).0

pub slice_bounds-result-start : goal.slice_bounds-result-start
slice_bounds-result-start c = (ordered c).0

pub slice_bounds-result-end : goal.slice_bounds-result-end
slice_bounds-result-end c = (ordered c).1

pub returns : goal.returns
unfolding stretch_of
returns c =
    let a = c.args in
    let e = c.offset-from.ensures in
    let f = c.offset-to.ensures
    ∙ ap (offset_of a.deck.rules_at a.deck.parts_at (length a.bytes.now)) (add-one a.number) in
    (ap₂ (λ x y. take (y - x) (drop x a.bytes.now)) e f, record { block = refl; offset = omega (arith, e) })
