-- `charge_bound::part_above` meets its contract. The loop's invariant: most is the largest charge at the places passed, and the
-- memo is right. Assumes nothing.
use Prim.Native.Nat.{◌+◌, ◌*◌}
use mathlib.Core.Path.{◌≡◌, subst}
use native.Mathlib.Nat.{lt_of_lt_of_le}
use native.Mathlib.Omega.{arith}
use Rattle.lists.specs.Laws.Iterating.{going-first, going-here, going-on, going-end}
use Rattle.deck.specs.Shape.{shape}
use Rattle.charge.specs.Answer.{LargestBelow}
use Rattle.charge_bound.proofs.Search.{few_rules, passed-more, passed-above, is-place, passed-next, passed-part}
use Rattle.charge_listeners.specs.Laws.Listening.{carried-by}
use Rattle.charge_tables.specs.Laws.Entries.{Column, column-of, row_room, gives-charge}
use Rattle.charge_bound.proofs.part_above.Goals as goal

pub loop-r-init : goal.loop-r-init
loop-r-init c =
    let t = c.requires.0.tables in
    let e = c.members_below-r-items.ensures in
    let a = c.args in
    let first : 64 * a.p ≡ 64 * a.p + 0 = omega arith in (
      c.requires.0.memo,
      going-first t.few_rules c.into_iter-r-iterator.ensures.into_iter_gives e.from e.to
          (λ i b f w. passed-next t a.p c.requires.1 i b f w)
          (subst (λ k. LargestBelow (shape a.rig.now.rules.now a.rig.now.parts.now a.rig.now.counts) k a.best) first c.requires.2),
    )

pub known_charges-requires : goal.known_charges-requires
known_charges-requires c =
    let i = c.loop-r.invariant in
    let h = going-here i.1 c.in-Some.ensures.steps in (
      record { tables = c.requires.0.tables; memo = i.0 },
      h.below,
      carried-by c.args.rig.now.parts.now c.args.rig.now.counts.parts _ c.args.p c.requires.1 h.member,
    )

-- the entry that is read
column-2 : (k : goal.After-slice_known-in-loop-r-2-1-unread)
    → Column k.known_charges.new.memo k.in-Some.r k.args.p
column-2 k =
    let h = k.requires.0.tables in
    let l = (going-here k.loop-r.invariant.1 k.in-Some.ensures.steps).below in
    column-of _ _ _ _ k.requires.1 h.few_parts (lt_of_lt_of_le l h.few_rules) (row_room h k.known_charges.ensures.memo _ l)

pub returns-then-c-eq-CAP : goal.returns-then-c-eq-CAP
returns-then-c-eq-CAP c =
    let t = c.requires.0.tables in
    let h = going-here c.loop-r.invariant.1 c.in-Some.ensures.steps in
    let w = c.known_charges.ensures in
    let g = gives-charge t w c.args.p c.requires.1 in (
      passed-above _ (few_rules t) h.done (is-place t _ _ c.requires.1 h.below h.member)
          (omega (arith, g.value, c.if-c-eq-CAP.true)),
      w.memo,
    )

pub loop-r-preserved : goal.loop-r-preserved
loop-r-preserved c =
    let t = c.requires.0.tables in
    let i = c.loop-r.invariant in
    let h = going-here i.1 c.in-Some.ensures.steps in
    let w = c.known_charges.ensures in
    let g = gives-charge t w c.args.p c.requires.1 in
    let a = c.args in
    let r = c.in-Some.r in
    let m = passed-more _ (few_rules t) h.done (is-place t _ _ c.requires.1 h.below h.member) g.value c.if-c-eq-CAP.false
    c.max-most.ensures in
    let next : 64 * a.p + r + 1 ≡ 64 * a.p + (r + 1) = omega arith in (
      w.memo,
      going-on i.1 c.in-Some.ensures.steps (λ i b f w. passed-next t a.p c.requires.1 i b f w)
          (subst (λ k. LargestBelow (shape a.rig.now.rules.now a.rig.now.parts.now a.rig.now.counts) k c.max-most.result) next m),
    )

pub returns : goal.returns
returns c =
    let i = c.loop-r.invariant in
    (passed-part c.requires.0.tables c.args.p c.requires.1 (going-end i.1 c.in-None.ensures.steps.0.0), i.0)

pub bounds-memo-r : goal.bounds-memo-r
bounds-memo-r c = (column-2 c).inside
