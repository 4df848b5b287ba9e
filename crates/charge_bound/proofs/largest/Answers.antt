-- `charge_bound::largest` meets its contract. The loop's invariant: most is the largest charge of the carried rules passed, up
-- to the cap, and the memo is right. Assumes nothing.
use mathlib.Core.Path.{sym, ◌∙◌}
use Rattle.lists.specs.Laws.Iterating.{going-first, going-here, going-on, going-end}
use Rattle.charge_tables.specs.Laws.Entries.{row_room}
use Rattle.charge_bound.proofs.ByRules.{rules-none, rules-skip, rules-more}
use Rattle.charge_bound.proofs.largest.Goals as goal

pub loop-r-init : goal.loop-r-init
loop-r-init c =
    let e = c.members_below-r-items.ensures in
    let all = c.carried_by_some-carried.ensures in (
      c.requires.memo,
      going-first c.requires.tables.few_rules c.into_iter-r-iterator.ensures.into_iter_gives e.from e.to
          (λ i b f w. rules-skip c.requires.tables w (sym (all.each i) ∙ f)) rules-none,
    )

pub known_charges-requires : goal.known_charges-requires
known_charges-requires c =
    let i = c.loop-r.invariant in
    let h = going-here i.1 c.in-Some.ensures.steps in (
      record { tables = c.requires.tables; memo = i.0 },
      h.below,
      sym (c.carried_by_some-carried.ensures.each c.in-Some.r) ∙ h.member,
    )

pub row_largest-most-requires : goal.row_largest-most-requires
row_largest-most-requires c =
    let t = c.requires.tables in
    let g = c.known_charges.ensures in
    let h = going-here c.loop-r.invariant.1 c.in-Some.ensures.steps in
    (t.parts_long, row_room t g.memo _ h.below, t.few_parts, h.small, g.known)

pub loop-r-preserved : goal.loop-r-preserved
loop-r-preserved c =
    let t = c.requires.tables in
    let all = c.carried_by_some-carried.ensures in
    let i = c.loop-r.invariant in
    let h = going-here i.1 c.in-Some.ensures.steps in
    let g = c.known_charges.ensures in (
      g.memo,
      going-on i.1 c.in-Some.ensures.steps (λ i b f w. rules-skip t w (sym (all.each i) ∙ f))
          (rules-more t h.done h.below g.memo g.known c.row_largest-most.ensures),
    )

pub returns : goal.returns
returns c = (going-end c.loop-r.invariant.1 c.in-None.ensures.steps.0.0, c.loop-r.invariant.0)
