-- `charge_listeners::note_listeners` meets its contract: the carried rules below the next one are noted. Assumes nothing.
use mathlib.Core.Path.{sym, ◌∙◌}
use native.Mathlib.Omega.{arith}
use Rattle.lists.specs.Laws.Iterating.{going-first, going-here, going-on, going-end}
use Rattle.charge_listeners.proofs.Columns.{kept_same, kept_trans, noted-none, noted-skip, noted_more}
use Rattle.charge_listeners.proofs.note_listeners.Goals as goal

pub loop-r-init : goal.loop-r-init
loop-r-init c =
    let e = c.members_below-r-items.ensures in
    let all = c.carried_by_some-carried.ensures in (
      kept_same,
      going-first (omega arith) c.into_iter-r-iterator.ensures.into_iter_gives e.from e.to
          (λ i b f h. noted-skip h (sym (all.each i) ∙ f)) (noted-none c.clear_listeners.ensures),
    )

pub loop-r-preserved : goal.loop-r-preserved
loop-r-preserved c =
    let w = c.note_rule.ensures in
    let i = c.loop-r.invariant in
    let t = c.in-Some.ensures.steps in
    let h = going-here i.1 t in
    let all = c.carried_by_some-carried.ensures in (
      kept_trans i.0 w.kept,
      going-on i.1 t (λ i b f h. noted-skip h (sym (all.each i) ∙ f)) (noted_more h.done (sym (all.each c.in-Some.r) ∙ h.member) w),
    )

pub returns : goal.returns
returns c =
    (kept_trans c.clear_listeners.ensures.kept c.loop-r.invariant.0, going-end c.loop-r.invariant.1 c.in-None.ensures.steps.0.0)
