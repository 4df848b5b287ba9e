-- `charge_tables::rule_charges` and `charge_tables::update_charges` meet their contracts. Assumes nothing.
use Prim.Native.Nat.{ℕ, ◌+◌, ◌*◌, ◌<◌}
use mathlib.Core.Path.{◌≡◌, refl, sym, ◌∙◌, subst}
use native.Mathlib.Omega.{arith}
use lib.ListN.{get_or}
use Rattle.lists.specs.Laws.Iterating.{going-first, going-here, going-on, going-end}
use Rattle.charge.proofs.Laws.Tables.{entry}
use Rattle.charge_listeners.specs.Laws.Listening.{is-listener}
use Rattle.charge_tables.specs.Laws.Entries.{row_room}
use Rattle.charge_tables.proofs.Tabled.{own_is, given_is, first-falls, second-falls, listening-falls, listening-carried}
use Rattle.charge_tables.proofs.Memos.{keeps_same, keeps-trans}
use Rattle.charge_tables.proofs.RowCharges.{ActionGives, row_same, hearing-none, hearing-skip, hearing-more}
use Rattle.charge_tables.proofs.RowCharges.{row_written, gives-heard, action-none, action-some, gives-known, gives-written}
use Rattle.charge_tables.proofs.+rule_charges_update_charges.Goals as goal
use Rattle.charge_tables.proofs.+rule_charges_update_charges.Goals.{rule_charges-then-default-ne0, rule_charges-else-default-ne0}
use Rattle.charge_tables.proofs.+rule_charges_update_charges.Goals.{rule_charges-then-action-ne0, rule_charges-else-action-ne0}

lower : {a b t : ℕ} → a < b → b ≡ t → a < t
lower {a} f e = subst (λ n. a < n) e f

pub rule_charges-bounds-memo-r : goal.rule_charges-bounds-memo-r
rule_charges-bounds-memo-r t c = (entry c.requires.0.tables c.requires.0.memo c.args.r c.requires.1).inside

pub rule_charges-returns-then-memo-r-ne0 : goal.rule_charges-returns-then-memo-r-ne0
rule_charges-returns-then-memo-r-ne0 t c = gives-known c.requires.0.tables c.requires.0.memo c.if-memo-r-ne0.true

pub rule_charges-update_charges-requires : goal.rule_charges-update_charges-requires
rule_charges-update_charges-requires t c =
    let f = first-falls c.requires.0.tables c.args.r c.requires.1 in
    (lower f c.decreases, (c.requires.0, c.begin-first.ensures.some c.if-default-ne0.true))

-- what is known where the arms of a test for an empty action meet
first-given : (t : ℕ) (c : goal.rule_charges-After-second-1 t)
    → ActionGives c.args.rig.now.rules.now c.args.rig.now.parts.now c.args.rig.now.counts
    (get_or c.args.rig.now.rules.now (8 * c.args.r + 1) 0)
    c.args.memo.now c.if-default-ne0.memo c.if-default-ne0.first
first-given t c =
    elim c.if-default-ne0.branch [
      | rule_charges-then-default-ne0 w ↦
          rw (w.memo-is, w.first-is) (action-some c.requires.0.tables w.if-default-ne0.true w.update_charges.ensures)
      | rule_charges-else-default-ne0 w ↦ rw (
        w.memo-is,
        w.first-is,
      ) (action-none c.requires.0.tables w.if-default-ne0.false c.begin-first.ensures c.requires.0.memo)
    ]

pub rule_charges-update_charges-requires-then-action-ne0 : goal.rule_charges-update_charges-requires-then-action-ne0
rule_charges-update_charges-requires-then-action-ne0 t c =
    let f = second-falls c.requires.0.tables c.args.r c.requires.1 in (
      lower f c.decreases,
      (
        record { tables = c.requires.0.tables; memo = (first-given t c).memo },
        c.begin-second.ensures.some c.if-action-ne0.true,
      ),
    )

-- the same of both rows
first-given-2 : (t : ℕ) (c : goal.rule_charges-After-second-2-1 t)
    → ActionGives c.args.rig.now.rules.now c.args.rig.now.parts.now c.args.rig.now.counts
    (get_or c.args.rig.now.rules.now (8 * c.args.r + 1) 0)
    c.args.memo.now c.if-default-ne0.memo c.if-default-ne0.first
first-given-2 t c =
    elim c.if-default-ne0.branch [
      | rule_charges-then-default-ne0 w ↦
          rw (w.memo-is, w.first-is) (action-some c.requires.0.tables w.if-default-ne0.true w.update_charges.ensures)
      | rule_charges-else-default-ne0 w ↦ rw (
        w.memo-is,
        w.first-is,
      ) (action-none c.requires.0.tables w.if-default-ne0.false c.begin-first.ensures c.requires.0.memo)
    ]

second-given-2 : (t : ℕ) (c : goal.rule_charges-After-second-2-1 t)
    → ActionGives c.args.rig.now.rules.now c.args.rig.now.parts.now c.args.rig.now.counts
    (get_or c.args.rig.now.rules.now (8 * c.args.r + 2) 0)
    c.if-default-ne0.memo c.if-action-ne0.memo c.if-action-ne0.second
second-given-2 t c =
    elim c.if-action-ne0.branch [
      | rule_charges-then-action-ne0 w ↦
          rw (w.memo-is, w.second-is) (action-some c.requires.0.tables w.if-action-ne0.true w.update_charges-then-action-ne0.ensures)
      | rule_charges-else-action-ne0 w ↦ rw (
        w.memo-is,
        w.second-is,
      ) (action-none c.requires.0.tables w.if-action-ne0.false c.begin-second.ensures (first-given-2 t c).memo)
    ]

pub rule_charges-put_row-requires : goal.rule_charges-put_row-requires
rule_charges-put_row-requires t c =
    let h = c.requires.0.tables in
    let one = first-given-2 t c in
    let two = second-given-2 t c in
    (row_room h two.memo c.args.r c.requires.1, h.few_parts, omega arith, one.row.small, two.row.small)

-- the same of both rows
first-given-3 : (t : ℕ) (c : goal.rule_charges-After-slice_known-3-1 t)
    → ActionGives c.args.rig.now.rules.now c.args.rig.now.parts.now c.args.rig.now.counts
    (get_or c.args.rig.now.rules.now (8 * c.args.r + 1) 0)
    c.args.memo.now c.if-default-ne0.memo c.if-default-ne0.first
first-given-3 t c =
    elim c.if-default-ne0.branch [
      | rule_charges-then-default-ne0 w ↦
          rw (w.memo-is, w.first-is) (action-some c.requires.0.tables w.if-default-ne0.true w.update_charges.ensures)
      | rule_charges-else-default-ne0 w ↦ rw (
        w.memo-is,
        w.first-is,
      ) (action-none c.requires.0.tables w.if-default-ne0.false c.begin-first.ensures c.requires.0.memo)
    ]

second-given-3 : (t : ℕ) (c : goal.rule_charges-After-slice_known-3-1 t)
    → ActionGives c.args.rig.now.rules.now c.args.rig.now.parts.now c.args.rig.now.counts
    (get_or c.args.rig.now.rules.now (8 * c.args.r + 2) 0)
    c.if-default-ne0.memo c.if-action-ne0.memo c.if-action-ne0.second
second-given-3 t c =
    elim c.if-action-ne0.branch [
      | rule_charges-then-action-ne0 w ↦
          rw (w.memo-is, w.second-is) (action-some c.requires.0.tables w.if-action-ne0.true w.update_charges-then-action-ne0.ensures)
      | rule_charges-else-action-ne0 w ↦ rw (
        w.memo-is,
        w.second-is,
      ) (action-none c.requires.0.tables w.if-action-ne0.false c.begin-second.ensures (first-given-3 t c).memo)
    ]

pub rule_charges-returns : goal.rule_charges-returns
rule_charges-returns t c =
    let h = c.requires.0.tables in
    let one = first-given-3 t c in
    let two = second-given-3 t c in
    gives-written h two.memo (keeps-trans one.keeps two.keeps)
    (row_written h c.requires.1
    (row_same one.row (own_is h c.args.r c.requires.1))
    (row_same two.row (given_is h c.args.r c.requires.1))
    c.put_row.ensures)

pub update_charges-loop-r-init : goal.update_charges-loop-r-init
update_charges-loop-r-init t c =
    let h = c.requires.0.tables in
    let set = c.listeners-set.ensures in
    let e = c.members_below-r-items.ensures in (
      c.requires.0.memo,
      keeps_same,
      going-first h.few_rules c.into_iter-r-iterator.ensures.into_iter_gives e.from e.to
          (λ i b f w. hearing-skip h w b (sym (is-listener h i b c.args.mask set) ∙ f))
          (hearing-none h c.args.mask c.requires.1),
    )

pub update_charges-rule_charges-requires : goal.update_charges-rule_charges-requires
update_charges-rule_charges-requires t c =
    let h = c.requires.0.tables in
    let i = c.loop-r.invariant in
    let r = c.in-Some.r in
    let n = going-here i.2 c.in-Some.ensures.steps in
    let y = sym (is-listener h r n.below c.args.mask c.listeners-set.ensures) ∙ n.member in (
      lower (listening-falls h r n.below c.args.mask y) c.decreases,
      (record { tables = h; memo = i.0 }, n.below, listening-carried h r n.below c.args.mask y),
    )

pub update_charges-add_row-requires : goal.update_charges-add_row-requires
update_charges-add_row-requires t c =
    let h = c.requires.0.tables in
    let g = c.rule_charges.ensures in
    let n = going-here c.loop-r.invariant.2 c.in-Some.ensures.steps in
    (h.parts_long, row_room h g.memo _ n.below, h.few_parts, n.small, n.done.row.small, g.known)

pub update_charges-loop-r-preserved : goal.update_charges-loop-r-preserved
update_charges-loop-r-preserved t c =
    let h = c.requires.0.tables in
    let i = c.loop-r.invariant in
    let r = c.in-Some.r in
    let n = going-here i.2 c.in-Some.ensures.steps in
    let set = c.listeners-set.ensures in
    let y = sym (is-listener h r n.below c.args.mask set) ∙ n.member in
    let g = c.rule_charges.ensures in (
      g.memo,
      keeps-trans i.1 g.keeps,
      going-on i.2 c.in-Some.ensures.steps (λ i b f w. hearing-skip h w b (sym (is-listener h i b c.args.mask set) ∙ f))
          (hearing-more h n.done n.below y g.memo g.known c.add_row.ensures),
    )

pub update_charges-returns : goal.update_charges-returns
update_charges-returns t c =
    let i = c.loop-r.invariant in
    gives-heard c.requires.0.tables i.0 i.1 (going-end i.2 c.in-None.ensures.steps.0.0) refl
