-- `charge_tables::update_charge` meets its contract: the charges of the rules passed are added, up to the cap, and the memo is
-- right. Assumes nothing.
use Prim.Native.Nat.{ℕ}
use mathlib.Core.Path.{◌≡◌, refl, sym, ap, ◌∙◌}
use native.Mathlib.Nat.{lt_of_lt_of_le}
use native.Mathlib.Omega.{arith}
use Rattle.lists.specs.Bits.{bit, NextIn}
use Rattle.lists.specs.Laws.Bits.{bit-zero}
use Rattle.lists.specs.Laws.Iterating.{going-first, going-here, going-on, going-end}
use Rattle.lists.specs.Laws.Through.{Through, through-next, through-all}
use Rattle.deck.specs.Shape.{bits_of, shape}
use Rattle.charge_tables.proofs.Terms.{heard}
use Rattle.charge_tables.proofs.Sums.{Summing, same, none_yet, skip, more}
use Rattle.charge_tables.proofs.Tabled.{update_all, heard-yes, heard-no, hears-carried}
use Rattle.charge_tables.specs.Laws.Entries.{Column, column-of, row_room, gives-charge}
use Rattle.charge_tables.proofs.update_charge.Goals as goal

-- a set without numbers has none from 0 on
none_in : {set : ℕ} → set ≡ 0 → NextIn set 0 64
none_in e =
    record {
      most = omega arith;
      on = λ l. omega arith;
      found = λ l. absurd (omega arith);
      passed = λ i l m. ap (λ s. bit s i) e ∙ bit-zero i;
    }

-- no rule listens to the update
pub returns-then-set-eq0 : goal.returns-then-set-eq0
returns-then-set-eq0 c =
    let h = c.requires.0.tables in
    let set = c.active-set.ensures in
    let n = none_in c.if-set-eq0.true in
    let f = heard (shape c.args.rig.now.rules.now c.args.rig.now.parts.now c.args.rig.now.counts) c.args.p (bits_of 32 c.args.mask) in
    let t : Through c.active-set.result c.args.rig.now.counts.rules
    (Summing (shape c.args.rig.now.rules.now c.args.rig.now.parts.now c.args.rig.now.counts) 1 f c.args.memo.now 1) 64
    = through-next n (omega arith) h.few_rules
    (λ i a b e w. skip w (heard-no h i b c.args.mask c.args.p c.requires.1 (sym (set.each i b) ∙ e)))
    (none_yet (record { value = refl; memo = c.requires.0.memo })) in
    same (through-all t h.few_rules).so_far (update_all h c.args.p c.requires.1 (bits_of 32 c.args.mask))

pub loop-r-init : goal.loop-r-init
loop-r-init c =
    let e = c.members_below-r-items.ensures in
    let set = c.active-set.ensures in
    going-first c.requires.0.tables.few_rules c.into_iter-r-iterator.ensures.into_iter_gives e.from e.to
    (λ i b f w. skip w (heard-no c.requires.0.tables i b c.args.mask c.args.p c.requires.1 (sym (set.each i b) ∙ f)))
    (none_yet (record { value = refl; memo = c.requires.0.memo }))

pub known_charges-requires : goal.known_charges-requires
known_charges-requires c =
    let h = going-here c.loop-r.invariant c.in-Some.ensures.steps in
    let y = sym (c.active-set.ensures.each c.in-Some.r h.below) ∙ h.member in (
      record { tables = c.requires.0.tables; memo = h.done.so_far.memo },
      h.below,
      hears-carried c.requires.0.tables c.in-Some.r h.below c.args.mask c.args.p c.requires.1 y,
    )

-- the entry that is read
column-2 : (k : goal.After-slice_known-in-loop-r-2-1-unread)
    → Column k.known_charges.new.memo k.in-Some.r k.args.p
column-2 k =
    let h = k.requires.0.tables in
    let l = (going-here k.loop-r.invariant k.in-Some.ensures.steps).below in
    column-of _ _ _ _ k.requires.1 h.few_parts (lt_of_lt_of_le l h.few_rules) (row_room h k.known_charges.ensures.memo _ l)

pub loop-r-preserved : goal.loop-r-preserved
loop-r-preserved c =
    let t = c.requires.0.tables in
    let h = going-here c.loop-r.invariant c.in-Some.ensures.steps in
    let r = c.in-Some.r in
    let set = c.active-set.ensures in
    going-on c.loop-r.invariant c.in-Some.ensures.steps
    (λ i b f w. skip w (heard-no t i b c.args.mask c.args.p c.requires.1 (sym (set.each i b) ∙ f)))
    (more h.done (heard-yes t r h.below c.args.mask c.args.p c.requires.1 (sym (set.each r h.below) ∙ h.member))
    (gives-charge t c.known_charges.ensures c.args.p c.requires.1) c.capped_sum-total.ensures)

pub returns : goal.returns
returns c =
    same (going-end c.loop-r.invariant c.in-None.ensures.steps.0.0).so_far
    (update_all c.requires.0.tables c.args.p c.requires.1 (bits_of 32 c.args.mask))

pub bounds-memo-r : goal.bounds-memo-r
bounds-memo-r c = (column-2 c).inside
