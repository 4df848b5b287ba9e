-- `conversion_bytes::put_rules` meets its contract. The loop's invariant: so many rules end at the place, and what becomes of them is
-- written. Assumes nothing.
use Prim.Native.Nat.{ℕ, ◌+◌, ◌≤◌, ◌<◌}
use mathlib.Core.Path.{refl, sym, ◌∙◌, subst}
use mathlib.Core.List.{List, flat_map}
use native.Mathlib.Omega.{arith}
use lib.ListN.{length, get_or}
use Rattle.deck.specs.Deck.{Rule}
use Rattle.deck.specs.Encoding.{encode_rule}
use Rattle.conversion.specs.Converted.{split}
use Rattle.conversion.proofs.Laws.Renumbering.{no_rule, flat_map-flat_map}
use Rattle.conversion_bytes.specs.Stands.{Listed, Walked}
use Rattle.conversion_bytes.specs.Pieces.{RuleEnds, new_rule_bytes}
use Rattle.conversion_bytes.specs.declared.Ends.{Ends}
use Rattle.conversion_bytes.specs.Laws.Written.{written-length, written_is, written-first, written_next, written_all, room_next}
use Rattle.conversion_bytes.specs.Laws.Stands.{walked_none}
use Rattle.conversion_bytes.specs.Laws.Rules.{Stretches, rule-here, rule-stretched, rule-next, stretches-split}
use Rattle.conversion_bytes.proofs.put_rules.Goals as goal

-- what becomes of the rules has room
room : (rs : List Rule) (at : ℕ) (out : List ℕ) → at + length (flat_map encode_rule (flat_map split rs)) ≤ length out
    → at + length (flat_map new_rule_bytes rs) ≤ length out
room rs at out h = subst (λ l. at + length l ≤ length out) (flat_map-flat_map encode_rule split rs) h

-- the stretches of the rule at the place
own : {s : List ℕ} {count place i : ℕ} {rs : List Rule} {e : Ends} {A : Type 0} {B : List Rule → Type 0}
    → A × ((rs : List Rule) → Listed encode_rule s 0 count rs → Walked encode_rule s 0 count rs place i × B rs)
    → Listed encode_rule s 0 count rs → i < count → RuleEnds s place e → Stretches s place e (get_or rs i no_rule)
own {s} {count} {place} {i} {rs} {e} k w h r = rule-stretched s count rs place i (k.1 rs w).0 h e r

pub loop-init : goal.loop-init
loop-init c =
    let a = c.args in (
      refl,
      λ rs w. (
        walked_none encode_rule a.rules.now 0 a.count rs w,
        written-first new_rule_bytes rs a.out.now a.at (omega (arith, room c.requires.0 a.at a.out.now c.requires.2)),
      ),
    )

pub rule_ends-default-requires : goal.rule_ends-default-requires
rule_ends-default-requires c =
    let l = c.loop in
    let rs = c.requires.0 in
    (get_or rs l.counter no_rule, rule-here c.args.rules.now c.args.count rs l.place l.counter (l.invariant.1 rs c.requires.1).0 c.loop-test.true)

pub slice_bounds-put_rule-count : goal.slice_bounds-put_rule-count
slice_bounds-put_rule-count c = omega (arith, (own c.loop.invariant c.requires.1 c.loop-test.true c.rule_ends-default.ensures).order)

pub slice_bounds-put_rule-start : goal.slice_bounds-put_rule-start
slice_bounds-put_rule-start c = omega (arith, (own c.loop.invariant c.requires.1 c.loop-test.true c.rule_ends-default.ensures).order)

pub slice_bounds-put_rule-end : goal.slice_bounds-put_rule-end
slice_bounds-put_rule-end c = omega (arith, (own c.loop.invariant c.requires.1 c.loop-test.true c.rule_ends-default.ensures).order)

pub slice_bounds-put_rule-count-in-loop : goal.slice_bounds-put_rule-count-in-loop
slice_bounds-put_rule-count-in-loop c = omega (arith, (own c.loop.invariant c.requires.1 c.loop-test.true c.rule_ends-default.ensures).order)

pub slice_bounds-put_rule-start-in-loop : goal.slice_bounds-put_rule-start-in-loop
slice_bounds-put_rule-start-in-loop c = omega (arith, (own c.loop.invariant c.requires.1 c.loop-test.true c.rule_ends-default.ensures).order)

pub slice_bounds-put_rule-end-in-loop : goal.slice_bounds-put_rule-end-in-loop
slice_bounds-put_rule-end-in-loop c = omega (arith, (own c.loop.invariant c.requires.1 c.loop-test.true c.rule_ends-default.ensures).order)

pub slice_bounds-put_rule-count-in-loop-2 : goal.slice_bounds-put_rule-count-in-loop-2
slice_bounds-put_rule-count-in-loop-2 c = omega (arith, (own c.loop.invariant c.requires.1 c.loop-test.true c.rule_ends-default.ensures).order)

pub slice_bounds-put_rule-start-in-loop-2 : goal.slice_bounds-put_rule-start-in-loop-2
slice_bounds-put_rule-start-in-loop-2 c = omega (arith, (own c.loop.invariant c.requires.1 c.loop-test.true c.rule_ends-default.ensures).order)

pub slice_bounds-put_rule-end-in-loop-2 : goal.slice_bounds-put_rule-end-in-loop-2
slice_bounds-put_rule-end-in-loop-2 c = omega (arith, (own c.loop.invariant c.requires.1 c.loop-test.true c.rule_ends-default.ensures).order)

pub put_rule-to-requires : goal.put_rule-to-requires
put_rule-to-requires c =
    let l = c.loop in
    let a = c.args in
    let rs = c.requires.0 in
    let i = l.counter in
    let less : i < length rs = omega (arith, c.loop-test.true, c.requires.1.count) in
    let w = stretches-split a.rules.now l.place c.rule_ends-default.result (get_or rs i no_rule)
    (own l.invariant c.requires.1 c.loop-test.true c.rule_ends-default.ensures) in (
      w.0,
      subst (λ x. l.to + length x ≤ length l.out) (sym w.1)
          (room_next new_rule_bytes rs i no_rule less (l.invariant.1 rs c.requires.1).1 (room rs a.at a.out.now c.requires.2)),
    )

pub loop-preserved : goal.loop-preserved
loop-preserved c =
    let l = c.loop in
    let a = c.args in
    let i = l.counter in
    let ends = c.rule_ends-default.result in (
      written-length c.put_rule-to.ensures ∙ l.invariant.0,
      λ rs w.
          let known = l.invariant.1 rs w in
          let less : i < length rs = omega (arith, c.loop-test.true, w.count) in
          let here = own l.invariant w c.loop-test.true c.rule_ends-default.ensures in
          let bytes = (stretches-split a.rules.now l.place ends (get_or rs i no_rule) here).1 in (
            rule-next a.rules.now a.count rs l.place i known.0 c.loop-test.true ends c.rule_ends-default.ensures,
            written_next new_rule_bytes rs i no_rule less known.1 (written_is bytes c.put_rule-to.ensures),
          ),
    )

pub returns : goal.returns
returns c rs w =
    let l = c.loop in
    written_is (sym (flat_map-flat_map encode_rule split rs))
    (written_all new_rule_bytes rs l.counter (omega (arith, c.loop-test.false, w.count)) (l.invariant.1 rs w).1)
