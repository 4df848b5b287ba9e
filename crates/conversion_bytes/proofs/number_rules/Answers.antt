-- `conversion_bytes::number_rules` meets its contract. The loop's invariant: i rules end at the place, and the numbers up to i are noted.
-- Assumes nothing.
use Prim.Native.Nat.{◌+◌, ◌<◌}
use mathlib.Core.Path.{sym, ap, ◌∙◌}
use native.Mathlib.Omega.{arith}
use lib.ListN.{length, get_or, length-set}
use lib.Seq.{get_or-set_same}
use Rattle.deck.specs.Encoding.{encode_rule}
use Rattle.conversion.proofs.Laws.Renumbering.{no_rule}
use Rattle.conversion_bytes.specs.Pieces.{becomes}
use Rattle.conversion_bytes.specs.Laws.Stands.{walked_none}
use Rattle.conversion_bytes.specs.Laws.Rules.{rule-here, rule-stretched, rule-next}
use Rattle.conversion_bytes.specs.Laws.Rules.{split-size, becomes-few, sums_none, sums_next}
use Rattle.conversion_bytes.proofs.number_rules.Goals as goal

pub loop-i-init : goal.loop-i-init
loop-i-init c =
    let a = c.args in (
      omega (arith, get_or-set_same a.numbers.now 0 0 0 (omega (arith, c.requires.0))),
      length-set a.numbers.now 0 0 ∙ c.requires.0,
      λ rs w. (walked_none encode_rule a.rules.now 0 a.count rs w, sums_none rs a.numbers.now c.requires.0),
    )

pub rule_ends-ends-requires : goal.rule_ends-ends-requires
rule_ends-ends-requires c =
    let l = c.loop-i in
    let rs = c.requires.2.0 in
    let w = (l.invariant.2 rs c.requires.2.1).0 in
    (get_or rs l.i no_rule, rule-here c.args.rules.now c.args.count rs l.place l.i w c.loop-i-test.true)

pub bounds-rules-ends : goal.bounds-rules-ends
bounds-rules-ends c =
    let l = c.loop-i in
    let rs = c.requires.2.0 in
    let w = (l.invariant.2 rs c.requires.2.1).0 in
    let here = rule-stretched c.args.rules.now c.args.count rs l.place l.i w c.loop-i-test.true c.rule_ends-ends.result
    c.rule_ends-ends.ensures in
    omega (arith, here.order)

pub overflow_add-numbers : goal.overflow_add-numbers
overflow_add-numbers c =
    let more = becomes-few (get_or c.args.rules.now c.rule_ends-ends.result.default 0) in
    omega (arith, c.requires.1, c.loop-i-test.true, c.loop-i.invariant.0, c.rules_of.ensures, more)

pub loop-i-preserved : goal.loop-i-preserved
loop-i-preserved c =
    let l = c.loop-i in
    let a = c.args in
    let few = becomes-few (get_or a.rules.now c.rule_ends-ends.result.default 0) in
    let more = c.rules_of.result in
    let new = get_or l.numbers l.i 0 + more in
    let room : l.i < 64 = omega (arith, c.requires.1, c.loop-i-test.true) in (
      omega (arith, l.invariant.0, c.rules_of.ensures, few, get_or-set_same l.numbers (l.i + 1) new 0 (omega (arith, room, l.invariant.1))),
      length-set l.numbers (l.i + 1) new ∙ l.invariant.1,
      λ rs w.
          let known = l.invariant.2 rs w in
          let less : l.i < length rs = omega (arith, c.loop-i-test.true, w.count) in
          let here = rule-stretched a.rules.now a.count rs l.place l.i known.0 c.loop-i-test.true c.rule_ends-ends.result
          c.rule_ends-ends.ensures in (
            rule-next a.rules.now a.count rs l.place l.i known.0 c.loop-i-test.true c.rule_ends-ends.result c.rule_ends-ends.ensures,
            sums_next rs l.i l.numbers more less room known.1
                (c.rules_of.ensures ∙ ap becomes here.count ∙ sym (split-size (get_or rs l.i no_rule))),
          ),
    )

pub returns : goal.returns
returns c rs w =
    let known = (c.loop-i.invariant.2 rs w).1 in
    record { size = known.size; at = λ r h. known.at r (omega (arith, c.loop-i-test.false)) }
