-- `calls_input::good_input` meets its contract. The loop's invariant: the answer for the pairs from number i on, with the channels
-- passed as a set, is the answer for all. Assumes nothing.
use Prim.Native.Nat.{◌+◌, ◌*◌, ◌-◌, ◌/◌}
use mathlib.Core.Path.{refl, sym, ap, ◌∙◌}
use native.Mathlib.Omega.{arith}
use lib.ListN.{length, drop}
use lib.Bits.{bit_or}
use Rattle.lists.specs.Laws.Bits.{bit_shifted}
use Rattle.lists.specs.Laws.BitTests.{bit-yes, bit-no}
use Rattle.pool_states.specs.Fits.{channels_fit}
use Rattle.calls_input.specs.Laws.InputTests.{input-short, input-long, input-odd, input_fit, pairs_start, pairs_end}
use Rattle.calls_input.specs.Laws.InputTests.{pair-next, pair-unknown, pair-twice}
use Rattle.calls_input.proofs.good_input.Goals as goal
use Rattle.calls_input.proofs.good_input.Goals.{then-n-lt2-via-then-n-lt2, then-n-lt2-via-else-n-lt2+then-n}
use Rattle.calls_input.proofs.good_input.Goals.{then-n-lt2-via-else-n-lt2+else-n+then-n-ne0}

pub returns-then-n-lt2 : goal.returns-then-n-lt2
returns-then-n-lt2 c d e =
    elim c.then-n-lt2.branch [
      | then-n-lt2-via-then-n-lt2 w ↦ input-short d _ w.if-n-lt2.true
      | then-n-lt2-via-else-n-lt2+then-n w ↦ input-long d _ w.if-n.true
      | then-n-lt2-via-else-n-lt2+else-n+then-n-ne0 w ↦ input-odd d _ w.if-n-lt2.false w.if-n.false w.if-n-ne0.true
    ]

pub loop-i-init : goal.loop-i-init
loop-i-init c = let s = c.args in pairs_start s.channels _ s.pairs.now

pub returns-in_default : goal.returns-in_default
returns-in_default c d e =
    let s = c.args in
    let l = c.loop-i in
    let unknown = pair-unknown s.channels l.seen (length s.pairs.now / 2) l.i _ s.pairs.now refl c.loop-i-test.true (omega arith)
    (omega (arith, c.in_default.ensures)) in
    sym (sym l.invariant ∙ unknown) ∙ input_fit d s.pairs.now c.if-n-lt2.false c.if-n.false c.if-n-ne0.false _ e

pub returns-then-seen-c-eq1 : goal.returns-then-seen-c-eq1
returns-then-seen-c-eq1 c d e =
    let s = c.args in
    let l = c.loop-i in
    let n = c.in-Some in
    let twice = pair-twice s.channels l.seen (length s.pairs.now / 2) l.i n.c s.pairs.now n.ensures.0 c.loop-i-test.true (omega arith)
    (bit-yes l.seen n.c c.if-seen-c-eq1.true) in
    sym (sym l.invariant ∙ twice) ∙ input_fit d s.pairs.now c.if-n-lt2.false c.if-n.false c.if-n-ne0.false _ e

pub loop-i-preserved : goal.loop-i-preserved
loop-i-preserved c =
    let s = c.args in
    let l = c.loop-i in
    let n = c.in-Some in
    let count = length s.pairs.now / 2 in
    let next = l.i + 1 in
    let turn = pair-next s.channels l.seen count l.i n.c s.pairs.now n.ensures.0 c.loop-i-test.true (omega arith) n.ensures.1
    (bit-no l.seen n.c c.if-seen-c-eq1.false) in
    let one = bit_shifted 64 n.c (omega (arith, n.ensures.1)) in
    ap (λ m. channels_fit s.channels (bit_or l.seen m) (count - next) (drop (2 * next) s.pairs.now)) one ∙ sym turn ∙ l.invariant

pub returns : goal.returns
returns c d e =
    let s = c.args in
    let l = c.loop-i in
    let end = pairs_end s.channels l.seen (length s.pairs.now / 2) l.i (drop (2 * l.i) s.pairs.now) c.loop-i-test.false in
    sym (sym l.invariant ∙ end) ∙ input_fit d s.pairs.now c.if-n-lt2.false c.if-n.false c.if-n-ne0.false _ e
