-- `pool_states::channels_fit` meets its contract. The loop's invariant: the answer for the pairs from number i on, with the
-- channels passed as a set, is the answer for all, and with their channels the set is that of all. Assumes nothing.
use Prim.Native.Nat.{◌+◌, ◌*◌, ◌-◌}
use mathlib.Core.Path.{sym, ap, ◌∙◌}
use native.Mathlib.Omega.{arith}
use lib.ListN.{drop}
use lib.Bits.{bit_or}
use Rattle.lists.specs.Bits.{mask_from}
use Rattle.lists.specs.Laws.Bits.{bit_shifted}
use Rattle.lists.specs.Laws.BitTests.{bit-yes, bit-no}
use Rattle.pool_states.specs.Fits.{channels_of, channels_fit}
use Rattle.pool_states.proofs.Turns.{fit-start, fit_next, fit_wide, fit-twice, fit-end, set-start, set_next, set-end}
use Rattle.pool_states.proofs.channels_fit.Goals as goal

pub loop-i-init : goal.loop-i-init
loop-i-init c = let s = c.args in (fit-start s.channels s.count s.place.now, set-start s.count s.place.now)

pub returns-in_err-c : goal.returns-in_err-c
returns-in_err-c c =
    let s = c.args in
    let i = c.loop-i in
    let e = c.in_err-c.ensures in
    let wide = fit_wide s.channels i.mask s.count i.i s.channels s.place.now (sym e) (omega arith) (omega arith) (omega arith) in
    rw c.from_residual.ensures (sym i.invariant.0 ∙ wide)

pub returns-then-mask-c-eq1 : goal.returns-then-mask-c-eq1
returns-then-mask-c-eq1 c =
    let s = c.args in
    let i = c.loop-i in
    let n = c.in_ok-c in
    sym i.invariant.0
    ∙ fit-twice s.channels i.mask s.count i.i n.c s.place.now n.ensures.0 (omega arith) (omega arith)
    (bit-yes i.mask n.c c.if-mask-c-eq1.true)

pub loop-i-preserved : goal.loop-i-preserved
loop-i-preserved c =
    let s = c.args in
    let i = c.loop-i in
    let n = c.in_ok-c in
    let small = n.ensures.1 in
    let next = fit_next s.channels i.mask s.count i.i n.c s.place.now n.ensures.0 (omega arith) (omega arith)
    small (bit-no i.mask n.c c.if-mask-c-eq1.false) in
    let more = set_next s.channels i.mask s.count i.i n.c s.place.now n.ensures.0 (omega arith) (omega arith) small in
    let one = bit_shifted 64 n.c (omega (arith, small)) in (
      ap (λ m. channels_fit s.channels (bit_or i.mask m) (s.count - (i.i + 1)) (drop (2 + 2 * (i.i + 1)) s.place.now)) one
          ∙ sym next ∙ i.invariant.0,
      ap (λ m. mask_from (bit_or i.mask m) (channels_of (s.count - (i.i + 1)) (drop (2 + 2 * (i.i + 1)) s.place.now))) one
          ∙ sym more ∙ i.invariant.1,
    )

pub returns : goal.returns
returns c =
    let s = c.args in
    let i = c.loop-i in
    let t = drop (2 + 2 * i.i) s.place.now in (
      sym i.invariant.0 ∙ fit-end s.channels i.mask s.count i.i t (omega arith),
      sym (set-end i.mask s.count i.i t (omega arith)) ∙ i.invariant.1,
    )
