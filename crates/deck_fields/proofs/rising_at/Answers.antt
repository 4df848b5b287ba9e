-- `deck_fields::rising_at` meets its contract. The loop's invariant: i rising numbers were read, all below `low`, and `value` is
-- their set. Assumes nothing.
use Prim.Native.Nat.{◌<◌}
use mathlib.Core.Path.{refl, sym, ap₂, ◌∙◌}
use native.Mathlib.Omega.{arith}
use native.Mathlib.Nat.{sub-zero}
use lib.Bits.{bit_or}
use Rattle.lists.specs.Laws.Bits.{bit_shifted, mask-add, mask-empty}
use Rattle.deck.proofs.Laws.Turns.{turns-none, got-value, kept-below, rising-next, rising-fault, rising-end, hands_on_kept}
use Rattle.deck_fields.proofs.rising_at.Goals as goal

pub loop-init : goal.loop-init
loop-init c = (c.requires.0, rw sub-zero (turns-none (sym ((mask-empty _).1 refl))))

pub returns-in_err-c : goal.returns-in_err-c
returns-in_err-c c =
    hands_on_kept _ _ _ _ _ c.from_residual.ensures.1
    (rising-fault _ _ _ _ c.args.s.now c.loop.next c.loop-test.true c.in_err-c.ensures c.loop.invariant.1)

pub overflow_shl-value : goal.overflow_shl-value
overflow_shl-value c = omega (arith, kept-below _ _ _ _ _ _ c.in_ok-c.ensures, c.requires.1)

pub overflow_add-low : goal.overflow_add-low
overflow_add-low c = omega (arith, kept-below _ _ _ _ _ _ c.in_ok-c.ensures, c.requires.1)

pub loop-preserved : goal.loop-preserved
loop-preserved c =
    let s = c.args.s.now in
    let read = c.in_ok-c.ensures in
    let below : c.in_ok-c.c.value < 64 = omega (arith, kept-below _ _ _ _ _ _ read, c.requires.1) in (
      read.2,
      rising-next _ _ _ _ s c.loop.next c.loop-test.true
          (got-value s c.in_ok-c.c.next c.in_ok-c.c.value read)
          (λ cs e. ap₂ bit_or e (bit_shifted 64 _ below) ∙ sym (mask-add cs _))
          c.loop.invariant.1,
    )

pub returns : goal.returns
returns c = rising-end _ _ _ _ _ _ c.loop-test.false c.loop.invariant.0 c.loop.invariant.1
