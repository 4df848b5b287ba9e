-- `firing_actions::changed_by` meets its contract. The loop's invariant: the pairs before i are compared. Assumes nothing.
use Prim.Native.Nat.{ℕ, ◌+◌, ◌*◌, ◌%◌, ◌^◌, ◌≤◌, ◌<◌}
use mathlib.Core.Path.{◌≡◌, sym, ap, ◌∙◌, subst}
use mathlib.Core.List.{List}
use native.Mathlib.Omega.{arith}
use lib.Bits.{bit_or}
use lib.ListN.{length, get_or, set}
use lib.IntN.{ℤ, pos, nat_abs}
use lib.Signed.{mag}
use mir.Syntax.{w32}
use mir.Val.{to_z, of_z}
use mir.ValLaws.{to_z-of_z}
use Rattle.std.proofs.Common.{rules}
use Rattle.lists.specs.Laws.Bits.{bit_shifted}
use Rattle.pool.specs.Updates.{updates}
use Rattle.firing.proofs.Laws.Pairs.{Comparing, comparing-none, comparing-other, comparing-same, compared, unequal, equal}
use Rattle.firing_actions.proofs.Bits.{bits-same}
use Rattle.firing_actions.proofs.Naturals.{back-small, pair-there, pair-low, index_is}
use Rattle.firing_actions.proofs.changed_by.Goals as goal
use Rattle.firing_actions.proofs.changed_by.Goals.{then-old-new, else-old-new}

pub loop-i-init : goal.loop-i-init
loop-i-init c = comparing-none c.args.part c.args.pairs.now c.args.values.now c.args.back.now

pub overflow_cast-c : goal.overflow_cast-c
overflow_cast-c c = pair-there c.args.pairs.now c.loop-i.i c.requires.2 (omega arith)

pub bounds-values-part : goal.bounds-values-part
bounds-values-part c = omega (arith, pair-low c.args.pairs.now c.loop-i.i c.requires.2 (omega arith))

pub overflow_shl-mask : goal.overflow_shl-mask
overflow_shl-mask c = omega (arith, pair-low c.args.pairs.now c.loop-i.i c.requires.2 (omega arith))

pub loop-i-preserved : goal.loop-i-preserved
unfolding updates
loop-i-preserved c =
    let a = c.args in
    let i = c.loop-i.i in
    let h = c.requires.2 i (omega arith) in
    let number = get_or a.pairs.now (2 * i) (pos 0) in
    let old = get_or a.values.now (32 * a.part + h.0) (pos 0) in
    let new = get_or a.pairs.now (2 * i + 1) (pos 0) in
    let room : length a.pairs.now ≤ length c.loop-i.back = omega (arith, c.loop-i.auto.back, c.requires.4) in
    let same = index_is number h.0 h.1 (omega (arith, h.2)) in
    let bits = ap (λ n. of_z w32 (get_or a.values.now (32 * a.part + n) (pos 0))) same in
    let given : mag old < 2 ^ 31 = search rules in
    let shifted : bit_or c.loop-i.mask (1 * 2 ^ nat_abs (to_z w32 (of_z w32 number)) % 2 ^ 64) ≡ bit_or c.loop-i.mask (2 ^ h.0) =
    ap (bit_or c.loop-i.mask) (ap (λ n. 1 * 2 ^ n % 2 ^ 64) same ∙ bit_shifted 64 h.0 (omega (arith, h.2))) in
    let next : List ℤ = set (set c.loop-i.back (2 * i) (pos h.0)) (2 * i + 1) old in
    let compared-as : ℕ → Type 0 = λ m. Comparing a.part a.pairs.now a.values.now next m (i + 1) in
    let other : c.if-old-new.mask ≡ bit_or c.loop-i.mask (2 ^ h.0) → (of_z w32 old ≡ of_z w32 new → ⊥) → compared-as c.if-old-new.mask =
    λ m t. subst compared-as (sym m)
    (comparing-other a.part a.pairs.now a.values.now (omega arith) room h.1 c.loop-i.invariant
    (unequal old new (λ e. t (ap (of_z w32) e)))) in
    let alike : c.if-old-new.mask ≡ c.loop-i.mask → of_z w32 old ≡ of_z w32 new → compared-as c.if-old-new.mask =
    λ m t. subst compared-as (sym m)
    (comparing-same a.part a.pairs.now a.values.now (omega arith) room h.1 c.loop-i.invariant
    (equal old new (bits-same old new given (search rules) t))) in
    rw (same, to_z-of_z w32 old (record { sfits = given }), back-small number h.0 h.1 (omega (arith, h.2)))
    (elim c.if-old-new.branch [
      | then-old-new w ↦ other (w.mask-is ∙ shifted) (λ e. w.if-old-new.true (bits ∙ e))
      | else-old-new w ↦ alike w.mask-is (sym bits ∙ w.if-old-new.false)
    ])

pub returns : goal.returns
returns c =
    compared c.args.part c.args.pairs.now c.args.values.now c.loop-i.back c.loop-i.mask c.loop-i.i c.requires.3
    (omega arith) c.requires.2 c.loop-i.invariant
