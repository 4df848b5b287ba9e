-- `conversion_bytes::put_carried` meets its contract. The loop's invariant: the new numbers of so many rules are written. Assumes nothing.
use Prim.Native.Nat.{◌+◌, ◌≤◌}
use mathlib.Core.Path.{sym, ap, subst}
use native.Mathlib.Omega.{arith}
use lib.ListN.{length}
use Rattle.conversion_bytes.specs.Pieces.{renewed}
use Rattle.conversion_bytes.specs.Laws.Written.{written_is, written-first, written_next, written_all, room_next}
use Rattle.conversion_bytes.proofs.put_carried.Goals as goal

pub loop-rule-init : goal.loop-rule-init
loop-rule-init c =
    let a = c.args in
    written-first (renewed a.numbers.now) a.carried.now a.out.now a.at (omega (arith, c.requires.1))

pub put_numbers-to-requires : goal.put_numbers-to-requires
unfolding renewed
put_numbers-to-requires c =
    let l = c.loop-rule in
    let a = c.args in
    subst (λ r. l.to + length (renewed a.numbers.now r) ≤ length l.out) (sym c.from-r.ensures)
    (room_next (renewed a.numbers.now) a.carried.now l.rule-index 0 c.loop-rule-test.true l.invariant c.requires.1)

pub loop-rule-preserved : goal.loop-rule-preserved
unfolding renewed
loop-rule-preserved c =
    let l = c.loop-rule in
    let a = c.args in
    written_next (renewed a.numbers.now) a.carried.now l.rule-index 0 c.loop-rule-test.true l.invariant
    (written_is (ap (renewed a.numbers.now) c.from-r.ensures) c.put_numbers-to.ensures)

pub returns : goal.returns
returns c =
    let l = c.loop-rule in
    let a = c.args in
    written_all (renewed a.numbers.now) a.carried.now l.rule-index c.loop-rule-test.false l.invariant
