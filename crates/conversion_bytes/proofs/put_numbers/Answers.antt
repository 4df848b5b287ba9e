-- `conversion_bytes::put_numbers` meets its contract. The loop's invariant: the numbers up to the present one are written. Assumes nothing.
use Prim.Native.Nat.{◌-◌, ◌<◌}
use mathlib.Core.Path.{◌≡◌, sym, ap}
use native.Mathlib.Omega.{arith}
use lib.ListN.{length}
use Rattle.lists.specs.Lists.{from}
use Rattle.lists.specs.Laws.Below.{from-length}
use Rattle.conversion_bytes.specs.Laws.Written.{written-length, written_is, written-more, written_none, written-set}
use Rattle.conversion_bytes.specs.Laws.Parts.{from-none, from_next}
use Rattle.conversion_bytes.proofs.put_numbers.Goals as goal

pub loop-n-init : goal.loop-n-init
loop-n-init c =
    let a = c.args in (
      omega arith,
      omega arith,
      written_is (sym (from-none a.first)) (written_none a.out.now a.at (omega (arith, c.requires))),
    )

-- there is room for the next number
room : (c : goal.In-loop-n) → c.loop-n.to < length c.loop-n.out
room c =
    let l = c.loop-n in
    let a = c.args in
    omega (
      arith,
      c.requires,
      c.loop-n-test.true,
      l.invariant.2.ends,
      written-length l.invariant.2,
      from-length a.first (l.n - a.first),
      from-length a.first (a.end - a.first),
    )

pub bounds-out-to : goal.bounds-out-to
bounds-out-to c = room c

pub overflow_add-to : goal.overflow_add-to
overflow_add-to c = omega (arith, room c)

pub loop-n-preserved : goal.loop-n-preserved
loop-n-preserved c =
    let a = c.args in
    let l = c.loop-n in (
      omega arith,
      omega (arith, c.loop-n-test.true),
      written_is (sym (from_next a.first l.n l.invariant.0)) (written-more l.invariant.2 (written-set l.out l.to l.n (room c))),
    )

pub returns : goal.returns
returns c =
    let a = c.args in
    let l = c.loop-n in
    let e : l.n - a.first ≡ a.end - a.first = omega (arith, c.loop-n-test.false) in
    written_is (ap (from a.first) e) l.invariant.2
