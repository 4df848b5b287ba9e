-- `decimal::put_digits` meets its contract. Assumes nothing.
use Prim.Native.Nat.{◌+◌, ◌/◌, ◌%◌}
use mathlib.Core.Path.{ap}
use mathlib.Core.List.{[], ◌∷◌}
use native.Mathlib.Omega.{arith}
use lib.ListN.{length, length-append}
use Rattle.decimal.specs.Digits.{digits}
use Rattle.decimal.specs.Laws.{put-more, digits-one, digits_more}
use Rattle.decimal.proofs.+put_digits.Goals as goal

pub put_byte-requires : goal.put_byte-requires
put_byte-requires t c = omega (arith, c.requires, ap length (digits-one c.args.n c.if-n-lt10.true))

pub returns-then-n-lt10 : goal.returns-then-n-lt10
returns-then-n-lt10 t c = rw (digits-one c.args.n c.if-n-lt10.true) c.put_byte.ensures

pub put_digits-next-requires : goal.put_digits-next-requires
put_digits-next-requires t c =
    let more = digits_more c.args.n c.if-n-lt10.false in (
      omega (arith, c.decreases, c.if-n-lt10.false),
      omega (
        arith,
        c.requires,
        ap length more,
        length-append (digits (c.args.n / 10) (c.args.n / 10)) ((48 + c.args.n % 10) ∷ []),
      ),
    )

pub put_byte-requires-2 : goal.put_byte-requires-2
put_byte-requires-2 t c =
    let more = digits_more c.args.n c.if-n-lt10.false in
    omega (
      arith,
      c.requires,
      c.put_digits-next.ensures.ends,
      c.put_digits-next.auto.out,
      ap length more,
      length-append (digits (c.args.n / 10) (c.args.n / 10)) ((48 + c.args.n % 10) ∷ []),
    )

pub returns : goal.returns
returns t c = rw (digits_more c.args.n c.if-n-lt10.false) (put-more c.put_digits-next.ensures c.put_byte-2.ensures)
