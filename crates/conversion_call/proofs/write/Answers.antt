-- `conversion_call::write` meets its contract: the new deck is made, and copied if it fits. Assumes nothing.
use Prim.Native.Nat.{ℕ, ◌≤◌, zero-le}
use mathlib.Core.Path.{◌≡◌, sym, ap, subst}
use native.Mathlib.Omega.{arith}
use lib.ListN.{length, replicate, length-replicate}
use Rattle.std.proofs.Common.{Err}
use Rattle.deck.specs.Encoding.{encode}
use Rattle.passing.specs.Tabled.{deck_of}
use Rattle.conversion.specs.Converted.{converted}
use Rattle.conversion.specs.Conversion.{convert_outcome}
use Rattle.conversion_bytes.specs.Laws.Written.{written-length, written_is, written-front, written-stretch}
use Rattle.conversion_call.specs.Laws.Answers.{new-length, convert-short, convert-wrote}
use Rattle.conversion_call.proofs.write.Goals as goal

-- where the new deck is made
room-long : length {A = ℕ} (replicate 25987 0) ≡ 25987
room-long = let none : ℕ = 0 in length-replicate 25987 none

pub write-length-requires : goal.write-length-requires
write-length-requires c =
    let d = deck_of c.args.deck.now in
    let fits = new-length c.args.deck.now c.args.buffer.now c.args.counts c.requires.0 c.requires.2 in
    (d, c.requires.0.encodes, c.requires.1, subst (λ n. length (encode (converted d)) ≤ n) (sym room-long) fits)

pub returns-then-length-buffer : goal.returns-then-length-buffer
returns-then-length-buffer c =
    let made = c.write-length.ensures (deck_of c.args.deck.now) c.requires.0.encodes in
    convert-short c.args.deck.now c.args.buffer.now c.args.counts c.requires.0 c.requires.2
    (ap (λ d. convert_outcome (Err d)) c.unplaced.ensures)
    (omega (arith, c.if-length-buffer.true, made.ends))

pub copy-end-requires : goal.copy-end-requires
copy-end-requires c =
    let made = c.write-length.ensures (deck_of c.args.deck.now) c.requires.0.encodes in
    let fits = new-length c.args.deck.now c.args.buffer.now c.args.counts c.requires.0 c.requires.2 in (
      zero-le,
      omega (arith, fits, made.ends, written-length made, room-long),
      omega (arith, c.if-length-buffer.false),
    )

pub overflow_cast-result : goal.overflow_cast-result
overflow_cast-result c =
    let made = c.write-length.ensures (deck_of c.args.deck.now) c.requires.0.encodes in
    let copied = written_is (written-stretch made) c.copy-end.ensures in
    let fits = new-length c.args.deck.now c.args.buffer.now c.args.counts c.requires.0 c.requires.2 in
    record { fits = omega (arith, copied.ends, fits) }

pub returns : goal.returns
returns c =
    let made = c.write-length.ensures (deck_of c.args.deck.now) c.requires.0.encodes in
    let copied = written_is (written-stretch made) c.copy-end.ensures in
    convert-wrote c.args.deck.now c.args.buffer.now c.args.counts c.requires.0 c.requires.2 _ _
    (omega (arith, copied.ends)) (omega (arith, copied.fits)) (written-front copied)
