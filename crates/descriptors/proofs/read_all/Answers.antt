-- What one more read gave stands behind what was read before. Assumes nothing.
use Rattle.std.proofs.Common.{◌≡◌, ℕ, ◌+◌, ◌-◌, ◌≤◌, List, ◌++◌, length, take, drop, arith, sym, ap, ◌∙◌, subst, le_refl, drop_at, length-take-le}
use Rattle.std.proofs.lemmas.Slice.{take-put_mid_below}
use Rattle.std.proofs.KnownBytes.{Consumes-trans}
use Rattle.std.specs.Io.KnownBytes.{Consumes}
use borrow.Rule.Slice.PartMut.{put_mid, post_of}
use lib.Seq.{take-add, take-append-le}
use Rattle.descriptors.proofs.read_all.Goals as goal

filled : (a k n : ℕ) (before part : List ℕ) → a ≤ length before → n ≤ length part
    → take (a + n) (put_mid a k before part) ≡ take a before ++ take n part
filled a k n before part within fits =
    let after = post_of a k before in
    let whole = put_mid a k before part in
    let front = take-put_mid_below a k before part a (le_refl a) within in
    let rest = ap (take n) (drop_at (take a before) (part ++ after) a (length-take-le a before within)) ∙ take-append-le n part after fits in
    take-add a n whole ∙ ap (λ l. l ++ take n (drop a whole)) front ∙ ap (λ l. take a before ++ l) rest

pub loop-done-preserved : goal.loop-done-preserved
loop-done-preserved g c =
    let read = c.in_ok-n.ensures in
    let more = filled c.loop-done.done (length c.loop-done.buf - c.loop-done.done) c.in_ok-n.n c.loop-done.buf c.read_some.new.buf
    c.loop-done.invariant.0 read.within.0 in (
      omega (arith, ap length more, read.within.0),
      subst (Consumes _ _) (sym more) (Consumes-trans _ _ _ _ _ c.loop-done.invariant.1 read.given.0),
    )
