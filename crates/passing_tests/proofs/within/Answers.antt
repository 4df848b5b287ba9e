-- `passing_tests::within` meets its contract: the limit's truth on the stretch of the part's channels. Assumes nothing.
use Prim.Native.Nat.{◌+◌, ◌*◌, ◌≤◌, ◌<◌}
use mathlib.Core.Path.{◌∙◌}
use native.Mathlib.Omega.{arith}
use native.Mathlib.Nat.{add-sub_cancel_left}
use lib.ListN.{length}
use Rattle.deck.specs.Deck.{R, N, part_at}
use Rattle.passing.specs.Tabled.{deck_of}
use Rattle.passing.proofs.Laws.Limits.{stretch_of, stretch-length, limit-value, limit-stands}
use Rattle.passing_tests.proofs.within.Goals as goal

pub truth_from-requires : goal.truth_from-requires
truth_from-requires c =
    let a = c.args in
    let k = c.requires.0.counts in
    let d = deck_of a.rig.now.deck.now in
    let fits : 32 * a.p + R d ≤ length a.values.now =
    omega (arith, k.channels, k.parts, k.formed.channels, k.formed.parts, c.requires.2, c.requires.1) in
    let lp : a.p < N d = omega (arith, k.parts, c.requires.2) in (
      omega (arith, fits, k.channels),
      omega arith,
      (
        (part_at d a.p).limit,
        rw (
          add-sub_cancel_left,
          k.channels,
        )
            (limit-stands a.rig.now.deck.now a.rig.now.parts.now d a.p c.requires.0.table lp (stretch_of (R d) a.p a.values.now)
            (stretch-length (R d) a.p a.values.now fits)),
      ),
    )

pub returns : goal.returns
returns c =
    let a = c.args in
    let k = c.requires.0.counts in
    let d = deck_of a.rig.now.deck.now in
    let fits : 32 * a.p + R d ≤ length a.values.now =
    omega (arith, k.channels, k.parts, k.formed.channels, k.formed.parts, c.requires.2, c.requires.1) in
    let lp : a.p < N d = omega (arith, k.parts, c.requires.2) in
    let value = rw (add-sub_cancel_left, k.channels) at c.truth_from.ensures in
    value (part_at d a.p).limit
    (limit-stands a.rig.now.deck.now a.rig.now.parts.now d a.p c.requires.0.table lp (stretch_of (R d) a.p a.values.now)
    (stretch-length (R d) a.p a.values.now fits))
    ∙ limit-value d a.p a.values.now k.scoped fits
