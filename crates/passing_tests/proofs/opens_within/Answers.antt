-- `passing_tests::opens_within` meets its contract: the limit's truth on the opening values of the part alone. Assumes nothing.
use Prim.Native.Nat.{◌+◌, ◌*◌}
use mathlib.Core.Path.{◌≡◌, refl, ap, ◌∙◌}
use mathlib.Core.List.{[]}
use native.Mathlib.Omega.{arith}
use lib.ListN.{length, get_or}
use Rattle.expression.specs.Reading.{whole_truth}
use Rattle.expression.specs.Answers.{scope, truth_in}
use Rattle.deck.specs.Deck.{part_at}
use Rattle.passing.specs.Stands.{Stands, stretch}
use Rattle.passing.specs.Tabled.{deck_of}
use Rattle.passing.proofs.Laws.Opening.{opening-length, known-part, opening-stands, alone-length, alone-opening}
use Rattle.passing.proofs.Laws.Limits.{limit-stands, opens-value}
use Rattle.passing_tests.proofs.opens_within.Goals as goal

pub open_part-requires : goal.open_part-requires
open_part-requires c =
    let a = c.args in
    let k = c.requires.0.counts in (
      omega (arith, k.channels, k.formed.channels),
      (opening-stands a.rig.now.deck.now a.rig.now.counts a.rig.now.parts.now c.requires.0 a.p c.requires.1).1,
    )

-- the row that is lent to the evaluator
row-long : (c : goal.After-row-3-1) → length c.open_part.new.stretch ≡ 32
row-long c =
    let a = c.args in
    alone-length a.rig.now.deck.now a.rig.now.counts a.rig.now.parts.now c.requires.0 a.p c.requires.1 _ c.open_part.new.stretch refl
    c.open_part.ensures

row-opening : (c : goal.After-row-3-1)
    → let a = c.args in
    stretch c.open_part.new.stretch 0 a.rig.now.counts.channels ≡ (part_at (deck_of a.rig.now.deck.now) a.p).opening
row-opening c =
    let a = c.args in
    alone-opening a.rig.now.deck.now a.rig.now.counts a.rig.now.parts.now c.requires.0 a.p c.requires.1 _ c.open_part.new.stretch refl
    c.open_part.ensures

row-opening-2 : (c : goal.After-truth_from)
    → let a = c.args in
    stretch c.open_part.new.stretch 0 a.rig.now.counts.channels ≡ (part_at (deck_of a.rig.now.deck.now) a.p).opening
row-opening-2 c =
    let a = c.args in
    alone-opening a.rig.now.deck.now a.rig.now.counts a.rig.now.parts.now c.requires.0 a.p c.requires.1 _ c.open_part.new.stretch refl
    c.open_part.ensures

-- its limit stands there, for as many channels
limit-there : (c : goal.After-row-3-1)
    → let a = c.args in
    Stands (whole_truth (scope (length (stretch c.open_part.new.stretch 0 a.rig.now.counts.channels)) 0)) a.rig.now.deck.now
    (get_or a.rig.now.parts.now (4 * a.p + 2) 0)
    (part_at (deck_of a.rig.now.deck.now) a.p).limit
limit-there c =
    let a = c.args in
    let d = deck_of a.rig.now.deck.now in
    let lp = known-part a.rig.now.deck.now a.rig.now.counts a.rig.now.parts.now c.requires.0 a.p c.requires.1 in
    limit-stands a.rig.now.deck.now a.rig.now.parts.now d a.p c.requires.0.table lp
    (stretch c.open_part.new.stretch 0 a.rig.now.counts.channels)
    (ap length (row-opening c) ∙ opening-length d c.requires.0.counts.formed a.p lp)

-- its limit stands there, for as many channels
limit-there-2 : (c : goal.After-truth_from)
    → let a = c.args in
    Stands (whole_truth (scope (length (stretch c.open_part.new.stretch 0 a.rig.now.counts.channels)) 0)) a.rig.now.deck.now
    (get_or a.rig.now.parts.now (4 * a.p + 2) 0)
    (part_at (deck_of a.rig.now.deck.now) a.p).limit
limit-there-2 c =
    let a = c.args in
    let d = deck_of a.rig.now.deck.now in
    let lp = known-part a.rig.now.deck.now a.rig.now.counts a.rig.now.parts.now c.requires.0 a.p c.requires.1 in
    limit-stands a.rig.now.deck.now a.rig.now.parts.now d a.p c.requires.0.table lp
    (stretch c.open_part.new.stretch 0 a.rig.now.counts.channels)
    (ap length (row-opening-2 c) ∙ opening-length d c.requires.0.counts.formed a.p lp)

pub truth_from-requires : goal.truth_from-requires
truth_from-requires c =
    let k = c.requires.0.counts in (
      omega (arith, row-long c, k.channels, k.formed.channels),
      omega arith,
      ((part_at (deck_of c.args.rig.now.deck.now) c.args.p).limit, limit-there c),
    )

pub returns : goal.returns
returns c =
    let a = c.args in
    let d = deck_of a.rig.now.deck.now in
    let k = c.requires.0.counts in
    c.truth_from.ensures (part_at d a.p).limit (limit-there-2 c)
    ∙ ap (λ l. truth_in l [] (part_at d a.p).limit) (row-opening-2 c)
    ∙ opens-value d a.p k.scoped k.formed (known-part a.rig.now.deck.now a.rig.now.counts a.rig.now.parts.now c.requires.0 a.p c.requires.1)
