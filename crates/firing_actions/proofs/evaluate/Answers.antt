-- `firing_actions::evaluate` meets its contract. An action of one assignment is evaluated by `evaluate_one`. The loop's invariant: i
-- assignments of the action are written, and the others stand at `place`. Assumes nothing.
use mathlib.Core.Path.{sym}
use native.Mathlib.Omega.{arith}
use lib.ListN.{length}
use Rattle.std.proofs.Common.{rules}
use Rattle.expression.specs.Answers.{scope}
use Rattle.deck.specs.Deck.{Action}
use Rattle.firing.proofs.Laws.Lined.{ActionStands}
use Rattle.firing.proofs.Laws.Written.{Turn}
use Rattle.firing_actions.proofs.Rows.{Reading, stands-there, row-begun, row-turn, row-turned, row-ended}
use Rattle.firing_actions.proofs.evaluate.Goals as goal
use Rattle.firing_actions.proofs.evaluate.Goals.{Start, In-loop-i}

-- what stands at the offset
there : (s : Start) → let x = s.args in ActionStands (scope (length x.own.now) (length x.far.now)) x.deck.now x.at s.requires.0.0
there s = let x = s.args in stands-there x.own.now x.far.now x.deck.now x.at s.requires.0.0 s.requires.0.1

-- the turn that comes next, of each reading of the action
turn-of : (k : In-loop-i) (a : Action) → let x = k.args in Reading x.own.now x.far.now x.deck.now x.at a
    → let l = k.loop-i in Turn x.own.now x.far.now x.part x.deck.now a l.row l.place l.i
turn-of k a r =
    let x = k.args in
    let l = k.loop-i in
    row-turn x.own.now x.far.now x.deck.now x.at a r x.part l.row l.place l.i (l.invariant.2 a r)
    (omega (arith, l.invariant.1, k.loop-i-test.true))

turn : (k : In-loop-i) → let x = k.args in let l = k.loop-i in Turn x.own.now x.far.now x.part x.deck.now k.requires.0.0 l.row l.place l.i
turn k = turn-of k k.requires.0.0 k.requires.0.1

pub bounds-deck-at : goal.bounds-deck-at
bounds-deck-at c = omega (arith, (there (goal.at.bounds-deck-at c).Start).inside)

pub overflow_add-place : goal.overflow_add-place
overflow_add-place c = omega (arith, (there (goal.at.overflow_add-place c).Start).inside)

pub loop-i-init : goal.loop-i-init
loop-i-init c =
    let x = c.args in
    let h = there (goal.at.loop-i-init c).Start in (
      omega (arith, h.few, h.count, c.from-count.ensures),
      c.from-count.ensures,
      λ a r. row-begun x.own.now x.far.now x.deck.now x.at a r x.part _ c.requires.1 (sym c.from-count.ensures),
    )

pub bounds-deck-place : goal.bounds-deck-place
bounds-deck-place c = omega (arith, (turn (goal.at.bounds-deck-place c).In-loop-i).inside)

pub number_from-value-requires : goal.number_from-value-requires
number_from-value-requires c = let t = turn (goal.at.number_from-value-requires c).In-loop-i in (t.one.value, t.value)

pub bounds-deck-place-in-loop-i : goal.bounds-deck-place-in-loop-i
bounds-deck-place-in-loop-i c = omega (arith, (turn (goal.at.bounds-deck-place-in-loop-i c).In-loop-i).value.inside)

pub overflow_add-place-in-loop-i : goal.overflow_add-place-in-loop-i
overflow_add-place-in-loop-i c = omega (arith, (turn (goal.at.overflow_add-place-in-loop-i c).In-loop-i).inside)

pub overflow_add-place-in-loop-i-2 : goal.overflow_add-place-in-loop-i-2
overflow_add-place-in-loop-i-2 c = omega (arith, (turn (goal.at.overflow_add-place-in-loop-i-2 c).In-loop-i).inside)

pub overflow_add-place-in-loop-i-4 : goal.overflow_add-place-in-loop-i-4
overflow_add-place-in-loop-i-4 c =
    omega (arith, (turn (goal.at.overflow_add-place-in-loop-i-4 c).In-loop-i).value.ends, c.from.ensures)

pub loop-i-preserved : goal.loop-i-preserved
loop-i-preserved c =
    let value = c.number_from-value in
    let l = c.loop-i in
    let x = c.args in
    let k = (goal.at.loop-i-preserved c).In-loop-i in (
      l.invariant.0,
      l.invariant.1,
      λ a r.
          row-turned x.own.now x.far.now x.part x.deck.now a l.row l.place l.i c.from-target.result value.result c.from.result
          (turn-of k a r) c.from-target.ensures (search rules) value.type_inv value.ensures c.from.ensures,
    )

pub returns : goal.returns
returns c a r =
    let l = c.loop-i in
    let x = c.args in
    row-ended x.own.now x.far.now x.deck.now x.at a r x.part l.row l.place l.i
    (l.invariant.2 a r) (omega (arith, l.invariant.1, c.loop-i-test.false))
