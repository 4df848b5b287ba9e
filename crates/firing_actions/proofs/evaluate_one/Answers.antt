-- `firing_actions::evaluate_one` meets its contract: the part, the count, and the one turn. Assumes nothing.
use Prim.Native.Nat.{ℕ, ◌+◌}
use mathlib.Core.Path.{◌≡◌, refl}
use mathlib.Core.List.{List}
use native.Mathlib.Omega.{arith}
use lib.ListN.{set, replicate}
use lib.IntN.{ℤ, pos}
use mir.Syntax.{w32}
use mir.Val.{to_z}
use Rattle.std.proofs.Common.{rules}
use Rattle.deck.specs.Deck.{Action}
use Rattle.firing.proofs.Laws.Written.{Turn}
use Rattle.firing_actions.proofs.Rows.{Reading, row-begun, row-turn, row-turned, row-ended}
use Rattle.firing_actions.proofs.evaluate_one.Goals as goal
use Rattle.firing_actions.proofs.evaluate_one.Goals.{Start}

-- the row before the turn
abbrev begun : Start → List ℤ
begun s = set (set (replicate 10 (pos 0)) 0 (to_z w32 s.args.part)) 1 (to_z w32 1)

-- the turn, of each reading of the action
turn-of : (s : Start) (a : Action) → let x = s.args in Reading x.own.now x.far.now x.deck.now x.at a
    → Turn x.own.now x.far.now x.part x.deck.now a (begun s) (x.at + 1) 0
turn-of s a r =
    let x = s.args in
    row-turn x.own.now x.far.now x.deck.now x.at a r x.part (begun s) (x.at + 1) 0
    (row-begun x.own.now x.far.now x.deck.now x.at a r x.part 1 s.requires.1 s.requires.2)
    (omega (arith, s.requires.2))

turn : (s : Start) → let x = s.args in Turn x.own.now x.far.now x.part x.deck.now s.requires.0.0 (begun s) (x.at + 1) 0
turn s = turn-of s s.requires.0.0 s.requires.0.1

-- its number stands behind the count and the target
behind : (at : ℕ) → at + 1 + 1 ≡ at + 2
behind at = omega arith

pub number_from-value-requires : goal.number_from-value-requires
number_from-value-requires c =
    let t = turn (goal.at.number_from-value-requires c).Start in
    (t.one.value, rw (behind c.args.at) at t.value)

pub bounds-deck-at : goal.bounds-deck-at
bounds-deck-at c = omega (arith, (turn (goal.at.bounds-deck-at c).Start).inside)

pub returns : goal.returns
returns c a r =
    let value = c.number_from-value in
    let x = c.args in
    let s = (goal.at.returns c).Start in
    row-ended x.own.now x.far.now x.deck.now x.at a r x.part _ _ 1
    (row-turned x.own.now x.far.now x.part x.deck.now a (begun s) (x.at + 1) 0 c.from.result value.result _
    (turn-of s a r) c.from.ensures (search rules) value.type_inv (rw (behind x.at) value.ensures) refl)
    (omega (arith, c.requires.2))
