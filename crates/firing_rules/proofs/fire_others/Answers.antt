-- `firing_rules::fire_others` meets its contract. The loop's invariant: the other parts below `to` had their turn. Assumes nothing.
use Prim.Native.Nat.{ℕ}
use mathlib.Core.Path.{ap₂}
use mathlib.Core.List.{List}
use native.Mathlib.Omega.{arith}
use Rattle.deck.specs.Deck.{rule_at}
use Rattle.pool.specs.Updates.{Update}
use Rattle.passing.specs.Tabled.{deck_of}
use Rattle.firing_queue.specs.Queue.{held_of}
use Rattle.firing_queue.specs.Laws.Queue.{offering-next}
use Rattle.firing_rules.specs.Reactions.{adds}
use Rattle.firing_rules.specs.Laws.Turns.{turned_none, turned-pass, turned-fail, offered-came, other, other-so, other-not}
use Rattle.firing_rules.specs.Laws.Turns.{turned-others}
use Rattle.firing_rules.proofs.fire_others.Goals as goal
use Rattle.firing_rules.proofs.fire_others.Goals.{then-to-from, else-to-from, Start}

-- what the rule adds at each part
abbrev given : Start → ℕ → List Update
given s q =
    let a = s.args in
    adds a.values.now a.turn.part q (rule_at (deck_of a.rig.now.deck.now) a.turn.rule)

pub loop-to-init : goal.loop-to-init
loop-to-init c = turned_none (other c.args.turn.part) (given (goal.at.loop-to-init c).Start) c.args.memo.now c.requires.1.ready.memo

pub fire_to-out-requires : goal.fire_to-out-requires
fire_to-out-requires c =
    (c.requires.0, offering-next c.requires.1 c.loop-to.invariant, c.requires.2, c.requires.3, c.loop-to-test.true, c.requires.4)

pub loop-to-preserved : goal.loop-to-preserved
loop-to-preserved c =
    let p = c.args.turn.part in
    let q = c.loop-to.to in
    let g = given (goal.at.loop-to-preserved c).Start in
    elim c.if-to-from.branch [
      | then-to-from w ↦
          offered-came w.memo-is (ap₂ held_of w.index-is w.pool-is) w.out-is
          (turned-pass (other p) g q c.loop-to.invariant (other-so p q w.if-to-from.true) w.fire_to-out.ensures)
      | else-to-from w ↦
          offered-came w.memo-is (ap₂ held_of w.index-is w.pool-is) w.out-is
          (turned-fail (other p) g q c.loop-to.invariant (other-not p q w.if-to-from.false))
    ]

pub returns : goal.returns
returns c =
    turned-others (deck_of c.args.rig.now.deck.now) c.args.turn.part c.loop-to.to (given (goal.at.returns c).Start)
    (omega (arith, c.requires.0.counts.parts, c.loop-to-test.false)) c.loop-to.invariant
