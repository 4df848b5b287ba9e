-- `firing_actions::evaluate` meets its contract. An action of one assignment is evaluated by `evaluate_one`. The loop's invariant: i
-- assignments of the action are written, and the others stand at `place`. Assumes nothing.
use Prim.Native.Nat.{◌≤◌}
use mathlib.Core.Path.{◌≡◌}
use lib.ListN.{get_or}
use Rattle.deck.specs.Deck.{Action}
use Rattle.firing.proofs.Laws.Written.{Writing}
use Rattle.firing_actions.proofs.Rows.{Reading}
use Rattle.firing_actions.proofs.evaluate.Given as goal

abbrev pub invariant-loop-i : goal.invariant-loop-i
invariant-loop-i l =
    (l.count ≤ 4) × (l.count ≡ get_or l.deck l.at 0)
    × ((a : Action) → Reading l.own l.far l.deck l.at a → Writing l.own l.far l.part l.deck a l.row l.place l.i)
