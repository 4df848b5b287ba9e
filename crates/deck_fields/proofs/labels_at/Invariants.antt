-- `deck_fields::labels_at` meets its contract. The loop's invariant: i labels were read. Assumes nothing.
use Rattle.std.proofs.Common.{◌≤◌, ◌-◌, length, drop}
use Rattle.deck.specs.Reader.{repeats, label}
use Rattle.deck.proofs.Laws.Turns.{Turns}
use Rattle.deck_fields.proofs.labels_at.Given as goal

abbrev pub invariant-loop : goal.invariant-loop
invariant-loop l = (l.next ≤ length l.s)
    × Turns (repeats l.count label (drop l.at l.s) l.at) (repeats (l.count - l.counter) label (drop l.next l.s) l.next) (λ _. Unit {0})
