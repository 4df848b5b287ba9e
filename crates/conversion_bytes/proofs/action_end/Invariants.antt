-- `conversion_bytes::action_end` meets its contract. The loop's invariant: so many assignments end at the place. Assumes nothing.
use Rattle.std.proofs.Common.{◌+◌}
use Rattle.deck.specs.Deck.{Action}
use Rattle.deck.specs.Encoding.{encode_action, encode_assignment}
use Rattle.conversion_bytes.specs.Stands.{Stands, Walked}
use Rattle.conversion_bytes.proofs.action_end.Given as goal

abbrev pub invariant-loop : goal.invariant-loop
invariant-loop l =
    (a : Action) → Stands l.deck l.at (encode_action a) → Walked encode_assignment l.deck (l.at + 1) l.count a l.place l.counter
