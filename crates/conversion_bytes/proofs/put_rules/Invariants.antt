-- `conversion_bytes::put_rules` meets its contract. The loop's invariant: so many rules end at the place, and what becomes of them is
-- written. Assumes nothing.
use Rattle.std.proofs.Common.{◌≡◌, length, take}
use mathlib.Core.List.{List, flat_map}
use Rattle.deck.specs.Deck.{Rule}
use Rattle.deck.specs.Encoding.{encode_rule}
use Rattle.conversion_bytes.specs.Written.{Written}
use Rattle.conversion_bytes.specs.Stands.{Listed, Walked}
use Rattle.conversion_bytes.specs.Pieces.{new_rule_bytes}
use Rattle.conversion_bytes.proofs.put_rules.Given as goal

abbrev pub invariant-loop : goal.invariant-loop
invariant-loop l =
    (length l.out ≡ length l.initial.out)
    × ((rs : List Rule) → Listed encode_rule l.rules 0 l.count rs
    → Walked encode_rule l.rules 0 l.count rs l.place l.counter × Written l.initial.out l.at (flat_map new_rule_bytes (take l.counter rs)) l.out l.to)
