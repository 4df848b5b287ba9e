-- `conversion_bytes::number_rules` meets its contract. The loop's invariant: i rules end at the place, and the numbers up to i are noted.
-- Assumes nothing.
use Rattle.std.proofs.Common.{◌≡◌, ◌*◌, ◌≤◌, length, get_or}
use mathlib.Core.List.{List}
use Rattle.deck.specs.Deck.{Rule}
use Rattle.deck.specs.Encoding.{encode_rule}
use Rattle.conversion_bytes.specs.Stands.{Listed, Walked}
use Rattle.conversion_bytes.specs.Decks.{Sums}
use Rattle.conversion_bytes.proofs.number_rules.Given as goal

abbrev pub invariant-loop-i : goal.invariant-loop-i
invariant-loop-i l =
    (get_or l.numbers l.i 0 ≤ 2 * l.i) × (length l.numbers ≡ 65)
    × ((rs : List Rule) → Listed encode_rule l.rules 0 l.count rs → Walked encode_rule l.rules 0 l.count rs l.place l.i × Sums rs l.i l.numbers)
