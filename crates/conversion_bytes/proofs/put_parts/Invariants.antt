-- `conversion_bytes::put_parts` meets its contract. The loop's invariant: so many parts end at the place, and what becomes of them is
-- written. Assumes nothing.
use Rattle.std.proofs.Common.{◌≡◌, length, take}
use mathlib.Core.List.{flat_map}
use Rattle.deck.specs.Deck.{Deck}
use Rattle.deck.specs.Encoding.{encode_part}
use Rattle.conversion_bytes.specs.Written.{Written}
use Rattle.conversion_bytes.specs.Stands.{Walked}
use Rattle.conversion_bytes.specs.Pieces.{new_part_bytes}
use Rattle.conversion_bytes.specs.Decks.{Numbered, PartsIn}
use Rattle.conversion_bytes.proofs.put_parts.Given as goal

abbrev pub invariant-loop : goal.invariant-loop
invariant-loop l =
    (length l.out ≡ length l.initial.out)
    × ((d : Deck) → PartsIn l.parts l.count l.opening d → Numbered d l.numbers
    → Walked encode_part l.parts 0 l.count d.parts l.place l.counter
    × Written l.initial.out l.at (flat_map (new_part_bytes d) (take l.counter d.parts)) l.out l.to)
