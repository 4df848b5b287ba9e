-- `deck_fields::rising_at` meets its contract. The loop's invariant: i rising numbers were read, all below `low`, and `value` is
-- their set. Assumes nothing.
use Rattle.std.proofs.Common.{◌≡◌, ◌≤◌, ◌-◌, length, drop}
use Rattle.lists.specs.Bits.{mask_of}
use Rattle.deck.specs.Reader.{rising}
use Rattle.deck.proofs.Laws.Turns.{Turns}
use Rattle.deck_fields.proofs.rising_at.Given as goal

abbrev pub invariant-loop : goal.invariant-loop
invariant-loop l =
    (l.next ≤ length l.s)
    × Turns (rising l.count 0 l.hi (drop l.at l.s) l.at)
    (rising (l.count - l.counter) l.low l.hi (drop l.next l.s) l.next) (λ cs. l.value ≡ mask_of cs)
