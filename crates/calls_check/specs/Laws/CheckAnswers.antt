-- Check answers what passing comes to. Assumes nothing.
use Rattle.std.specs.Prelude.{ℕ, ◌≡◌, List}
use Rattle.refusals.specs.Outcome.{refused, accepted, outcomes}
use Rattle.deck.specs.declared.Form.TheVariants.{New}
use Rattle.deck.specs.Deck.{R, M, N}
use Rattle.deck.specs.Layout.{Layout}
use Rattle.charge.specs.Charge.{largest_charge}
use Rattle.deck.specs.declared.Deck as Counted
use Rattle.passing.specs.Check.{passing}
use Rattle.passing.specs.Tabled.{layout_of}
use Rattle.passing.specs.Judged.{Passed}
use Rattle.calls.specs.Calls.{passed, check, check_as}

pub check-refused : (bytes : List ℕ) (n p : ℕ) → passing New bytes ≡ refused n p → check bytes ≡ refused n p
unfolding check_as outcomes
check-refused bytes n p e = rw e

pub check-passed : (bytes : List ℕ) (l : Layout) (n : ℕ) → passing New bytes ≡ accepted l → largest_charge l.deck ≡ n
    → check bytes ≡ accepted (passed (R l.deck) (M l.deck) (N l.deck) n)
unfolding check_as outcomes
check-passed bytes l n e h = rw (e, h)

-- the same from what the code found
pub check-whole : (s rules parts memo : List ℕ) (k : Counted.Deck) (n : ℕ) → Passed New s rules parts memo k n
    → check s ≡ accepted (passed k.channels k.rules k.parts n)
check-whole s rules parts memo k n w =
    let c = w.tabled.counts in
    rw (c.channels, c.rules, c.parts) (check-passed s (layout_of s) n w.passes w.largest)
