-- Cases: the place of 6. Assumes nothing.
use Rattle.std.specs.Prelude.{ℕ, ◌≡◌, refl, [], ◌∷◌, pos}
use Rattle.lists.specs.Lists.{lists}
use Rattle.refusals.specs.Outcome.{refused, require_none, outcomes}
use Rattle.refusals.specs.Numbers.{opens_outside}
use Rattle.expression.specs.Syntax.{literal, own, compared}
use Rattle.expression.specs.Values.{evaluation}
use Rattle.expression.specs.declared.Compare.TheVariants.{Less}
use Rattle.deck.specs.Deck.{Part, Deck, decks}
use Rattle.pool.specs.Updates.{updates}
use Rattle.pool.specs.Places.{pools}
use Rattle.passing.specs.Check.{outside, checks}

-- a part with this value of b, which keeps b below 5
abbrev part_of : ℕ → Part
part_of b = record { opening = pos 0 ∷ pos b ∷ []; carried = []; limit = compared Less (own 1) (literal (pos 5)) }

-- Channels a, b. Parts 1 and 2 open with b = 5 and b = 7.
abbrev deck : Deck
deck = record { labels = 97 ∷ 98 ∷ []; rules = []; parts = part_of 0 ∷ part_of 5 ∷ part_of 7 ∷ [] }

-- 6 is placed at the lowest part
pub outside-case : require_none (outside deck) opens_outside ≡ refused 6 1
unfolding lists outcomes evaluation decks updates pools checks
outside-case = refl
