-- Document 01, "When a call declines", and document 02, Req 02 and Req 03: the tests of a deck, 1 to 8 and 18 to 20, in their
-- order. Assumes nothing.
use Rattle.std.specs.Prelude.{ℕ, ◌-◌, ◌*◌, Bool, not, ℤ}
use mathlib.Core.List.{List, ◌++◌, flat_map}
use Rattle.lists.specs.Lists.{select, below}
use Rattle.refusals.specs.Outcome.{Outcome, accepted, ◌>>=◌, ◌>>◌, require_none}
use Rattle.refusals.specs.Numbers.{opens_outside, cyclic_graph, overcharged}
use Rattle.expression.specs.Values.{truth_value}
use Rattle.deck.specs.declared.Form.{Form}
use Rattle.deck.specs.Limits.{limits}
use Rattle.deck.specs.Deck.{Deck, R, N, part_at}
use Rattle.deck.specs.Layout.{Layout, read}
use Rattle.graph.specs.Graph.{cyclic}
use Rattle.charge.specs.Charge.{carried_charges, above_bound}
use Rattle.pool.specs.Updates.{value_at}
use Rattle.pool.specs.Places.{zeros}

-- part p is within its limit. No far channel stands there
unfoldable pub within : Deck → ℕ → List ℤ → Bool
within d p values = truth_value (value_at values p) (value_at values p) (part_at d p).limit

-- the opening values as a value table, unused numbers 0
unfoldable pub opening_values : Deck → List ℤ
opening_values d =
    flat_map (λ p. p.opening ++ zeros (limits.channels - R d)) d.parts ++ zeros (limits.values - limits.channels * N d)

-- 6: the parts that open outside their limit, lowest first
unfoldable pub outside : Deck → List ℕ
outside d = select (λ p. not (within d p (opening_values d))) (below (N d))

-- the deck that the bytes hold, if it passes: 1 to 4, 18, 19 and in a new deck 20 in reading order, then 5, 6, 7 and 8
unfoldable pub passing : Form → List ℕ → Outcome Layout
passing f bytes = do
  l ← read f bytes
  require_none (outside l.deck) opens_outside
  require_none (cyclic l.deck) cyclic_graph
  require_none (above_bound (carried_charges l.deck)) overcharged
  accepted l

-- to open all definitions of this file, on an `unfolding` line
unfoldable pub checks : Unit {0}
unfolding within opening_values outside passing
checks = tt
