-- Document 02, Req 03: "each rule with a non-empty default becomes two adjacent rules", whether or not it is carried and whether or
-- not its action is empty. Labels, opening values and limits stay. Assumes nothing.
use Rattle.std.specs.Prelude.{ℕ, true, false, length, take}
use mathlib.Core.List.{List, [], ◌∷◌, map, flat_map}
use Rattle.lists.specs.Lists.{sum_of, from}
use Rattle.expression.specs.Syntax.{constant}
use Rattle.deck.specs.Deck.{Action, Rule, Part, Deck, rule_at}

-- "first the default as a here action under condition true"
abbrev pub default_rule : Rule → Rule
default_rule r =
    record { events = r.events; default = []; everywhere = false; condition = constant true; action = r.default }

-- "then the old task"
abbrev pub task_rule : Rule → Rule
task_rule r =
    record { events = r.events; default = []; everywhere = r.everywhere; condition = r.condition; action = r.action }

unfoldable pub split_by : Action → Rule → List Rule
split_by [] r = r ∷ []
split_by (s ∷ a) r = default_rule r ∷ task_rule r ∷ []

unfoldable pub split : Rule → List Rule
split r = split_by r.default r

-- how many rules come of the first r: old rule r becomes the rules from that number on
unfoldable pub new_number : Deck → ℕ → ℕ
new_number d r = sum_of (λ x. length (split x)) (take r d.rules)

-- the numbers of what rule r became
unfoldable pub new_numbers : Deck → ℕ → List ℕ
new_numbers d r = from (new_number d r) (length (split (rule_at d r)))

-- "and the carried lists are renumbered"
unfoldable pub renumbered : Deck → Part → Part
renumbered d p =
    record { opening = p.opening; carried = flat_map (new_numbers d) p.carried; limit = p.limit }

unfoldable pub converted : Deck → Deck
converted d =
    record { labels = d.labels; rules = flat_map split d.rules; parts = map (renumbered d) d.parts }

-- to open all definitions of this file, on an `unfolding` line
unfoldable pub converting : Unit {0}
unfolding split_by split new_number new_numbers renumbered converted
converting = tt
