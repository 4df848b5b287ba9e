-- Document 01, "Calls": the firing, and one commit, on values and pending updates. Assumes nothing.
use Rattle.std.specs.Prelude.{ℕ, suc, Bool, not, ◌&&◌, cond, ltb, length, get_or, take, drop, ℤ}
use mathlib.Core.List.{List, [], ◌∷◌, ◌++◌, map, flat_map}
use Rattle.lists.specs.Lists.{select, below, eq_z}
use Rattle.expression.specs.Values.{num_value, truth_value}
use Rattle.deck.specs.Deck.{Deck, Action, Assignment, Rule, R, rule_at, active}
use Rattle.charge.specs.Charge.{others}
use Rattle.pool.specs.Updates.{Pair, Update, value_at, assign, is_among}
use Rattle.pool.specs.States.{Machine}
use Rattle.passing.specs.Check.{within}

-- An action that a rule at part p sends to part q: "own channels are the sender's, far channels and targets the receiver's".
-- An empty one adds no update
unfoldable pub evaluated : List ℤ → ℕ → ℕ → Assignment → Pair
evaluated values p q s = record { channel = s.target; value = num_value (value_at values p) (value_at values q) s.value }

unfoldable pub sent : List ℤ → ℕ → ℕ → Action → List Update
sent values p q [] = []
sent values p q (s ∷ a) = record { part = q; pairs = map (evaluated values p q) (s ∷ a) } ∷ []

-- the condition of a rule at part p, for a receiver q
unfoldable pub holds : List ℤ → ℕ → ℕ → Rule → Bool
holds values p q r = truth_value (value_at values p) (value_at values q) r.condition

-- "its non-empty default action, then, for kind 0 with the condition true, its non-empty action, to p"
unfoldable pub fired_here : List ℤ → ℕ → Rule → List Update
fired_here values p r =
    sent values p p r.default ++ cond (not r.everywhere && holds values p p r) (sent values p p r.action) []

-- a rule of kind 1 at part q, another one: "There it adds its non-empty action if its condition is true"
unfoldable pub fired_there : List ℤ → ℕ → Rule → ℕ → List Update
fired_there values p r q = cond (r.everywhere && holds values p q r) (sent values p q r.action) []

-- "Firing at part p for changed channels": the new updates in their order, reading the new values
unfoldable pub fired : Deck → List ℤ → ℕ → List ℕ → List Update
fired d values p cs =
    let rules = map (rule_at d) (active d p cs) in
    flat_map (fired_here values p) rules ++ flat_map (λ r. flat_map (fired_there values p r) (others d p)) rules

-- "written behind the last pending one, one by one, unless equal to one then pending"
unfoldable pub enqueue : List Update → List Update → List Update
enqueue us [] = us
enqueue us (u ∷ new) = enqueue (cond (is_among u us) us (us ++ u ∷ [])) new

-- "The changed channels are those whose value differs"
unfoldable pub changed : Deck → ℕ → List ℤ → List ℤ → List ℕ
changed d p before after = select (λ c. not (eq_z (value_at before p c) (value_at after p c))) (below (R d))

-- the values of part p are set, and the firing follows
unfoldable pub set_and_fire : Deck → ℕ → List Pair → Machine → Machine
set_and_fire d p pairs x =
    let values = assign p pairs x.values in
    record { values = values; pending = enqueue x.pending (fired d values p (changed d p x.values values)) }

-- update k of the pending ones; the others, later ones moved down
unfoldable pub pick : ℕ → List Update → Update
pick k us = get_or us k (record { part = 0; pairs = [] })

unfoldable pub without : ℕ → List Update → List Update
without k us = take k us ++ drop (suc k) us

pub record Commit : Type 0 where
  pub applied : Bool
  pub machine : Machine

-- Commit: "Update k is taken out and later places move down. If its part's limit would fail with it applied, it is discarded
-- and nothing else changes. Otherwise it is applied and the firing follows."
unfoldable pub committed : Deck → ℕ → Machine → Commit
committed d k x =
    let u = pick k x.pending in
    let taken : Machine = record { values = x.values; pending = without k x.pending } in
    let holds = within d u.part (assign u.part u.pairs x.values) in
    record { applied = holds; machine = cond holds (set_and_fire d u.part u.pairs taken) taken }

-- which of the pending updates a commit may take: every one, by its place
abbrev pub may_take : List Update → ℕ → Bool
may_take us k = ltb k (length us)

-- which of them a settle takes next: "It commits place 0"
abbrev pub next_place : List Update → ℕ
next_place us = 0

-- to open all definitions of this file, on an `unfolding` line
unfoldable pub firing : Unit {0}
unfolding evaluated sent holds fired_here fired_there fired enqueue changed set_and_fire pick without committed
firing = tt
