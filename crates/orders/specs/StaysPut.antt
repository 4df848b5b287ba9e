-- Document 02, Req 04: a control moves only what it leads to. What a list of calls named, which channels that leaves alone, and what
-- is said of these. Assumes nothing.
use Rattle.std.specs.Prelude.{ℕ, ◌<◌, ◌≡◌, Bool, true, false, not, ◌||◌, ℤ}
use mathlib.Core.List.{List, [], ◌∷◌, ◌++◌, map, flat_map}
use Rattle.lists.specs.Lists.{any_of, select, below, member}
use Rattle.refusals.specs.Outcome.{Outcome, refused, accepted}
use Rattle.deck.specs.Deck.{Deck, R, N}
use Rattle.graph.specs.Graph.{edge, Reaches, reached}
use Rattle.pool.specs.Updates.{value_at, channels}
use Rattle.pool.specs.Places.{pairs_of, updates_of}
use Rattle.pool.specs.States.{Memory}
use Rattle.calls.specs.Calls.{Answer}
use Rattle.orders.specs.Calling.{Call, input, commit, settle}

-- the channels that a call named: those of an accepted input's pairs, whatever its part and their values
unfoldable pub named_by : Call → Outcome Answer → List ℕ
named_by (input p l) (refused n k) = []
named_by (input p l) (accepted a) = map (λ x. x.channel) (pairs_of l)
named_by (commit k) o = []
named_by (settle b) o = []

-- those that the calls of a list named, each by its answer
unfoldable pub named : List Call → List (Outcome Answer) → List ℕ
named [] answers = []
named (c ∷ cs) [] = []
named (c ∷ cs) (o ∷ answers) = named_by c o ++ named cs answers

-- left alone: "a channel that no accepted input named, and that can't be reached by edges of the dependency graph from one that was
-- named"
pub record LeftAlone (d : Deck) (names : List ℕ) (c : ℕ) : Type 0 where
  pub channel : c < R d
  pub unnamed : member c names ≡ false
  pub unreached : (a : ℕ) → member a names ≡ true → Reaches (edge d) a c → ⊥

-- a channel that was named, or is reached from one that was, by computing
unfoldable pub led : Deck → List ℕ → ℕ → Bool
led d names c = member c names || any_of (λ a. member c (reached (R d) (edge d) (R d) a)) names

-- the channels that are left alone, by computing
unfoldable pub left_alone : Deck → List ℕ → List ℕ
left_alone d names = select (λ c. not (led d names c)) (below (R d))

-- the channels that pending updates target
unfoldable pub targeted : Memory → List ℕ
targeted m = flat_map channels (updates_of m.state.pending m.pool)

-- what is said of such a channel, m being the state and the pool that the calls left
pub record StaysPut (d : Deck) (kept : List ℤ) (m : Memory) (c : ℕ) : Type 0 where
  -- its value at every part below N is that of the table `kept`; with the opening values it "keeps its opening value at every part"
  pub value : (p : ℕ) → p < N d → value_at m.state.values p c ≡ value_at kept p c
  -- "No pending update targets such a channel either"
  pub pending : member c (targeted m) ≡ false

-- to open all definitions of this file, on an `unfolding` line
unfoldable pub naming : Unit {0}
unfolding named_by named led left_alone targeted
naming = tt
