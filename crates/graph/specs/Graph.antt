-- Document 01, "Dependency graph and charge": edges, and what reaches what. Assumes nothing.
use Rattle.std.specs.Prelude.{ℕ, zero, suc, Bool, true, ◌&&◌, ◌||◌, ◌≡◌, List, [], ◌∷◌}
use Rattle.lists.specs.Lists.{any_of, select, below, member}
use Rattle.deck.specs.Deck.{Deck, R, M, N, rule_at, carries, targets}

-- some part carries rule r. "Part numbers play no role"
unfoldable pub carried : Deck → ℕ → Bool
carried d r = any_of (λ p. carries d p r) (below (N d))

-- rule r has b among the targets of either action
unfoldable pub assigns : Deck → ℕ → ℕ → Bool
assigns d r b = member b (targets (rule_at d r).default) || member b (targets (rule_at d r).action)

-- "There is an edge from channel a to b when some carried rule has a among its events and b among the targets of either action"
unfoldable pub edge : Deck → ℕ → ℕ → Bool
edge d a b = any_of (λ r. carried d r && (member a (rule_at d r).events && assigns d r b)) (below (M d))

-- "by one or more edges", e being the test for an edge
pub data Reaches (e : ℕ → ℕ → Bool) (a : ℕ) : ℕ → Type 0 where
  one : {b : ℕ} → e a b ≡ true → Reaches e a b
  more : {b c : ℕ} → Reaches e a b → e b c ≡ true → Reaches e a c

-- the channels below n that one to k edges lead to from a
unfoldable pub reached : ℕ → (ℕ → ℕ → Bool) → ℕ → ℕ → List ℕ
reached n e zero a = []
reached n e (suc k) a =
    let before = a ∷ reached n e k a in
    select (λ c. any_of (λ b. e b c) before) (below n)

-- a channel can reach itself: no path needs more than n edges
unfoldable pub reaches_itself : ℕ → (ℕ → ℕ → Bool) → ℕ → Bool
reaches_itself n e a = member a (reached n e n a)

-- 7: the channels that can reach themselves, lowest first
unfoldable pub cyclic : Deck → List ℕ
cyclic d = select (reaches_itself (R d) (edge d)) (below (R d))

-- to open all definitions of this file, on an `unfolding` line
unfoldable pub graphs : Unit {0}
unfolding carried assigns edge reached reaches_itself cyclic
graphs = tt
