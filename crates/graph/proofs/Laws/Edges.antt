-- An edge, and the rule that makes it. Assumes nothing.
use Rattle.std.specs.Prelude.{ℕ, ◌<◌, ◌≡◌, Bool, true, ◌&&◌}
use Rattle.lists.specs.Lists.{member}
use Rattle.lists.specs.Laws.Booleans.{and_both, and_left, and_right}
use Rattle.lists.specs.Laws.Below.{any_of-below}
use Rattle.deck.specs.Deck.{Deck, M, N, rule_at, carries}
use Rattle.graph.specs.Graph.{carried, assigns, edge}

module _ (d : Deck) where
  pub carried-intro : (p r : ℕ) → p < N d → carries d p r ≡ true → carried d r ≡ true
  unfolding carried
  carried-intro p r l c = (any_of-below (λ p. carries d p r) (N d)).1 (p, l, c)

  -- rule r makes an edge from a to b
  makes : ℕ → ℕ → ℕ → Bool
  makes a b r = carried d r && (member a (rule_at d r).events && assigns d r b)

  pub edge-intro : (r a b : ℕ) → r < M d → carried d r ≡ true → member a (rule_at d r).events ≡ true → assigns d r b ≡ true
      → edge d a b ≡ true
  unfolding edge makes
  edge-intro r a b l c e t = (any_of-below (makes a b) (M d)).1 (r, l, and_both c (and_both e t))

  pub edge-found : (a b : ℕ) → edge d a b ≡ true
      → (r : ℕ) × (r < M d) × (carried d r ≡ true) × (member a (rule_at d r).events ≡ true) × (assigns d r b ≡ true)
  unfolding edge makes
  edge-found a b h =
      let found = (any_of-below (makes a b) (M d)).0 h in
      let r = found.0 in
      let both = and_right (carried d r) (member a (rule_at d r).events && assigns d r b) found.2 in (
        r,
        found.1,
        and_left (carried d r) (member a (rule_at d r).events && assigns d r b) found.2,
        and_left (member a (rule_at d r).events) (assigns d r b) both,
        and_right (member a (rule_at d r).events) (assigns d r b) both,
      )
