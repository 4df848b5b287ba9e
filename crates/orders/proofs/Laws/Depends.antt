-- The graph of a deck is Definition 9 of source document 000 over the programs of its parts. Assumes nothing.
use Rattle.std.specs.Prelude.{ℕ, ◌<◌, ◌≡◌, Bool, true, ◌&&◌}
use Rattle.std.proofs.Common.{sym, ◌∙◌}
use Rattle.lists.specs.Lists.{any_of, select, below, member}
use Rattle.lists.specs.Laws.Booleans.{and_both, and_left, and_right}
use Rattle.lists.specs.Laws.Statements.{same_test}
use Rattle.lists.specs.Laws.Anys.{any_of-map, any_of-select}
use Rattle.lists.specs.Laws.Below.{any_of-below}
use Rattle.deck.specs.Deck.{Deck, M, N, rule_at, carries}
use Rattle.graph.specs.Graph.{carried, assigns, edge}
use Rattle.graph.proofs.Laws.Edges.{carried-intro, edge-intro, edge-found}
use Rattle.orders.specs.Calculus.{program_of, leads, depends}

module _ (d : Deck) (a b : ℕ) where
  -- rule r is carried by part p and leads from a to b
  abbrev leads_at : ℕ → ℕ → Bool
  leads_at p r = carries d p r && leads a b (rule_at d r)

  at-node : (p : ℕ) → any_of (leads a b) (program_of d p).rules ≡ any_of (leads_at p) (below (M d))
  unfolding program_of
  at-node p =
      any_of-map (leads a b) (rule_at d) (select (carries d p) (below (M d)))
      ∙ any_of-select (λ r. leads a b (rule_at d r)) (carries d p) (below (M d))

  some-node : (p r : ℕ) → p < N d → r < M d → leads_at p r ≡ true → depends (N d) (program_of d) a b ≡ true
  unfolding depends
  some-node p r lp lr h =
      (any_of-below (λ i. any_of (leads a b) (program_of d i).rules) (N d)).1 (p, lp, at-node p ∙ (any_of-below (leads_at p) (M d)).1 (r, lr, h))

  edge-depends : edge d a b ≡ true → depends (N d) (program_of d) a b ≡ true
  unfolding leads assigns carried
  edge-depends h =
      let found = edge-found d a b h in
      let part = (any_of-below (λ p. carries d p found.0) (N d)).0 found.2 in
      some-node part.0 found.0 part.1 found.1 (and_both part.2 (and_both found.3 found.4))

  depends-edge : depends (N d) (program_of d) a b ≡ true → edge d a b ≡ true
  unfolding depends leads assigns
  depends-edge h =
      let node = (any_of-below (λ i. any_of (leads a b) (program_of d i).rules) (N d)).0 h in
      let p = node.0 in
      let rule = (any_of-below (leads_at p) (M d)).0 (sym (at-node p) ∙ node.2) in
      let r = rule.0 in
      let does = and_right (carries d p r) (leads a b (rule_at d r)) rule.2 in
      edge-intro d r a b rule.1 (carried-intro d p r node.1 (and_left (carries d p r) (leads a b (rule_at d r)) rule.2))
      (and_left (member a (rule_at d r).events) (assigns d r b) does)
      (and_right (member a (rule_at d r).events) (assigns d r b) does)

  pub definition-9 : edge d a b ≡ depends (N d) (program_of d) a b
  definition-9 = same_test _ _ edge-depends depends-edge
