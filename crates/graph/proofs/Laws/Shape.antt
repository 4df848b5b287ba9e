-- The edges of the shape of two tables, by the masks in their rows. Assumes nothing.
use Rattle.std.specs.Prelude.{ℕ, ◌+◌, ◌*◌, ◌<◌, ◌≤◌, ◌≡◌, ◌&&◌, ◌||◌, List, get_or}
use Rattle.std.proofs.Math.Path.{ap₂}
use Rattle.std.proofs.Common.{◌∙◌, arith}
use Rattle.lists.specs.Lists.{any_of, below, member}
use Rattle.lists.specs.Bits.{bit}
use Rattle.lists.specs.Laws.Below.{below-member}
use Rattle.lists.specs.Laws.Agreement.{any_of-agree}
use Rattle.deck.specs.Deck.{Deck, M, N, rule_at, carries, targets}
use Rattle.deck.specs.Shape.{shape_of}
use Rattle.deck.proofs.Laws.Shape.{shape-M, shape-N, shape-carries, shape-event, shape-default, shape-action}
use Rattle.graph.specs.Graph.{carried, assigns, edge}
use Rattle.graph.specs.Masks.{carried_at, drawn_by}

-- the edges of a deck whose rules and parts the tables have
module _ (d : Deck) (rules parts : List ℕ) (a b : ℕ)
    (carried_same : (p r : ℕ) → p < N d → r < M d → carries d p r ≡ bit (get_or parts (4 * p) 0) r)
    (event_same : (r : ℕ) → r < M d → member a (rule_at d r).events ≡ bit (get_or rules (8 * r) 0) a)
    (default_same : (r : ℕ) → r < M d → member b (targets (rule_at d r).default) ≡ bit (get_or rules (8 * r + 1) 0) b)
    (action_same : (r : ℕ) → r < M d → member b (targets (rule_at d r).action) ≡ bit (get_or rules (8 * r + 2) 0) b) where
  carried_same_lem : (r : ℕ) → r < M d → carried d r ≡ carried_at parts (N d) r
  unfolding carried carried_at
  carried_same_lem r l =
      any_of-agree (λ p. carries d p r) (λ p. bit (get_or parts (4 * p) 0) r) (below (N d))
      (λ p m. carried_same p r ((below-member (N d) p).1 m) l)

  edge_same : edge d a b ≡ any_of (drawn_by rules parts (N d) a b) (below (M d))
  unfolding edge assigns drawn_by
  edge_same =
      any_of-agree (λ r. carried d r && (member a (rule_at d r).events && assigns d r b)) (drawn_by rules parts (N d) a b)
      (below (M d)) λ r m.
      let l = (below-member (M d) r).1 m in
      ap₂ (λ x y. x && y) (carried_same_lem r l)
      (ap₂ (λ x y. x && y) (event_same r l) (ap₂ (λ x y. x || y) (default_same r l) (action_same r l)))

module _ (rules parts : List ℕ) (R' M' N' : ℕ) where
  abbrev shape : Deck
  shape = shape_of rules parts R' M' N'

  pub shape-edge : (a b : ℕ) → M' ≤ 64 → a < 32 → b < 32
      → edge shape a b ≡ any_of (drawn_by rules parts N' a b) (below M')
  shape-edge a b few la lb =
      let rs = shape-M rules parts R' M' N' in
      let ps = shape-N rules parts R' M' N' in
      edge_same shape rules parts a b
      (λ p r l m. shape-carries rules parts R' M' N' p r (omega arith) (omega arith))
      (λ r l. shape-event rules parts R' M' N' r a (omega arith) la)
      (λ r l. shape-default rules parts R' M' N' r b (omega arith) lb)
      (λ r l. shape-action rules parts R' M' N' r b (omega arith) lb)
      ∙ ap₂ (λ n m. any_of (drawn_by rules parts n a b) (below m)) ps rs
