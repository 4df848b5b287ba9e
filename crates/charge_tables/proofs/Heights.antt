-- What falls when the two charges call each other: the height of the highest channel. Assumes nothing.
use Prim.Native.Nat.{ℕ, suc, ◌*◌, ◌<◌, ◌≤◌, max}
use mathlib.Core.Path.{◌≡◌}
use mathlib.Core.Bool.{true}
use mathlib.Core.List.{List}
use native.Mathlib.Omega.{arith}
use Rattle.lists.specs.Lists.{largest, member}
use Rattle.lists.specs.Laws.Booleans.{or_left, or_right}
use Rattle.lists.specs.Laws.Below.{select-below}
use Rattle.lists.specs.Laws.Sums.{largest-member, largest-bound}
use Rattle.deck.specs.Deck.{Deck, R, M, N, active}
use Rattle.graph.specs.Graph.{edge, assigns}
use Rattle.graph.proofs.Laws.Reach.{height, height-falls}
use Rattle.graph.proofs.Laws.Edges.{carried-intro, edge-intro}
use Rattle.graph.proofs.Laws.Cycles.{edge-inside}
use Rattle.graph.specs.Acyclic.{KnownTargets, Acyclic}
use Rattle.charge.proofs.Laws.Active.{active-member}
use Rattle.charge.proofs.Laws.Equations.{defaults, actions}
use Rattle.charge_tables.proofs.Terms.{listens}

module _ (d : Deck) where
  above : ℕ → ℕ
  above c = suc (height (R d) (edge d) c)

  -- one above the highest channel
  pub rank : List ℕ → ℕ
  rank u = largest above u

  -- the measures of an update and of a rule
  abbrev pub update_rank : List ℕ → ℕ
  update_rank u = 2 * rank u

  abbrev pub rule_rank : ℕ → ℕ
  rule_rank r = suc (2 * max (rank (defaults d r)) (rank (actions d r)))

module _ {d : Deck} (known : KnownTargets d) (acyclic : Acyclic d) where
  lower : (c : ℕ) (u : List ℕ) → ((b : ℕ) → member b u ≡ true → edge d c b ≡ true) → rank d u ≤ height (R d) (edge d) c
  unfolding rank above
  lower c u h =
      (largest-bound (above d) u (height (R d) (edge d) c)).1
      (λ b m. height-falls (R d) (edge d) (edge-inside known) acyclic (h b m))

  -- a rule that listens is lower than the update
  pub falls : (p r : ℕ) (u : List ℕ) → p < N d → r < M d → listens d p u r ≡ true → rule_rank d r < update_rank d u
  unfolding rank above active assigns
  falls p r u l m t =
      let found = (active-member d p u r).0 ((select-below (listens d p u) (M d) r).1 (m, t)) in
      let c = found.2.0 in
      let carried = carried-intro d p r l found.1 in
      omega (
        arith,
        largest-member (above d) u c found.2.1,
        lower c (defaults d r) (λ b k. edge-intro d r c b m carried found.2.2 (or_left (member b (actions d r)) k)),
        lower c (actions d r) (λ b k. edge-intro d r c b m carried found.2.2 (or_right (member b (defaults d r)) k)),
      )
