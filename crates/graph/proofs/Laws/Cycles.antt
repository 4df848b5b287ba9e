-- 7 on a deck whose rules assign known channels: `cyclic` is empty exactly if no channel can reach itself, and begins with
-- the lowest that can. Assumes nothing.
use Rattle.std.specs.Prelude.{ℕ, ◌<◌, ◌≡◌, ◌↔◌, true, List, [], ◌∷◌}
use Rattle.lists.specs.Laws.Booleans.{contradiction, not-true→false}
use Rattle.lists.specs.Laws.Below.{none_below, select-first}
use Rattle.deck.specs.Deck.{Deck, R}
use Rattle.graph.specs.Graph.{Reaches, one, more, reaches_itself, edge, cyclic}
use Rattle.graph.proofs.Laws.Edges.{edge-found}
use Rattle.graph.proofs.Laws.Reach.{reaches-itself}
use Rattle.graph.specs.Acyclic.{Acyclic, KnownTargets}

module _ {d : Deck} (known : KnownTargets d) where
  pub edge-inside : (a b : ℕ) → edge d a b ≡ true → b < R d
  edge-inside a b h = let found = edge-found d a b h in known.known found.0 b found.4

  pub reaches-inside : {a b : ℕ} → Reaches (edge d) a b → b < R d
  reaches-inside {a} {b} (one h) = edge-inside a b h
  reaches-inside (more {b = b} {c = c} p h) = edge-inside b c h

  itself : (a : ℕ) → (reaches_itself (R d) (edge d) a ≡ true) ↔ Reaches (edge d) a a
  itself a = reaches-itself (R d) (edge d) edge-inside a

  pub no-cycle : (cyclic d ≡ []) ↔ Acyclic d
  unfolding cyclic
  no-cycle =
      let none = none_below (reaches_itself (R d) (edge d)) (R d) in (
        λ h a p. contradiction ((itself a).1 p) (none.0 h a (reaches-inside p)),
        λ h. none.1 (λ a m. not-true→false (reaches_itself (R d) (edge d) a) (λ t. h a ((itself a).0 t))),
      )

  pub lowest-cycle : {c : ℕ} {cs : List ℕ} → cyclic d ≡ c ∷ cs
      → Reaches (edge d) c c × ((b : ℕ) → b < c → Reaches (edge d) b b → ⊥)
  unfolding cyclic
  lowest-cycle {c} {cs} h =
      let first = select-first (reaches_itself (R d) (edge d)) (R d) c cs h in
      ((itself c).0 first.0, λ b l p. contradiction ((itself b).1 p) (first.2 b l))
