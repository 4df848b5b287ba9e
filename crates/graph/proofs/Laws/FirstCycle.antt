-- No channel is found in an acyclic deck alone. Assumes nothing.
use Rattle.std.specs.Prelude.{◌≡◌, ◌↔◌}
use Rattle.std.proofs.Common.{ap}
use Rattle.lists.specs.Lists.{first_or}
use Rattle.lists.specs.Laws.First.{first-none}
use Rattle.deck.specs.Deck.{Deck, R}
use Rattle.graph.specs.Graph.{edge, reaches_itself, cyclic}
use Rattle.graph.proofs.Laws.Cycles.{no-cycle}
use Rattle.graph.specs.Acyclic.{KnownTargets, Acyclic}

pub first-acyclic : {d : Deck} → KnownTargets d → (first_or (R d) (cyclic d) ≡ R d) ↔ Acyclic d
unfolding first_or cyclic
first-acyclic {d} known =
    (λ h. (no-cycle known).0 (first-none (reaches_itself (R d) (edge d)) (R d) h), λ h. ap (first_or (R d)) ((no-cycle known).1 h))
