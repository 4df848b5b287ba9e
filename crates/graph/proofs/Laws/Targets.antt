-- A well-formed deck names no unknown target. Assumes nothing.
use Rattle.std.proofs.Common.{⊎_elim, ltb-true}
use Rattle.std.specs.Prelude.{ltb}
use Rattle.lists.specs.Lists.{member}
use Rattle.lists.specs.Laws.Booleans.{or_cases}
use Rattle.lists.specs.Laws.Members.{all_of-member}
use Rattle.deck.specs.Deck.{Deck, R, rule_at, targets}
use Rattle.deck.specs.Facts.{Formed}
use Rattle.graph.specs.Graph.{assigns}
use Rattle.graph.specs.Acyclic.{KnownTargets}

pub known-targets : (d : Deck) → Formed d → KnownTargets d
unfolding assigns
known-targets d f =
    record {
      known = λ r b h.
          ⊎_elim
          (λ m. ltb-true b (R d) ((all_of-member (λ t. ltb t (R d)) (targets (rule_at d r).default)).0 (f.default r).known b m))
          (λ m. ltb-true b (R d) ((all_of-member (λ t. ltb t (R d)) (targets (rule_at d r).action)).0 (f.action r).known b m))
          (or_cases (member b (targets (rule_at d r).default)) h);
    }
