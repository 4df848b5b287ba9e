-- Two decks that pass the same tests have the same graph; a deck that was read and the shape of its tables are such decks.
-- Assumes nothing.
use Rattle.std.specs.Prelude.{ℕ, ◌≡◌, ◌&&◌, ◌||◌}
use Rattle.std.proofs.Math.Path.{ap, ap₂}
use Rattle.std.proofs.Common.{◌∙◌, sym}
use Rattle.lists.specs.Lists.{any_of, select, below, member, first_or}
use Rattle.lists.specs.Laws.Agreement.{any_of-agree}
use Rattle.deck.specs.Deck.{Deck, R, M, N, rule_at, carries}
use Rattle.deck.proofs.Laws.Tables.{SameTests}
use Rattle.graph.specs.Graph.{carried, assigns, edge, reaches_itself, cyclic}
use Rattle.graph.specs.FirstCycle.{first_cycle}
use Rattle.graph.proofs.Laws.Agreement.{cyclic-agree}
use Rattle.graph.specs.Acyclic.{KnownTargets}

module _ {d e : Deck} (t : SameTests d e) where
  same-carried : (r : ℕ) → carried d r ≡ carried e r
  unfolding carried
  same-carried r =
      any_of-agree (λ p. carries d p r) (λ p. carries e p r) (below (N d)) (λ p _. t.carried p r)
      ∙ ap (λ n. any_of (λ p. carries e p r) (below n)) t.parts

  same-assigns : (r b : ℕ) → assigns d r b ≡ assigns e r b
  unfolding assigns
  same-assigns r b = ap₂ (λ x y. x || y) (t.default r b) (t.action r b)

  pub same-edge : (a b : ℕ) → edge d a b ≡ edge e a b
  unfolding edge
  same-edge a b =
      any_of-agree
      (λ r. carried d r && (member a (rule_at d r).events && assigns d r b))
      (λ r. carried e r && (member a (rule_at e r).events && assigns e r b))
      (below (M d))
      (λ r _. ap₂ (λ x y. x && y) (same-carried r) (ap₂ (λ x y. x && y) (t.events r a) (same-assigns r b)))
      ∙ ap (λ n. any_of (λ r. carried e r && (member a (rule_at e r).events && assigns e r b)) (below n)) t.rules

  pub same-cyclic : cyclic d ≡ cyclic e
  unfolding cyclic
  same-cyclic =
      ap (λ n. select (reaches_itself n (edge d)) (below n)) t.channels
      ∙ cyclic-agree (R e) (edge d) (edge e) (λ a b _ _. same-edge a b)

  pub same_first : first_cycle d ≡ first_cycle e
  unfolding first_cycle
  same_first = ap₂ first_or t.channels same-cyclic

  pub same_known : KnownTargets e → KnownTargets d
  same_known k = record { known = λ r b h. rw t.channels (k.known r b (sym (same-assigns r b) ∙ h)) }
