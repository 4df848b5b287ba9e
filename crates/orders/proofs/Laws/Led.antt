-- What is left alone is computed exactly, and an edge from a channel that is led to leads on. Assumes nothing.
use Rattle.std.specs.Prelude.{ℕ, ◌<◌, ◌≡◌, ◌↔◌, ◌⊎◌, true, false, List}
use Rattle.std.proofs.Math.Path.{ap}
use Rattle.std.proofs.Math.Logic.{inl, inr, ⊎_elim}
use Rattle.std.proofs.Math.Bool.{not}
use borrow.Author.Tests.{not-true}
use Rattle.lists.specs.Lists.{all_of, member}
use Rattle.lists.specs.Laws.Booleans.{or_left, or_right, or_cases, or-false-left, not-true→false, contradiction}
use Rattle.lists.specs.Laws.Members.{all_of-member, any_of-intro, any_of-found}
use Rattle.lists.specs.Laws.Below.{select-below}
use Rattle.deck.specs.Deck.{Deck, R}
use Rattle.graph.specs.Graph.{edge, Reaches, one, more, reached}
use Rattle.graph.proofs.Laws.Reach.{reached-sound, reached-complete}
use Rattle.graph.proofs.Laws.Cycles.{edge-inside}
use Rattle.graph.specs.Acyclic.{KnownTargets}
use Rattle.orders.specs.StaysPut.{LeftAlone, led, left_alone}

module _ (d : Deck) (names : List ℕ) where
  pub led-named : all_of (led d names) names ≡ true
  unfolding led
  led-named = (all_of-member (led d names) names).1 (λ c m. or_left _ m)

  led-from : (c : ℕ) → led d names c ≡ true → (member c names ≡ true) ⊎ ((a : ℕ) × (member a names ≡ true) × Reaches (edge d) a c)
  unfolding led
  led-from c h =
      ⊎_elim inl
      (λ t.
      let found = any_of-found (λ a. member c (reached (R d) (edge d) (R d) a)) names t in
      inr (found.0, found.1, reached-sound (R d) (edge d) (R d) found.0 c found.2))
      (or_cases (member c names) h)

  not-led : (c : ℕ) → LeftAlone d names c → led d names c ≡ true → ⊥
  not-led c alone h =
      ⊎_elim (λ m. contradiction m alone.unnamed) (λ (a, m, path). alone.unreached a m path) (led-from c h)

  module _ (known : KnownTargets d) where
    reached-led : (a c : ℕ) → member a names ≡ true → Reaches (edge d) a c → led d names c ≡ true
    unfolding led
    reached-led a c m path =
        or_right (member c names) (any_of-intro _ names a m (reached-complete (R d) (edge d) (edge-inside known) path))

    -- an edge from a channel that is led to leads on
    pub led-closed : (a b : ℕ) → led d names a ≡ true → edge d a b ≡ true → led d names b ≡ true
    led-closed a b h e =
        ⊎_elim (λ m. reached-led a b m (one e)) (λ (n, m, path). reached-led n b m (more path e)) (led-from a h)

    -- the test is exact
    pub left-alone-tested : (c : ℕ) → LeftAlone d names c ↔ ((c < R d) × (led d names c ≡ false))
    unfolding led
    left-alone-tested c = (
      λ alone. (alone.channel, not-true→false (led d names c) (not-led c alone)),
      λ (low, other).
          record {
            channel = low;
            unnamed = or-false-left (member c names) _ other;
            unreached = λ a m path. contradiction (reached-led a c m path) other;
          },
    )

    pub left-alone-listed : (c : ℕ) → (member c (left_alone d names) ≡ true) ↔ LeftAlone d names c
    unfolding left_alone
    left-alone-listed c =
        let listed = select-below (λ c. not (led d names c)) (R d) c in (
          λ m. let h = listed.0 m in (left-alone-tested c).1 (h.0, not-true (led d names c) h.1),
          λ alone. let h = (left-alone-tested c).0 alone in listed.1 (h.0, ap not h.1),
        )
