-- The rules that an update makes active: which they are, and that fewer channels make fewer active. Assumes nothing.
use Prim.Native.Nat.{ℕ, ◌≤◌, ◌<◌}
use Rattle.std.specs.Prelude.{◌≡◌, ◌↔◌, true, ◌&&◌, List}
use Rattle.std.proofs.Math.Bool.{Bool}
use Rattle.lists.specs.Lists.{any_of, sum_of, below, member}
use Rattle.lists.specs.Laws.Booleans.{and_both, and_left, and_right}
use Rattle.lists.specs.Laws.Members.{Within, any_of-found, any_of-intro, any_of-within}
use Rattle.lists.specs.Laws.Below.{select-below}
use Rattle.lists.specs.Laws.Sums.{sum_of-select}
use Rattle.deck.specs.Deck.{Deck, M, rule_at, carries, active}

module _ (d : Deck) (p : ℕ) where
  -- one of the channels cs is among rule r's events
  heard : List ℕ → ℕ → Bool
  heard cs r = any_of (λ c. member c (rule_at d r).events) cs

  -- part p carries r, and one of cs is among its events
  abbrev pub Active : List ℕ → ℕ → Type 0
  Active cs r =
      (r < M d)
      × (carries d p r ≡ true)
      × ((c : ℕ) × (member c cs ≡ true) × (member c (rule_at d r).events ≡ true))

  pub active-member : (cs : List ℕ) (r : ℕ) → (member r (active d p cs) ≡ true) ↔ Active cs r
  unfolding active heard
  active-member cs r =
      let test : ℕ → Bool = λ r. carries d p r && heard cs r in
      let passing = select-below test (M d) r in (
        λ m.
            let h = passing.0 m in (
              h.0,
              and_left (carries d p r) (heard cs r) h.1,
              any_of-found (λ c. member c (rule_at d r).events) cs (and_right (carries d p r) (heard cs r) h.1),
            ),
        λ a.
            passing.1 (
              a.0,
              and_both a.1
                  (any_of-intro (λ c. member c (rule_at d r).events) cs a.2.0 a.2.1 a.2.2),
            ),
      )

  pub active-sub : (f : ℕ → ℕ) (cs ds : List ℕ) → Within cs ds → sum_of f (active d p cs) ≤ sum_of f (active d p ds)
  unfolding active heard
  active-sub f cs ds h =
      sum_of-select (λ r. carries d p r && heard cs r) (λ r. carries d p r && heard ds r) f (below (M d))
      (λ r _ t.
      and_both (and_left (carries d p r) (heard cs r) t)
      (any_of-within (λ c. member c (rule_at d r).events) cs ds h (and_right (carries d p r) (heard cs r) t)))
