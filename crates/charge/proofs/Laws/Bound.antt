-- 8: when no carried rule's charge is above 65,535, and otherwise which is the first place. Assumes nothing.
use Prim.Native.Nat.{ℕ, ◌+◌, ◌*◌, ◌≤◌, ◌<◌}
use Rattle.std.specs.Prelude.{◌≡◌, refl, ◌↔◌, true, false, ◌&&◌}
use Rattle.std.proofs.Common.{sym, ◌∙◌, ⊎_elim, eq-or-lt_of_le, arith}
use Rattle.std.proofs.Math.Path.{ap, fun_ext}
use Rattle.std.proofs.Math.Bool.{Bool}
use mathlib.Core.List.{List, [], ◌∷◌, map, map-map, map-eq-nil_iff, nil≢cons, head-eq_of_cons-eq, flat_map}
use Rattle.std.proofs.Math.Dec.{ltb}
use borrow.Author.Tests.{ltb-true, ltb-false}
use Rattle.lists.specs.Lists.{select, below, member}
use Rattle.lists.specs.Laws.Booleans.{and_left, and_right, not-true→false}
use Rattle.lists.specs.Laws.Filters.{select-select, select-map}
use Rattle.lists.specs.Laws.Below.{below-member, none_below, select-first}
use Rattle.lists.specs.Laws.FlatMaps.{select-flat_map, map-flat_map, flat_map-none, flat_map-first}
use Rattle.deck.specs.Deck.{Deck, M, N, carries}
use Rattle.charge.specs.Charge.{Charged, rule_charge, carried_charges, above_bound}
use Rattle.charge.proofs.Laws.Largest.{AtMost, carried_at}

-- x is the place of a carried rule whose charge is above the bound, and no lower place has such a rule
pub record FirstAbove (d : Deck) (x : ℕ) : Type 0 where
  pub part : ℕ
  pub rule : ℕ
  pub part_known : part < N d
  pub rule_known : rule < M d
  pub carried : carries d part rule ≡ true
  pub place : x ≡ 64 * part + rule
  pub above : 65535 < rule_charge d part rule
  pub lowest : (q s : ℕ) → q < N d → s < M d → carries d q s ≡ true → 64 * q + s < x → rule_charge d q s ≤ 65535

-- where the head of a map comes from
map-head : {A B : Type 0} (f : A → B) (l : List A) (x : B) (xs : List B) → map f l ≡ x ∷ xs
    → (y : A) × (ys : List A) × (l ≡ y ∷ ys) × (x ≡ f y)
map-head f [] x xs e = absurd (nil≢cons e)
map-head f (y ∷ l) x xs e = (y, l, refl, sym (head-eq_of_cons-eq e))

module _ (d : Deck) where
  -- part p carries rule r, with a charge above the bound; the places of those rules
  too_large : ℕ → ℕ → Bool
  too_large p r = carries d p r && ltb 65535 (rule_charge d p r)

  places_at : ℕ → List ℕ
  places_at p = map (λ r. 64 * p + r) (select (too_large p) (below (M d)))

  charged : ℕ → ℕ → Charged
  charged p r = record { place = 64 * p + r; charge = rule_charge d p r }

  above_at : (p : ℕ)
      → map (λ x. x.place) (select (λ x. ltb 65535 x.charge) (map (charged p) (carried_at d p))) ≡ places_at p
  unfolding places_at too_large charged carried_at
  above_at p =
      let above : ℕ → Bool = λ r. ltb 65535 (rule_charge d p r) in
      ap (map (λ x. x.place)) (select-map (λ x. ltb 65535 x.charge) (charged p) (carried_at d p))
      ∙ map-map (λ x. x.place) (charged p) (select above (carried_at d p))
      ∙ ap (map (λ r. 64 * p + r)) (select-select above (carries d p) (below (M d)))

  above-is : above_bound (carried_charges d) ≡ flat_map places_at (below (N d))
  unfolding above_bound carried_charges charged carried_at
  above-is =
      ap (map (λ x. x.place))
      (select-flat_map (λ x. ltb 65535 x.charge) (λ p. map (charged p) (carried_at d p)) (below (N d)))
      ∙ map-flat_map (λ x. x.place) _ (below (N d))
      ∙ ap (λ f. flat_map f (below (N d))) (fun_ext above_at)

  too_large_lem : (p r : ℕ) → too_large p r ≡ true → (carries d p r ≡ true) × (65535 < rule_charge d p r)
  unfolding too_large
  too_large_lem p r t =
      let above = and_right (carries d p r) (ltb 65535 (rule_charge d p r)) t in
      (and_left (carries d p r) (ltb 65535 (rule_charge d p r)) t, ltb-true 65535 (rule_charge d p r) above)

  within-bound : (p r : ℕ) → carries d p r ≡ true → too_large p r ≡ false → rule_charge d p r ≤ 65535
  unfolding too_large
  within-bound p r c t = ltb-false 65535 (rule_charge d p r) (sym (ap (λ b. b && ltb 65535 (rule_charge d p r)) c) ∙ t)

  none-at : (p : ℕ) → (places_at p ≡ []) ↔ ((r : ℕ) → r < M d → too_large p r ≡ false)
  unfolding places_at
  none-at p =
      let empty = map-eq-nil_iff (λ r. 64 * p + r) {l = select (too_large p) (below (M d))} in
      let none = none_below (too_large p) (M d) in
      (λ h. none.0 (empty.0 h), λ h. empty.1 (none.1 h))

  pub none_above : (above_bound (carried_charges d) ≡ []) ↔ AtMost d 65535
  none_above =
      rw above-is (
        λ h p r l m c.
            let empty = none.0 h p ((below-member (N d) p).0 l) in
            within-bound p r c ((none-at p).0 empty r m),
        λ h. none.1 (λ p l. (none-at p).1 (λ r m. not-true→false (too_large p r) (fits h p r l m))),
      )
    where
      none : (flat_map places_at (below (N d)) ≡ []) ↔ ((p : ℕ) → member p (below (N d)) ≡ true → places_at p ≡ [])
      none = flat_map-none places_at (below (N d))

      fits : AtMost d 65535 → (p r : ℕ) → member p (below (N d)) ≡ true → r < M d
          → too_large p r ≡ true → ⊥
      fits h p r l m t =
          let both = too_large_lem p r t in
          omega (arith, both.1, h p r ((below-member (N d) p).1 l) m both.0)

  -- the first place at part p is that of the first rule there
  first-at : (p x : ℕ) (xs : List ℕ) → places_at p ≡ x ∷ xs
      → (r : ℕ) × (x ≡ 64 * p + r) × (r < M d) × (too_large p r ≡ true) × ((s : ℕ) → s < r → too_large p s ≡ false)
  unfolding places_at
  first-at p x xs e =
      let head = map-head (λ r. 64 * p + r) (select (too_large p) (below (M d))) x xs e in
      let first = select-first (too_large p) (M d) head.0 head.1 head.2 in
      (head.0, head.3, first.1, first.0, first.2)

  pub first_above : M d ≤ 64 → (x : ℕ) (xs : List ℕ) → above_bound (carried_charges d) ≡ x ∷ xs → FirstAbove d x
  first_above fits x xs e =
      record {
        part = p;
        rule = r;
        part_known = part.3;
        rule_known = rule.2;
        place = rule.1;
        carried = (too_large_lem p r rule.3).0;
        above = (too_large_lem p r rule.3).1;
        lowest = λ q s _ m c h. within-bound q s c (lower q s m h);
      }
    where
      part : (p : ℕ) × (ys : List ℕ) × (places_at p ≡ x ∷ ys) × (p < N d) × ((q : ℕ) → q < p → places_at q ≡ [])
      part = flat_map-first places_at (N d) x xs (sym above-is ∙ e)

      p : ℕ
      p = part.0

      rule : (r : ℕ) × (x ≡ 64 * p + r) × (r < M d) × (too_large p r ≡ true) × ((s : ℕ) → s < r → too_large p s ≡ false)
      rule = first-at p x part.1 part.2

      r : ℕ
      r = rule.0

      lower : (q s : ℕ) → s < M d → 64 * q + s < x → too_large q s ≡ false
      lower q s m h =
          ⊎_elim
          (λ (f : q ≡ p). ap (λ k. too_large k s) f ∙ rule.4 s (omega (arith, rule.1)))
          (λ (f : q < p). (none-at q).0 (part.4 q f) s m)
          (eq-or-lt_of_le (omega (arith, rule.1, rule.2)))
