-- The largest charge of any carried rule: it is at most b exactly if the charge of every carried rule is, and it is the charge
-- of one of them. Assumes nothing.
use Prim.Native.Nat.{ℕ, ◌≤◌, ◌<◌}
use Rattle.std.specs.Prelude.{◌≡◌, ◌↔◌, ◌⊎◌, Bool, false, List, []}
use Rattle.std.proofs.Common.{sym, ◌∙◌, subst, le_refl, arith}
use Rattle.std.proofs.Math.Path.{ap, fun_ext}
use Rattle.std.proofs.Math.Logic.{inl, inr, ⊎_elim}
use Rattle.std.proofs.Math.Bool.{true}
use Rattle.lists.specs.Lists.{any_of, select, largest, below, member}
use Rattle.lists.specs.Laws.Booleans.{contradiction, true-or-false}
use Rattle.lists.specs.Laws.Members.{member-empty}
use Rattle.lists.specs.Laws.Below.{below-member, any_of-below, select-below}
use Rattle.lists.specs.Laws.Sums.{largest-bound, largest-found, largest-map, largest-flat_map}
use Rattle.deck.specs.Deck.{Deck, M, N, carries}
use Rattle.charge.specs.Charge.{rule_charge, carried_charges, largest_charge}

-- every rule of the deck, at every part that carries it, has a charge of at most b
abbrev pub AtMost : Deck → ℕ → Type 0
AtMost d b = (p r : ℕ) → p < N d → r < M d → carries d p r ≡ true → rule_charge d p r ≤ b

-- a carried rule of charge n
pub record CarriedCharge (d : Deck) (n : ℕ) : Type 0 where
  pub part : ℕ
  pub rule : ℕ
  pub part_known : part < N d
  pub rule_known : rule < M d
  pub carried : carries d part rule ≡ true
  pub charge : rule_charge d part rule ≡ n

-- no part carries a rule
abbrev pub NoneCarried : Deck → Type 0
NoneCarried d = (p r : ℕ) → p < N d → r < M d → carries d p r ≡ true → ⊥

-- "the largest charge of any carried rule (0 if none)"
pub record LargestOf (d : Deck) (n : ℕ) : Type 0 where
  pub attained : CarriedCharge d n ⊎ (NoneCarried d × (n ≡ 0))
  pub most : AtMost d n

module _ (d : Deck) where
  -- the rules that part p carries
  unfoldable pub carried_at : ℕ → List ℕ
  carried_at p = select (carries d p) (below (M d))

  in-carried : (p r : ℕ) → (member r (carried_at p) ≡ true) ↔ ((r < M d) × (carries d p r ≡ true))
  unfolding carried_at
  in-carried p r = select-below (carries d p) (M d) r

  -- the largest over the parts of the largest at each
  pub largest-is : largest_charge d ≡ largest (λ p. largest (rule_charge d p) (carried_at p)) (below (N d))
  unfolding largest_charge carried_charges carried_at
  largest-is =
      largest-flat_map _ _ (below (N d))
      ∙ ap (λ f. largest f (below (N d))) (fun_ext (λ p. largest-map _ _ (carried_at p)))

  pub largest-charge : (b : ℕ) → (largest_charge d ≤ b) ↔ AtMost d b
  largest-charge b =
      let over_parts = largest-bound (λ p. largest (rule_charge d p) (carried_at p)) (below (N d)) b in
      rw largest-is (
        λ h p r l m c.
            (largest-bound (rule_charge d p) (carried_at p) b).0 (over_parts.0 h p ((below-member (N d) p).0 l)) r
            ((in-carried p r).1 (m, c)),
        λ h.
            over_parts.1
            (λ p l.
            (largest-bound (rule_charge d p) (carried_at p) b).1
            (λ r m. let k = (in-carried p r).0 m in h p r ((below-member (N d) p).1 l) k.0 k.1)),
      )

  -- some part carries a rule
  some_carried : Bool
  some_carried = any_of (λ p. any_of (carries d p) (below (M d))) (below (N d))

  -- the largest over the parts is that at one of them, and there that of one rule, or 0 and so that of every rule
  attained-by : (p r : ℕ) → p < N d → r < M d → carries d p r ≡ true → CarriedCharge d (largest_charge d)
  unfolding largest
  attained-by p r l m c =
      ⊎_elim (λ e. member-empty p (subst (λ ps. member p ps ≡ true) e ((below-member (N d) p).0 l))) part
      (largest-found at_part (below (N d)))
    where
      at_part : ℕ → ℕ
      at_part q = largest (rule_charge d q) (carried_at q)

      rule : (q : ℕ) → q < N d → at_part q ≡ largest_charge d
          → (carried_at q ≡ []) ⊎ ((s : ℕ) × (member s (carried_at q) ≡ true) × (rule_charge d q s ≡ at_part q))
          → CarriedCharge d (largest_charge d)
      rule q k e (inl none) =
          let zero : at_part q ≡ 0 = ap (largest (rule_charge d q)) none in
          let small = (largest-charge (largest_charge d)).0 (le_refl (largest_charge d)) p r l m c in
          record { part = p; rule = r; part_known = l; rule_known = m; carried = c; charge = omega arith }
      rule q k e (inr h) =
          let known = (in-carried q h.0).0 h.1 in
          record { part = q; rule = h.0; part_known = k; rule_known = known.0; carried = known.1; charge = h.2 ∙ e }

      part : (q : ℕ) × (member q (below (N d)) ≡ true) × (at_part q ≡ largest at_part (below (N d))) → CarriedCharge d (largest_charge d)
      part h =
          let q = h.0 in
          rule q ((below-member (N d) q).1 h.1) (h.2 ∙ sym largest-is) (largest-found (rule_charge d q) (carried_at q))

  none-carried : some_carried ≡ false → NoneCarried d
  unfolding some_carried
  none-carried t p r l m c =
      contradiction
      ((any_of-below (λ p. any_of (carries d p) (below (M d))) (N d)).1 (p, l, (any_of-below (carries d p) (M d)).1 (r, m, c)))
      t

  pub largest-of : LargestOf d (largest_charge d)
  unfolding some_carried
  largest-of =
      record {
        attained = ⊎_elim (λ t. inl (by t)) (λ t. inr (none-carried t, zero t)) (true-or-false some_carried);
        most = (largest-charge (largest_charge d)).0 (le_refl (largest_charge d));
      }
    where
      by : some_carried ≡ true → CarriedCharge d (largest_charge d)
      by t =
          let part = (any_of-below (λ p. any_of (carries d p) (below (M d))) (N d)).0 t in
          let rule = (any_of-below (carries d part.0) (M d)).0 part.2 in
          attained-by part.0 rule.0 part.1 rule.1 rule.2

      zero : some_carried ≡ false → largest_charge d ≡ 0
      zero t = omega (arith, (largest-charge 0).1 (λ p r l m c. absurd (none-carried t p r l m c)))
