-- The charges see of a deck its counts and tests only, and of an update its members only. So a deck and the shape of its
-- tables have the same charges. Assumes nothing.
use Prim.Native.Nat.{ℕ, zero, suc, ◌+◌, ◌*◌}
use Rattle.std.specs.Prelude.{◌≡◌, refl, ◌&&◌, eqb}
use Rattle.std.proofs.Common.{sym, ◌∙◌}
use Rattle.std.proofs.Math.Path.{ap, ap₂, fun_ext}
use Rattle.std.proofs.Math.Bool.{Bool, not, cond}
use mathlib.Core.List.{List, [], ◌∷◌, map, flat_map}
use Rattle.lists.specs.Lists.{any_of, select, sum_of, largest, below, member}
use Rattle.lists.specs.Laws.Members.{member-empty, member-head}
use Rattle.lists.specs.Laws.Sums.{sum_of-cong}
use Rattle.lists.specs.Laws.Same.{select-cong, SameMembers, any_of-same}
use Rattle.deck.specs.Deck.{Deck, R, M, N, rule_at, carries, active}
use Rattle.deck.specs.Shape.{shape_of}
use Rattle.deck.specs.Tables.{TablesOf, Ranged}
use Rattle.deck.proofs.Laws.Tables.{SameTests, shape-tests}
use Rattle.charge.specs.Charge.{Charged, others, receivers, unless_empty, update_by, rule_by, depth, update_charge, rule_charge}
use Rattle.charge.specs.Charge.{carried_charges, largest_charge, above_bound}
use Rattle.charge.specs.Answer.{bound_by, bound_of}
use Rattle.charge.proofs.Laws.Equations.{defaults, actions, update-step, rule-step}

-- lists with the same members are both empty or neither
same-unless : (u v : List ℕ) (x y : ℕ) → SameMembers u v → x ≡ y → unless_empty u x ≡ unless_empty v y
unfolding unless_empty
same-unless [] [] x y h e = refl
same-unless [] (c ∷ v) x y h e = member-empty c (h c ∙ member-head c v)
same-unless (c ∷ u) [] x y h e = member-empty c (sym (h c) ∙ member-head c u)
same-unless (c ∷ u) (b ∷ v) x y h e = e

module _ {d e : Deck} (s : SameTests d e) where
  same-active : (p : ℕ) (u v : List ℕ) → SameMembers u v → active d p u ≡ active e p v
  unfolding active
  same-active p u v h =
      let hears : Deck → List ℕ → ℕ → Bool = λ d u r. carries d p r && any_of (λ c. member c (rule_at d r).events) u in
      select-cong (hears d u) (hears e v) (below (M d))
      (λ r _.
      ap₂ (λ a b. a && b) (s.carried p r)
      (any_of-same (λ c. member c (rule_at d r).events) (λ c. member c (rule_at e r).events) u v h (s.events r)))
      ∙ ap (λ n. select (hears e v) (below n)) s.rules

  same-receivers : (p r : ℕ) → receivers d p r ≡ receivers e p r
  unfolding receivers others
  same-receivers p r =
      ap₂ (λ b n. cond b (select (λ q. not (eqb q p)) (below n)) (p ∷ [])) (s.kind r) s.parts

  mutual
    unfolding update_by

    same_update : (k p : ℕ) (u v : List ℕ) → SameMembers u v → update_by k d p u ≡ update_by k e p v
    same_update zero p u v h = refl
    same_update (suc k) p u v h =
        update-step d k p u
        ∙ ap (λ x. 1 + x)
        (sum_of-cong (rule_by k d p) (rule_by k e p) (active d p u) (λ r _. same-rule k p r)
        ∙ ap (sum_of (rule_by k e p)) (same-active p u v h))
        ∙ sym (update-step e k p v)

    same-rule : (k p r : ℕ) → rule_by k d p r ≡ rule_by k e p r
    same-rule zero p r = refl
    same-rule (suc k) p r =
        rule-step d k p r
        ∙ ap₂ ◌+◌
        (same-unless (defaults d r) (defaults e r) _ _ (s.default r)
        (same_update k p (defaults d r) (defaults e r) (s.default r)))
        (sum_of-cong (λ q. unless_empty (actions d r) (update_by k d q (actions d r)))
        (λ q. unless_empty (actions e r) (update_by k e q (actions e r)))
        (receivers d p r)
        (λ q _.
        same-unless (actions d r) (actions e r) _ _ (s.action r)
        (same_update k q (actions d r) (actions e r) (s.action r)))
        ∙ ap (sum_of (λ q. unless_empty (actions e r) (update_by k e q (actions e r)))) (same-receivers p r))
        ∙ sym (rule-step e k p r)

  same-depth : depth d ≡ depth e
  unfolding depth
  same-depth = ap (λ n. 2 * n + 3) s.channels

  -- the charges of updates with the same members, and of rules
  pub same-update-charge : (p : ℕ) (u v : List ℕ) → SameMembers u v → update_charge d p u ≡ update_charge e p v
  unfolding update_charge
  same-update-charge p u v h = same_update (depth d) p u v h ∙ ap (λ k. update_by k e p v) same-depth

  pub same-rule-charge : (p r : ℕ) → rule_charge d p r ≡ rule_charge e p r
  unfolding rule_charge
  same-rule-charge p r = same-rule (depth d) p r ∙ ap (λ k. rule_by k e p r) same-depth

  pub same-carried-charges : carried_charges d ≡ carried_charges e
  unfolding carried_charges
  same-carried-charges =
      ap₂ (λ rules parts. listed (carries d) (rule_charge d) rules parts) s.rules s.parts
      ∙ ap₂ (λ c f. listed c f (M e) (N e))
      (fun_ext (λ p. fun_ext (s.carried p)))
      (fun_ext (λ p. fun_ext (same-rule-charge p)))
    where
      listed : (ℕ → ℕ → Bool) → (ℕ → ℕ → ℕ) → ℕ → ℕ → List Charged
      listed c f rules parts =
          flat_map (λ p. map (λ r. record { place = 64 * p + r; charge = f p r }) (select (c p) (below rules))) (below parts)

  pub same-largest-charge : largest_charge d ≡ largest_charge e
  unfolding largest_charge
  same-largest-charge = ap (largest (λ x. x.charge)) same-carried-charges

  pub same-bound : bound_of d ≡ bound_of e
  unfolding bound_of
  same-bound = ap₂ bound_by (ap above_bound same-carried-charges) same-largest-charge

-- the shape of a deck's tables
module _ {d : Deck} {rules parts : List ℕ} (t : TablesOf d rules parts) (g : Ranged d) where
  pub shape-update-charge : (p : ℕ) (u : List ℕ)
      → update_charge (shape_of rules parts (R d) (M d) (N d)) p u ≡ update_charge d p u
  shape-update-charge p u = same-update-charge (shape-tests t g) p u u (λ c. refl)

  pub shape-rule-charge : (p r : ℕ) → rule_charge (shape_of rules parts (R d) (M d) (N d)) p r ≡ rule_charge d p r
  shape-rule-charge = same-rule-charge (shape-tests t g)

  pub shape-carried-charges : carried_charges (shape_of rules parts (R d) (M d) (N d)) ≡ carried_charges d
  shape-carried-charges = same-carried-charges (shape-tests t g)

  pub shape-largest-charge : largest_charge (shape_of rules parts (R d) (M d) (N d)) ≡ largest_charge d
  shape-largest-charge = same-largest-charge (shape-tests t g)

  pub shape-bound : bound_of (shape_of rules parts (R d) (M d) (N d)) ≡ bound_of d
  shape-bound = same-bound (shape-tests t g)
