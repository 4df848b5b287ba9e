-- "On an acyclic deck the charge of an update and the charge of a rule are defined from each other": the depth is enough, the
-- document's two equations hold, and whatever satisfies them is the charge. Assumes nothing.
use Rattle.std.specs.Prelude.{ℕ, zero, suc, ◌+◌, ◌*◌, ◌≤◌, ◌<◌, ◌≡◌, Bool, cond, eqb}
use Rattle.std.proofs.Math.Path.{refl}
use Rattle.std.proofs.Common.{sym, ap, ap₂, ◌∙◌}
use Rattle.std.proofs.Math.Logic.{⊎_elim}
use Rattle.std.proofs.Math.Bool.{true, false, not}
use mathlib.Core.List.{List, [], ◌∷◌}
use native.Mathlib.Omega.{arith}
use Rattle.lists.specs.Lists.{sum_of, member}
use Rattle.lists.specs.Laws.Booleans.{or_left, or_right}
use Rattle.lists.specs.Laws.Members.{member-empty, member-cases}
use Rattle.lists.specs.Laws.Below.{select-below}
use Rattle.lists.specs.Laws.Sums.{sum_of-cong}
use Rattle.deck.specs.Deck.{Deck, R, N, rule_at, targets, active}
use Rattle.graph.specs.Graph.{assigns, edge}
use Rattle.graph.proofs.Laws.Reach.{height, height-most, height-less, height-falls}
use Rattle.graph.proofs.Laws.Edges.{carried-intro, edge-intro}
use Rattle.graph.proofs.Laws.Cycles.{edge-inside}
use Rattle.graph.specs.Acyclic.{KnownTargets, Acyclic}
use Rattle.charge.specs.Charge.{others, receivers, unless_empty, update_by, rule_by, depth, update_charge, rule_charge}
use Rattle.charge.proofs.Laws.Active.{active-member}

module _ (d : Deck) where
  -- a rule's two updates
  abbrev pub defaults : ℕ → List ℕ
  defaults r = targets (rule_at d r).default

  abbrev pub actions : ℕ → List ℕ
  actions r = targets (rule_at d r).action

  -- one step of each definition
  pub update-step : (k p : ℕ) (u : List ℕ) → update_by (suc k) d p u ≡ 1 + sum_of (rule_by k d p) (active d p u)
  unfolding update_by
  update-step k p u = refl

  pub rule-step : (k p r : ℕ) → rule_by (suc k) d p r
      ≡ unless_empty (defaults r) (update_by k d p (defaults r))
      + sum_of (λ q. unless_empty (actions r) (update_by k d q (actions r))) (receivers d p r)
  unfolding update_by
  rule-step k p r = refl

  deep : depth d ≡ suc (2 * R d + 2)
  unfolding depth
  deep = omega arith

  pub update-at-least-one : (p : ℕ) (u : List ℕ) → 1 ≤ update_charge d p u
  unfolding update_charge
  update-at-least-one p u = rw (deep, update-step (2 * R d + 2) p u) (omega arith)

  -- a rule's action goes to parts of the deck
  pub others-inside : (p q : ℕ) → member q (others d p) ≡ true → q < N d
  unfolding others
  others-inside p q m = ((select-below (λ q. not (eqb q p)) (N d) q).0 m).0

  receivers-inside : (p q r : ℕ) → p < N d → member q (receivers d p r) ≡ true → q < N d
  unfolding receivers
  receivers-inside p q r l m = go (rule_at d r).everywhere m
    where
      go : (b : Bool) → member q (cond b (others d p) (p ∷ [])) ≡ true → q < N d
      go true m = others-inside p q m
      go false m = ⊎_elim (λ e. omega arith) (λ h. member-empty q h) (member-cases q p [] m)

module _ {d : Deck} (known : KnownTargets d) (acyclic : Acyclic d) where
  -- every channel of u leads to less than m channels; every channel that rule r assigns does
  Low : ℕ → List ℕ → Type 0
  Low m u = (c : ℕ) → member c u ≡ true → height (R d) (edge d) c < m

  LowRule : ℕ → ℕ → Type 0
  LowRule m r = (c : ℕ) → assigns d r c ≡ true → height (R d) (edge d) c < m

  low-defaults : (m r : ℕ) → LowRule m r → Low m (defaults d r)
  unfolding Low LowRule assigns
  low-defaults m r h c t = h c (or_left (member c (actions d r)) t)

  low-actions : (m r : ℕ) → LowRule m r → Low m (actions d r)
  unfolding Low LowRule assigns
  low-actions m r h c t = h c (or_right (member c (defaults d r)) t)

  -- an active rule assigns lower channels than some channel of the update
  low-active : (m p r : ℕ) (u : List ℕ) → p < N d → Low m u → member r (active d p u) ≡ true
      → (k : ℕ) × (k < m) × LowRule k r
  unfolding Low LowRule
  low-active m p r u l h a =
      let found = (active-member d p u r).0 a in
      let c = found.2.0 in
      let carried = carried-intro d p r l found.1 in (
        height (R d) (edge d) c,
        h c found.2.1,
        λ b t.
            height-falls (R d) (edge d) (edge-inside known) acyclic
            (edge-intro d r c b found.0 carried found.2.2 t),
      )

  -- charges that are as deep as those of the definition, by the same two equations at every part
  record Equated (U : ℕ → ℕ → List ℕ → ℕ) (Q : ℕ → ℕ → ℕ → ℕ) : Type 0 where
    pub update : (k p : ℕ) (u : List ℕ) → p < N d → U (suc k) p u ≡ 1 + sum_of (Q k p) (active d p u)
    pub rule : (k p r : ℕ) → p < N d → Q (suc k) p r
        ≡ unless_empty (defaults d r) (U k p (defaults d r))
        + sum_of (λ q. unless_empty (actions d r) (U k q (actions d r))) (receivers d p r)

  module _ (U : ℕ → ℕ → List ℕ → ℕ) (Q : ℕ → ℕ → ℕ → ℕ) (x : Equated U Q) where
    mutual
      update_same : (k m p : ℕ) (u : List ℕ) → p < N d → Low m u → 2 * m < k → update_by k d p u ≡ U k p u
      update_same zero m p u l h e = absurd (omega arith)
      update_same (suc k) m p u l h e =
          update-step d k p u
          ∙ ap (λ x. 1 + x)
          (sum_of-cong (rule_by k d p) (Q k p) (active d p u)
          (λ r a. let low = low-active m p r u l h a in rule-same k low.0 p r l low.2 (omega (arith, low.1))))
          ∙ sym (x.update k p u l)

      rule-same : (k m p r : ℕ) → p < N d → LowRule m r → 2 * m + 1 < k → rule_by k d p r ≡ Q k p r
      rule-same zero m p r l h e = absurd (omega arith)
      rule-same (suc k) m p r l h e =
          rule-step d k p r
          ∙ ap₂ ◌+◌
          (ap (unless_empty (defaults d r)) (update_same k m p (defaults d r) l (low-defaults m r h) (omega arith)))
          (sum_of-cong _ _ (receivers d p r)
          (λ q z.
          ap (unless_empty (actions d r))
          (update_same k m q (actions d r) (receivers-inside d p q r l z) (low-actions m r h) (omega arith))))
          ∙ sym (x.rule k p r l)

    -- the depth is enough for every update and every rule
    updates-same : (p : ℕ) (u : List ℕ) → p < N d → update_charge d p u ≡ U (depth d) p u
    unfolding update_charge Low depth
    updates-same p u l =
        update_same (depth d) (suc (R d)) p u l (λ c _. omega (arith, height-most (R d) (edge d) c)) (omega arith)

    rules-same : (p r : ℕ) → p < N d → rule_charge d p r ≡ Q (depth d) p r
    unfolding rule_charge LowRule depth
    rules-same p r l =
        rule-same (depth d) (R d) p r l
        (λ c t. height-less (R d) (edge d) (edge-inside known) acyclic c (known.known r c t)) (omega arith)

  -- one step deeper
  deeper : Equated (λ k. update_by (suc k) d) (λ k. rule_by (suc k) d)
  deeper = record { update = λ k p u _. update-step d (suc k) p u; rule = λ k p r _. rule-step d (suc k) p r }

  pub charge-of-update : (p : ℕ) (u : List ℕ) → p < N d → update_charge d p u ≡ 1 + sum_of (rule_charge d p) (active d p u)
  unfolding rule_charge
  charge-of-update p u l = updates-same _ _ deeper p u l ∙ update-step d (depth d) p u

  pub charge-of-rule : (p r : ℕ) → p < N d → rule_charge d p r
      ≡ unless_empty (targets (rule_at d r).default) (update_charge d p (targets (rule_at d r).default))
      + sum_of (λ q. unless_empty (targets (rule_at d r).action) (update_charge d q (targets (rule_at d r).action)))
      (receivers d p r)
  unfolding update_charge
  charge-of-rule p r l = rules-same _ _ deeper p r l ∙ rule-step d (depth d) p r

-- document 01's two equations at every part, of charges U of updates and Q of rules
pub record ChargeEquations (d : Deck) (U : ℕ → List ℕ → ℕ) (Q : ℕ → ℕ → ℕ) : Type 0 where
  pub update : (p : ℕ) (u : List ℕ) → p < N d → U p u ≡ 1 + sum_of (Q p) (active d p u)
  pub rule : (p r : ℕ) → p < N d → Q p r
      ≡ unless_empty (targets (rule_at d r).default) (U p (targets (rule_at d r).default))
      + sum_of (λ q. unless_empty (targets (rule_at d r).action) (U q (targets (rule_at d r).action))) (receivers d p r)

-- the charges satisfy them, and nothing else does
pub record Charges (d : Deck) : Type 1 where
  pub equations : ChargeEquations d (update_charge d) (rule_charge d)
  pub updates : (U : ℕ → List ℕ → ℕ) (Q : ℕ → ℕ → ℕ) → ChargeEquations d U Q → (p : ℕ) (u : List ℕ) → p < N d → U p u ≡ update_charge d p u
  pub rules : (U : ℕ → List ℕ → ℕ) (Q : ℕ → ℕ → ℕ) → ChargeEquations d U Q → (p r : ℕ) → p < N d → Q p r ≡ rule_charge d p r

pub charge-unique : (d : Deck) → KnownTargets d → Acyclic d → Charges d
charge-unique d known acyclic =
    record {
      equations = record { update = charge-of-update known acyclic; rule = charge-of-rule known acyclic };
      updates = λ U Q x p u l. sym (updates-same known acyclic (λ _. U) (λ _. Q) (equated U Q x) p u l);
      rules = λ U Q x p r l. sym (rules-same known acyclic (λ _. U) (λ _. Q) (equated U Q x) p r l);
    }
  where
    equated : (U : ℕ → List ℕ → ℕ) (Q : ℕ → ℕ → ℕ) → ChargeEquations d U Q → Equated known acyclic (λ _. U) (λ _. Q)
    equated U Q x = record { update = λ _. x.update; rule = λ _. x.rule }
