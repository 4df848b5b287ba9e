-- The two charges as sums over the numbers of the rules and of the parts, as the loops add them up. Assumes nothing.
use Prim.Native.Nat.{ℕ, ◌+◌, ◌*◌, ◌<◌, ◌≤◌}
use mathlib.Core.Path.{◌≡◌, refl, sym, ap, ap₂, ◌∙◌}
use mathlib.Core.Bool.{Bool, true, false, not, ◌&&◌, cond}
use mathlib.Core.List.{List, [], ◌∷◌}
use native.Mathlib.Omega.{arith}
use lib.Dec.{eqb}
use lib.ListN.{get_or}
use borrow.Author.Tests.{eq-eqb, ne_eqb}
use Rattle.lists.specs.Lists.{any_of, sum_of, below, member}
use Rattle.lists.specs.Bits.{bit}
use Rattle.lists.specs.Laws.Steps.{sum_of-filtered, sum_of-only}
use Rattle.deck.specs.Deck.{Deck, M, N, rule_at, carries, targets, active}
use Rattle.deck.specs.Shape.{bits_of, rule_shape, shape_of}
use Rattle.deck.proofs.Laws.Shape.{setting-targets, shape-rule, shape-carries}
use Rattle.graph.specs.Acyclic.{KnownTargets, Acyclic}
use Rattle.charge.specs.Charge.{others, receivers, unless_empty, update_charge, rule_charge}
use Rattle.charge.proofs.Laws.Equations.{defaults, actions, charge-of-update, charge-of-rule}

module _ (d : Deck) where
  -- rule r at part p listens to an update of u; what it adds to the update's charge
  abbrev pub listens : ℕ → List ℕ → ℕ → Bool
  listens p u r = carries d p r && any_of (λ c. member c (rule_at d r).events) u

  abbrev pub heard : ℕ → List ℕ → ℕ → ℕ
  heard p u r = cond (listens p u r) (rule_charge d p r) 0

  -- the charge of rule r's default action at part p
  abbrev pub own : ℕ → ℕ → ℕ
  own p r = unless_empty (defaults d r) (update_charge d p (defaults d r))

  -- the charge of its action at part q
  abbrev pub given : ℕ → ℕ → ℕ
  given r q = unless_empty (actions d r) (update_charge d q (actions d r))

  -- part q gets the action of rule r at part p; what it adds to the rule's charge
  abbrev pub reaches : ℕ → ℕ → ℕ → Bool
  reaches p r q = cond (rule_at d r).everywhere (not (eqb q p)) (eqb q p)

  abbrev pub sent : ℕ → ℕ → ℕ → ℕ
  sent p r q = cond (reaches p r q) (given r q) 0

  received : (f : ℕ → ℕ) (p r : ℕ) → p < N d
      → sum_of f (receivers d p r) ≡ sum_of (λ q. cond (reaches p r q) (f q) 0) (below (N d))
  unfolding receivers others sum_of
  received f p r l = go (rule_at d r).everywhere
    where
      only : ℕ → ℕ
      only q = cond (eqb q p) (f q) 0

      go : (b : Bool) → sum_of f (cond b (others d p) (p ∷ []))
          ≡ sum_of (λ q. cond (cond b (not (eqb q p)) (eqb q p)) (f q) 0) (below (N d))
      go true = sum_of-filtered f (λ q. not (eqb q p)) (below (N d))
      go false =
          let one = sum_of-only only p (λ q h. ap (λ b. cond b (f q) 0) (ne_eqb q p h)) (N d) l in
          let this : only p ≡ f p = ap (λ b. cond b (f p) 0) (eq-eqb p p refl) in
          omega (arith, one, this)

-- an empty action adds nothing, another its charge
pub unless-none : (u : List ℕ) (x : ℕ) → u ≡ [] → unless_empty u x ≡ 0
unfolding unless_empty
unless-none u x e = ap (λ v. unless_empty v x) e

pub unless-some : (u : List ℕ) (x : ℕ) → (u ≡ [] → ⊥) → unless_empty u x ≡ x
unfolding unless_empty
unless-some [] x h = absurd (h refl)
unless-some (c ∷ u) x h = refl

pub when-no : (b : Bool) (x : ℕ) → b ≡ false → cond b x 0 ≡ 0
when-no b x e = ap (λ b. cond b x 0) e

pub when-yes : (b : Bool) (x : ℕ) → b ≡ true → cond b x 0 ≡ x
when-yes b x e = ap (λ b. cond b x 0) e

module _ {d : Deck} (known : KnownTargets d) (acyclic : Acyclic d) (p : ℕ) (l : p < N d) where
  pub update-is : (u : List ℕ) → 1 + sum_of (heard d p u) (below (M d)) ≡ update_charge d p u
  unfolding active
  update-is u =
      sym
      (charge-of-update known acyclic p u l
      ∙ ap (λ x. 1 + x) (sum_of-filtered (rule_charge d p) (listens d p u) (below (M d))))

  pub rule-is : (r : ℕ) → own d p r + sum_of (sent d p r) (below (N d)) ≡ rule_charge d p r
  rule-is r = sym (charge-of-rule known acyclic p r l ∙ ap (λ x. own d p r + x) (received d _ p r l))

-- the same in the numbers of the tables
module _ (rules parts : List ℕ) (R' M' N' : ℕ) (r : ℕ) (h : r < M') where
  abbrev d : Deck
  d = shape_of rules parts R' M' N'

  pub defaults-are : defaults d r ≡ bits_of 32 (get_or rules (8 * r + 1) 0)
  unfolding rule_shape
  defaults-are = ap (λ x. targets x.default) (shape-rule rules parts R' M' N' r h) ∙ setting-targets _

  pub actions-are : actions d r ≡ bits_of 32 (get_or rules (8 * r + 2) 0)
  unfolding rule_shape
  actions-are = ap (λ x. targets x.action) (shape-rule rules parts R' M' N' r h) ∙ setting-targets _

  pub listens-is : (p : ℕ) (u : List ℕ) → p < N' → M' ≤ 64
      → listens d p u r ≡ (bit (get_or parts (4 * p) 0) r && any_of (λ c. member c (bits_of 32 (get_or rules (8 * r) 0))) u)
  unfolding rule_shape
  listens-is p u l m =
      ap₂ (λ a b. a && b)
      (shape-carries rules parts R' M' N' p r l (omega arith))
      (ap (λ x. any_of (λ c. member c x.events) u) (shape-rule rules parts R' M' N' r h))
