-- Document 01, "Dependency graph and charge": "On an acyclic deck the charge of an update and the charge of a rule are defined
-- from each other". An update stands here by its targets. Assumes nothing.
use Rattle.std.specs.Prelude.{ℕ, zero, suc, ◌+◌, ◌*◌, not, cond, eqb, ltb}
use mathlib.Core.List.{List, [], ◌∷◌, map, flat_map}
use Rattle.lists.specs.Lists.{select, sum_of, largest, below}
use Rattle.deck.specs.Limits.{limits}
use Rattle.deck.specs.Deck.{Deck, R, M, N, rule_at, carries, targets, active}

-- "all other parts", rising
unfoldable pub others : Deck → ℕ → List ℕ
others d p = select (λ q. not (eqb q p)) (below (N d))

-- the parts that rule r's action goes to: p itself for kind 0, all others for kind 1
unfoldable pub receivers : Deck → ℕ → ℕ → List ℕ
receivers d p r = cond (rule_at d r).everywhere (others d p) (p ∷ [])

-- "An empty action adds 0"
unfoldable pub unless_empty : List ℕ → ℕ → ℕ
unless_empty [] x = 0
unless_empty (t ∷ ts) x = x

-- The two charges at most k steps deep
unfoldable mutual
  -- "1, plus the charge at p of every rule carried by p that has a target of u among its events"
  pub update_by : ℕ → Deck → ℕ → List ℕ → ℕ
  update_by zero d p u = 0
  update_by (suc k) d p u = 1 + sum_of (λ r. rule_by k d p r) (active d p u)

  -- "the charge at p of its default action, plus, for kind 0, that of its action at p; for kind 1, the sum of its action's
  -- charges at all other parts"
  pub rule_by : ℕ → Deck → ℕ → ℕ → ℕ
  rule_by zero d p r = 0
  rule_by (suc k) d p r =
      let default = targets (rule_at d r).default in
      let action = targets (rule_at d r).action in
      unless_empty default (update_by k d p default) + sum_of (λ q. unless_empty action (update_by k d q action)) (receivers d p r)

-- deep enough on an acyclic deck: along a path of at most R channels updates and rules take turns
unfoldable pub depth : Deck → ℕ
depth d = 2 * R d + 3

unfoldable pub update_charge : Deck → ℕ → List ℕ → ℕ
update_charge d p u = update_by (depth d) d p u

unfoldable pub rule_charge : Deck → ℕ → ℕ → ℕ
rule_charge d p r = rule_by (depth d) d p r

-- a carried rule's charge, and its place in a refusal, "64 times part + rule"
pub record Charged : Type 0 where
  pub place : ℕ
  pub charge : ℕ

-- every carried rule at every part that carries it, lowest place first
unfoldable pub carried_charges : Deck → List Charged
carried_charges d =
    flat_map
    (λ p. map (λ r. record { place = 64 * p + r; charge = rule_charge d p r }) (select (carries d p) (below (M d))))
    (below (N d))

-- "the largest charge of any carried rule (0 if none)"
unfoldable pub largest_charge : Deck → ℕ
largest_charge d = largest (λ x. x.charge) (carried_charges d)

-- 8: the places whose charge is above 65,535
unfoldable pub above_bound : List Charged → List ℕ
above_bound l = map (λ x. x.place) (select (λ x. ltb limits.charge x.charge) l)

-- to open all definitions of this file, on an `unfolding` line
unfoldable pub charges : Unit {0}
unfolding others receivers unless_empty update_by depth update_charge rule_charge carried_charges largest_charge above_bound
charges = tt
