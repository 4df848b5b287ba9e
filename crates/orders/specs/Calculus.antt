-- The published calculus: source document 000, section 3.2 and Figure 1, as document 01 amends it. An input fires for the
-- channels that it changes, as a commit does, and an empty action makes no update. Assumes nothing.
use Rattle.std.specs.Prelude.{ℕ, ◌<◌, ◌≡◌, ◌⊎◌, ◌↔◌, Bool, true, false, not, ◌&&◌, ◌||◌, cond, List, [], ◌∷◌, map, eqb, ℤ}
use Rattle.lists.specs.Lists.{any_of, select, below, member, is_empty, eq_z, eq_list}
use Rattle.expression.specs.Syntax.{Num, literal, own, far, two, negation}
use Rattle.expression.specs.Syntax.{Truth, constant, opposite, both, compared}
use Rattle.expression.specs.Values.{num_value, truth_value}
use Rattle.deck.specs.Deck.{Deck, Action, Rule, R, M, N, rule_at, part_at, carries, targets}
use Rattle.pool.specs.Updates.{Pair, value_at, eq_pair, is_among}
use Rattle.pool.specs.States.{Machine}

-- ---- states and sets of updates

-- Σ: the value of each resource, here of each channel
abbrev pub State : Type 0
State = ℕ → ℤ

-- Σ[v₁/x₁ … vₖ/xₖ]
unfoldable pub overridden : State → List Pair → State
overridden s [] = s
overridden s (a ∷ l) = overridden (λ c. cond (eqb c a.channel) a.value (s c)) l

-- two states of n channels agree
abbrev pub Agree : ℕ → State → State → Type 0
Agree n s s' = (c : ℕ) → c < n → s c ≡ s' c

-- an update is a list of pairs; it is in a finite set of them
abbrev pub In : List Pair → List (List Pair) → Type 0
In u us = any_of (eq_list eq_pair u) us ≡ true

-- ---- evaluation

-- ⟦act⟧Σ, for an action with no far channel; empty ones are left out of every set of updates
unfoldable pub evaluate : State → Action → List Pair
evaluate s a = map (λ x. record { channel = x.target; value = num_value s s x.value }) a

unfoldable pub updates_from : State → List Action → List (List Pair)
updates_from s actions = select (λ u. not (is_empty u)) (map (evaluate s) actions)

-- Σ ⊨ φ
unfoldable pub satisfies : State → Truth → Bool
satisfies s t = truth_value s s t

-- Active(R, X), X being a set of resources by its test
unfoldable pub active_rules : List Rule → (ℕ → Bool) → List Rule
active_rules rs X = select (λ r. any_of X r.events) rs

unfoldable pub def_upds : List Rule → (ℕ → Bool) → State → List (List Pair)
def_upds rs X s = updates_from s (map (λ r. r.default) (active_rules rs X))

unfoldable pub local_upds : List Rule → (ℕ → Bool) → State → List (List Pair)
local_upds rs X s =
    updates_from s (map (λ r. r.action) (select (λ r. not r.everywhere && satisfies s r.condition) (active_rules rs X)))

-- ---- tasks and their partial evaluation

pub record Task : Type 0 where
  pub condition : Truth
  pub action : Action

-- source document 000, partial evaluation: own channels are replaced by their values, and far channels become own ones
unfoldable pub partial_num : State → Num → Num
partial_num s (literal z) = literal z
partial_num s (own c) = literal (s c)
partial_num s (far c) = own c
partial_num s (two k a b) = two k (partial_num s a) (partial_num s b)
partial_num s (negation a) = negation (partial_num s a)

unfoldable pub partial_truth : State → Truth → Truth
partial_truth s (constant b) = constant b
partial_truth s (opposite t) = opposite (partial_truth s t)
partial_truth s (both k t u) = both k (partial_truth s t) (partial_truth s u)
partial_truth s (compared k a b) = compared k (partial_num s a) (partial_num s b)

unfoldable pub partial_task : State → Rule → Task
partial_task s r =
    record {
      condition = partial_truth s r.condition;
      action = map (λ x. record { target = x.target; value = partial_num s x.value }) r.action;
    }

unfoldable pub ext_tasks : List Rule → (ℕ → Bool) → State → List Task
ext_tasks rs X s = map (partial_task s) (select (λ r. r.everywhere) (active_rules rs X))

-- what a list of tasks comes to at a node: {⟦act⟧Σ | taskᵢ = φ : act ∧ Σ ⊨ φ}
unfoldable pub discovered : List Task → State → List (List Pair)
discovered ts s = updates_from s (map (λ t. t.action) (select (λ t. satisfies s t.condition) ts))

-- ---- nodes

-- R and ι of a node, and how many resources it has
pub record Program : Type 0 where
  pub channels : ℕ
  pub rules : List Rule
  pub invariant : Truth

-- ⟨Σ, Θ⟩; Θ is a set, by what is in it
pub record Node : Type 1 where
  pub state : State
  pub pool : List Pair → Type 0

-- {xᵢ | i ∈ [1..k] ∧ Σ(xᵢ) ≠ Σ'(xᵢ)}
unfoldable pub changed_by : List Pair → State → State → ℕ → Bool
changed_by upd s s' c = member c (map (λ a. a.channel) upd) && not (eq_z (s c) (s' c))

-- the labels upd ▷ T and upd ▶ T
pub data Label : Type 0 where
  executes enters : List Pair → List Task → Label

unfoldable pub tasks_of : Label → List Task
tasks_of (executes upd ts) = ts
tasks_of (enters upd ts) = ts

-- the premises of the rules, upd being the update of the label
module _ (P : Program) (n : Node) (upd : List Pair) (n' : Node) where
  abbrev pub X : ℕ → Bool
  X = changed_by upd n.state n'.state

  -- DefUpds(R, X, Σ') ∪ LocalUpds(R, X, Σ'), and ExtTasks(R, X, Σ')
  abbrev pub New : List Pair → Type 0
  New u = In u (def_upds P.rules X n'.state) ⊎ In u (local_upds P.rules X n'.state)

  abbrev pub sent_tasks : List Task
  sent_tasks = ext_tasks P.rules X n'.state

  -- Θ ∖ {upd}
  abbrev pub Without : List Pair → Type 0
  Without u = n.pool u × (u ≡ upd → ⊥)

  pub record Exec : Type 0 where
    pub picked : n.pool upd
    pub state : Agree P.channels n'.state (overridden n.state upd)
    pub invariant : satisfies n'.state P.invariant ≡ true
    pub pool : (u : List Pair) → n'.pool u ↔ (Without u ⊎ New u)

  -- the state with the update applied breaks the invariant, and stays as it was
  pub record ExecFail : Type 0 where
    pub picked : n.pool upd
    pub fails : satisfies (overridden n.state upd) P.invariant ≡ false
    pub state : Agree P.channels n'.state n.state
    pub pool : (u : List Pair) → n'.pool u ↔ Without u

  pub record Input : Type 0 where
    pub state : Agree P.channels n'.state (overridden n.state upd)
    pub pool : (u : List Pair) → n'.pool u ↔ (n.pool u ⊎ New u)

-- the rules (EXEC), (EXEC-FAIL) and (INPUT)
pub data Acts (P : Program) (n : Node) : Label → Node → Type 1 where
  exec : {upd : List Pair} {n' : Node} → Exec P n upd n' → Acts P n (executes upd (sent_tasks P n upd n')) n'
  exec_fail : {upd : List Pair} {n' : Node} → ExecFail P n upd n' → Acts P n (executes upd []) n'
  input : {upd : List Pair} {n' : Node} → Input P n upd n' → Acts P n (enters upd (sent_tasks P n upd n')) n'

-- the rule (DISC)
pub record Discovers (P : Program) (n : Node) (ts : List Task) (n' : Node) : Type 0 where
  pub state : Agree P.channels n'.state n.state
  pub pool : (u : List Pair) → n'.pool u ↔ (n.pool u ⊎ In u (discovered ts n.state))

-- ---- systems

-- a node for each part of a deck
abbrev pub System : Type 1
System = ℕ → Node

unfoldable pub program_of : Deck → ℕ → Program
program_of d p =
    record { channels = R d; rules = map (rule_at d) (select (carries d p) (below (M d))); invariant = (part_at d p).limit }

-- (STEP): the node p acts, and every other node discovers the tasks of the label, in one step
pub record Step (d : Deck) (S : System) (p : ℕ) (α : Label) (S' : System) : Type 1 where
  pub inside : p < N d
  pub acts : Acts (program_of d p) (S p) α (S' p)
  pub others : (q : ℕ) → q < N d → (q ≡ p → ⊥) → Discovers (program_of d q) (S q) (tasks_of α) (S' q)

-- values and pending updates as a system
unfoldable pub system_of : Machine → System
system_of x p =
    record {
      state = value_at x.values p;
      pool = λ u. is_among (record { part = p; pairs = u }) x.pending ≡ true;
    }

-- ---- Definition 9, the dependency graph

-- x₁ ∈ In(rule) ∧ x₂ ∈ Out(rule)
unfoldable pub leads : ℕ → ℕ → Rule → Bool
leads a b r = member a r.events && (member b (targets r.default) || member b (targets r.action))

-- (x₁, x₂) ∈ E: some rule of some of the n nodes leads from x₁ to x₂
unfoldable pub depends : ℕ → (ℕ → Program) → ℕ → ℕ → Bool
depends n P a b = any_of (λ i. any_of (leads a b) (P i).rules) (below n)
