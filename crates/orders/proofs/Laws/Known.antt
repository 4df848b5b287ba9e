-- Default and local updates, sent tasks and limits depend on the values of known channels alone. Assumes nothing.
use Rattle.std.specs.Prelude.{ℕ, ◌≤◌, ◌≡◌, Bool, true, false, ◌&&◌, ltb}
use Rattle.std.proofs.Math.Path.{refl, sym, ap, ap₂, fun_ext}
use Rattle.std.proofs.Common.{◌∙◌}
use Rattle.std.proofs.Math.Bool.{not}
use mathlib.Core.List.{List, [], ◌∷◌, map}
use native.Mathlib.Omega.{arith}
use borrow.Author.Tests.{ltb-true}
use Rattle.lists.specs.Lists.{all_of, select, member, is_empty, eq_z}
use Rattle.lists.specs.Laws.Booleans.{and_left, and_right}
use Rattle.lists.specs.Laws.Alls.{all_of-head, all_of-tail}
use Rattle.lists.specs.Laws.Members.{all_of-member}
use Rattle.lists.specs.Laws.Filters.{select-map}
use Rattle.expression.specs.Syntax.{Num, literal, own, far, two, negation}
use Rattle.expression.specs.Syntax.{Truth, constant, opposite, both, compared}
use Rattle.expression.specs.Reading.{Scope}
use Rattle.expression.specs.Encoding.{good_num, good_truth}
use Rattle.expression.proofs.Laws.Agreement.{num-agree, truth-agree}
use Rattle.deck.specs.Deck.{Deck, Assignment, Action, Rule, R, rule_at, part_at}
use Rattle.deck.specs.Layout.{own_only, task_scope}
use Rattle.deck.proofs.Laws.Formed.{owns-task}
use Rattle.deck.proofs.Laws.Scoped.{task-fars}
use Rattle.deck.specs.Facts.{Scoped, all_in}
use Rattle.pool.specs.Updates.{Pair}
use Rattle.pool.proofs.Laws.Values.{channels_in}
use Rattle.orders.specs.Calculus.{State, Agree, evaluate, updates_from, satisfies, active_rules, def_upds, local_upds, partial_num}
use Rattle.orders.specs.Calculus.{partial_truth, partial_task, ext_tasks, changed_by, program_of}
use Rattle.orders.proofs.Laws.Active.{numbers, active-rules}
use Rattle.orders.proofs.Laws.Fired.{local}

-- ---- expressions, in a scope of at most n channels

abbrev partial_assignment : State → Assignment → Assignment
partial_assignment s x = record { target = x.target; value = partial_num s x.value }

module _ (n : ℕ) (s t : State) (same : Agree n s t) (sc : Scope) (few : sc.owns ≤ n) where
  partial-num-same : (e : Num) → good_num sc e ≡ true → partial_num s e ≡ partial_num t e
  unfolding partial_num good_num
  partial-num-same (literal z) h = refl
  partial-num-same (own c) h = ap literal (same c (omega (arith, ltb-true c sc.owns h)))
  partial-num-same (far c) h = refl
  partial-num-same (two k a b) h =
      ap₂ (two k) (partial-num-same a (and_left (good_num sc a) (good_num sc b) h))
      (partial-num-same b (and_right (good_num sc a) (good_num sc b) h))
  partial-num-same (negation a) h = ap negation (partial-num-same a h)

  partial-truth-same : (e : Truth) → good_truth sc e ≡ true → partial_truth s e ≡ partial_truth t e
  unfolding partial_truth good_truth
  partial-truth-same (constant b) h = refl
  partial-truth-same (opposite a) h = ap opposite (partial-truth-same a h)
  partial-truth-same (both k a b) h =
      ap₂ (both k) (partial-truth-same a (and_left (good_truth sc a) (good_truth sc b) h))
      (partial-truth-same b (and_right (good_truth sc a) (good_truth sc b) h))
  partial-truth-same (compared k a b) h =
      ap₂ (compared k) (partial-num-same a (and_left (good_num sc a) (good_num sc b) h))
      (partial-num-same b (and_right (good_num sc a) (good_num sc b) h))

  partial-action-same : (a : Action) → all_in sc a ≡ true → map (partial_assignment s) a ≡ map (partial_assignment t) a
  partial-action-same [] h = refl
  partial-action-same (x ∷ a) h =
      ap₂ (λ v l. record { target = x.target; value = v } ∷ l)
      (partial-num-same x.value (all_of-head (λ x. good_num sc x.value) x a h))
      (partial-action-same a (all_of-tail (λ x. good_num sc x.value) x a h))

  module _ (fars : sc.fars ≤ n) where
    satisfies-same : (e : Truth) → good_truth sc e ≡ true → satisfies s e ≡ satisfies t e
    unfolding satisfies
    satisfies-same e h = truth-agree sc s t s t (λ c l. same c (omega arith)) (λ c l. same c (omega arith)) e h

    evaluate-same : (a : Action) → all_in sc a ≡ true → evaluate s a ≡ evaluate t a
    unfolding evaluate
    evaluate-same [] h = refl
    evaluate-same (x ∷ a) h =
        ap₂ (λ v l. record { channel = x.target; value = v } ∷ l)
        (num-agree sc s t s t (λ c l. same c (omega arith)) (λ c l. same c (omega arith)) x.value
        (all_of-head (λ x. good_num sc x.value) x a h))
        (evaluate-same a (all_of-tail (λ x. good_num sc x.value) x a h))

-- ---- rules and limits of a deck

module _ (d : Deck) (scoped : Scoped d) (s t : State) (same : Agree (R d) s t) where
  own-owns : (own_only (R d)).owns ≤ R d
  unfolding own_only
  own-owns = omega arith

  own-fars : (own_only (R d)).fars ≤ R d
  unfolding own_only
  own-fars = omega arith

  task-owns : (e : Bool) → (task_scope (R d) e).owns ≤ R d
  task-owns e = omega (arith, owns-task (R d) e)

  pub limit-same : (p : ℕ) → satisfies s (part_at d p).limit ≡ satisfies t (part_at d p).limit
  limit-same p = satisfies-same (R d) s t same (own_only (R d)) own-owns own-fars (part_at d p).limit (scoped.limit p)

  default-same : (r : ℕ) → evaluate s (rule_at d r).default ≡ evaluate t (rule_at d r).default
  default-same r = evaluate-same (R d) s t same (own_only (R d)) own-owns own-fars (rule_at d r).default (scoped.default r)

  action-same : (r : ℕ) → evaluate s (rule_at d r).action ≡ evaluate t (rule_at d r).action
  action-same r =
      let e = (rule_at d r).everywhere in
      evaluate-same (R d) s t same (task_scope (R d) e) (task-owns e) (task-fars (R d) e) (rule_at d r).action (scoped.action r)

  local_same : (r : ℕ) → local s (rule_at d r) ≡ local t (rule_at d r)
  local_same r =
      let e = (rule_at d r).everywhere in
      ap (λ b. not e && b)
      (satisfies-same (R d) s t same (task_scope (R d) e) (task-owns e) (task-fars (R d) e) (rule_at d r).condition (scoped.condition r))

  task-same : (r : ℕ) → partial_task s (rule_at d r) ≡ partial_task t (rule_at d r)
  unfolding partial_task
  task-same r =
      let e = (rule_at d r).everywhere in
      ap₂ (λ c a. record { condition = c; action = a })
      (partial-truth-same (R d) s t same (task_scope (R d) e) (task-owns e) (rule_at d r).condition (scoped.condition r))
      (partial-action-same (R d) s t same (task_scope (R d) e) (task-owns e) (rule_at d r).action (scoped.action r))

  map_same : {A : Type 0} (f g : Rule → A) → ((r : ℕ) → f (rule_at d r) ≡ g (rule_at d r)) → (l : List ℕ)
      → map f (map (rule_at d) l) ≡ map g (map (rule_at d) l)
  map_same f g h [] = refl
  map_same f g h (r ∷ l) = ap₂ (λ a m. a ∷ m) (h r) (map_same f g h l)

  updates-same : (f : Rule → Action) → ((r : ℕ) → evaluate s (f (rule_at d r)) ≡ evaluate t (f (rule_at d r))) → (l : List ℕ)
      → updates_from s (map f (map (rule_at d) l)) ≡ updates_from t (map f (map (rule_at d) l))
  unfolding updates_from
  updates-same f h l = ap (select (λ u. not (is_empty u))) (go l)
    where
      go : (l : List ℕ) → map (evaluate s) (map f (map (rule_at d) l)) ≡ map (evaluate t) (map f (map (rule_at d) l))
      go [] = refl
      go (r ∷ l) = ap₂ (λ a m. a ∷ m) (h r) (go l)

  module _ (p : ℕ) (X : ℕ → Bool) where
    abbrev rules : List Rule
    rules = (program_of d p).rules

    abbrev ns : List ℕ
    ns = numbers d p X

    pub def_upds-same : def_upds rules X s ≡ def_upds rules X t
    unfolding def_upds
    def_upds-same =
        ap (λ rs. updates_from s (map (λ r. r.default) rs)) (active-rules d p X)
        ∙ updates-same (λ r. r.default) default-same ns
        ∙ sym (ap (λ rs. updates_from t (map (λ r. r.default) rs)) (active-rules d p X))

    -- the local ones of the active rules, by their numbers
    local-numbers : (v : State) → select (local v) (active_rules rules X) ≡ map (rule_at d) (select (λ r. local v (rule_at d r)) ns)
    local-numbers v = ap (select (local v)) (active-rules d p X) ∙ select-map (local v) (rule_at d) ns

    pub local_upds-same : local_upds rules X s ≡ local_upds rules X t
    unfolding local_upds
    local_upds-same =
        ap (λ rs. updates_from s (map (λ r. r.action) rs))
        (local-numbers s ∙ ap (λ f. map (rule_at d) (select f ns)) (fun_ext local_same))
        ∙ updates-same (λ r. r.action) action-same (select (λ r. local t (rule_at d r)) ns)
        ∙ sym (ap (λ rs. updates_from t (map (λ r. r.action) rs)) (local-numbers t))

    pub ext_tasks-same : ext_tasks rules X s ≡ ext_tasks rules X t
    unfolding ext_tasks
    ext_tasks-same =
        let e = ap (select (λ r. r.everywhere)) (active-rules d p X) ∙ select-map (λ r. r.everywhere) (rule_at d) ns in
        ap (map (partial_task s)) e
        ∙ map_same (partial_task s) (partial_task t) task-same (select (λ r. (rule_at d r).everywhere) ns)
        ∙ sym (ap (map (partial_task t)) e)

-- X too: the channels of an update are known
pub changed_by-same : (n : ℕ) (l : List Pair) (v s t : State) → all_of (λ c. ltb c n) (channels_in l) ≡ true → Agree n s t
    → changed_by l v s ≡ changed_by l v t
unfolding changed_by
changed_by-same n l v s t known same = fun_ext (λ c. go c (member c (channels_in l)) refl)
  where
    go : (c : ℕ) (b : Bool) → member c (channels_in l) ≡ b → (b && not (eq_z (v c) (s c))) ≡ (b && not (eq_z (v c) (t c)))
    go c true e = ap (λ z. not (eq_z (v c) z)) (same c (ltb-true c n ((all_of-member (λ c. ltb c n) (channels_in l)).0 known c e)))
    go c false e = refl
