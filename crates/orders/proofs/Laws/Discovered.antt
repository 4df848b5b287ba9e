-- What a firing adds at another part is what that node discovers from the tasks sent to it. Assumes nothing.
use Rattle.std.specs.Prelude.{ℕ, ◌<◌, ◌≤◌, ◌≡◌, Bool, true, false, not, ◌&&◌, cond, ℤ}
use Rattle.std.proofs.Math.Path.{refl, sym, ap, ap₂, fun_ext}
use Rattle.std.proofs.Common.{◌∙◌, arith}
use Rattle.std.proofs.Math.Bool.{◌||◌, and_assoc}
use mathlib.Core.List.{List, [], ◌∷◌, map}
use Rattle.lists.specs.Lists.{any_of, select, eq_list}
use Rattle.lists.specs.Laws.Alls.{all_of-head, all_of-tail}
use Rattle.lists.specs.Laws.Anys.{any_of-append, any_of-select, any_of-cond, any_of-none, any_of-map, any_of-only}
use Rattle.expression.specs.Reading.{Scope}
use Rattle.expression.specs.Encoding.{good_num}
use Rattle.expression.proofs.Laws.Agreement.{num-agree, truth-agree}
use Rattle.deck.specs.Deck.{Deck, Action, Rule, R, N, rule_at}
use Rattle.deck.specs.Layout.{task_scope}
use Rattle.deck.proofs.Laws.Scoped.{task-fars}
use Rattle.deck.specs.Facts.{Scoped, all_in}
use Rattle.charge.specs.Charge.{others}
use Rattle.pool.specs.Updates.{Pair, value_at, eq_pair, eq_update, is_among}
use Rattle.firing.specs.Firing.{evaluated, sent, holds, fired_here, fired_there}
use Rattle.orders.specs.Calculus.{State, Agree, evaluate, satisfies, partial_num, partial_truth, partial_task, discovered}
use Rattle.orders.proofs.Laws.Partial.{partial-num, partial-truth}
use Rattle.orders.proofs.Laws.Fired.{at, makes, sent-among, sent-elsewhere, cond-elsewhere, updates-among, fired_by, fired_by-among}
use Rattle.orders.proofs.Laws.Fired.{in-others}

-- A state t that agrees with the receiver's on known channels does as well as the receiver's own
module _ (d : Deck) (scoped : Scoped d) (values : List ℤ) (p q : ℕ) (t : State) (same : Agree (R d) (value_at values q) t) where
  abbrev s : State
  s = value_at values p

  condition-same : (r : ℕ) → satisfies t (partial_truth s (rule_at d r).condition) ≡ holds values p q (rule_at d r)
  unfolding satisfies holds
  condition-same r =
      let rule = rule_at d r in
      partial-truth s t t rule.condition
      ∙ truth-agree (task_scope (R d) rule.everywhere) s s t (value_at values q) (λ c l. refl)
      (λ c l. sym (same c (omega (arith, task-fars (R d) rule.everywhere))))
      rule.condition (scoped.condition r)

  action-same : (sc : Scope) → sc.fars ≤ R d → (a : Action) → all_in sc a ≡ true
      → evaluate t (map (λ x. record { target = x.target; value = partial_num s x.value }) a) ≡ map (evaluated values p q) a
  unfolding evaluate evaluated
  action-same sc few [] h = refl
  action-same sc few (x ∷ a) h =
      ap₂ (λ v l. record { channel = x.target; value = v } ∷ l)
      (partial-num s t t x.value
      ∙ num-agree sc s s t (value_at values q) (λ c l. refl) (λ c l. sym (same c (omega arith)))
      x.value (all_of-head (λ x. good_num sc x.value) x a h))
      (action-same sc few a (all_of-tail (λ x. good_num sc x.value) x a h))

  module _ (lq : q < N d) (other : q ≡ p → ⊥) (u : List Pair) where
    -- a rule of kind 1 whose condition holds there makes u
    abbrev there : Rule → Bool
    there r = r.everywhere && holds values p q r && makes u (map (evaluated values p q) r.action)

    -- the same by the task that is sent
    abbrev by_sent : Rule → Bool
    by_sent r = r.everywhere && (satisfies t (partial_task s r).condition && makes u (evaluate t (partial_task s r).action))

    here-none : (r : Rule) → is_among (at q u) (fired_here values p r) ≡ false
    unfolding fired_here is_among
    here-none r =
        any_of-append (eq_update (at q u)) (sent values p p r.default)
        (cond (not r.everywhere && holds values p p r) (sent values p p r.action) [])
        ∙ ap₂ ◌||◌ (sent-elsewhere values p p q r.default u other)
        (cond-elsewhere values p p q r.action u (not r.everywhere && holds values p p r) other)

    there-among : (r : Rule) → any_of (λ q'. is_among (at q u) (fired_there values p r q')) (others d p) ≡ there r
    unfolding fired_there is_among
    there-among r =
        any_of-only (λ q'. is_among (at q u) (fired_there values p r q')) (others d p) q (in-others d p q lq other)
        (λ q' h. cond-elsewhere values p q' q r.action u (r.everywhere && holds values p q' r) (λ e. h (sym e)))
        ∙ any_of-cond (eq_update (at q u)) (r.everywhere && holds values p q r) (sent values p q r.action)
        ∙ ap (λ b. r.everywhere && holds values p q r && b) (sent-among values p q r.action u)

    task-same : (r : ℕ) → there (rule_at d r) ≡ by_sent (rule_at d r)
    unfolding partial_task
    task-same r =
        let rule = rule_at d r in
        let scope = task_scope (R d) rule.everywhere in
        and_assoc rule.everywhere (holds values p q rule) (makes u (map (evaluated values p q) rule.action))
        ∙ ap₂ (λ b w. rule.everywhere && (b && makes u w)) (sym (condition-same r))
        (sym (action-same scope (task-fars (R d) rule.everywhere) rule.action (scoped.action r)))

    discovered-among : (rs : List Rule)
        → any_of (eq_list eq_pair u) (discovered (map (partial_task s) (select (λ r. r.everywhere) rs)) t) ≡ any_of by_sent rs
    unfolding discovered
    discovered-among rs =
        let tasks = map (partial_task s) (select (λ r. r.everywhere) rs) in
        updates-among t (map (λ k. k.action) (select (λ k. satisfies t k.condition) tasks)) u
        ∙ any_of-map (λ a. makes u (evaluate t a)) (λ k. k.action) (select (λ k. satisfies t k.condition) tasks)
        ∙ any_of-select (λ k. makes u (evaluate t k.action)) (λ k. satisfies t k.condition) tasks
        ∙ any_of-map (λ k. satisfies t k.condition && makes u (evaluate t k.action)) (partial_task s) (select (λ r. r.everywhere) rs)
        ∙ any_of-select (λ r. satisfies t (partial_task s r).condition && makes u (evaluate t (partial_task s r).action))
        (λ r. r.everywhere) rs

    pub fired-there : (l : List ℕ)
        → is_among (at q u) (fired_by d values p (map (rule_at d) l))
        ≡ any_of (eq_list eq_pair u) (discovered (map (partial_task s) (select (λ r. r.everywhere) (map (rule_at d) l))) t)
    fired-there l =
        let rs = map (rule_at d) l in
        fired_by-among d values p rs (at q u)
        ∙ ap₂ ◌||◌ (any_of-none (λ r. is_among (at q u) (fired_here values p r)) here-none rs) (ap (λ f. any_of f rs) (fun_ext there-among))
        ∙ any_of-map there (rule_at d) l
        ∙ ap (λ f. any_of f l) (fun_ext task-same)
        ∙ sym (any_of-map by_sent (rule_at d) l)
        ∙ sym (discovered-among rs)
