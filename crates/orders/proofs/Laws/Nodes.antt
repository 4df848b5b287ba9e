-- Setting values and firing, node by node: the state and the pool of the node that acts, and of every other. Assumes nothing.
use Rattle.std.specs.Prelude.{ℕ, ◌<◌, ◌≡◌, ◌⊎◌, ◌↔◌, Bool, true, ltb, length, ℤ}
use Rattle.std.proofs.Math.Path.{sym, ap, ap₂}
use Rattle.std.proofs.Common.{◌∙◌, inl, inr, ⊎_elim, arith}
use Rattle.std.proofs.Math.Bool.{◌||◌}
use mathlib.Core.List.{List, map}
use Rattle.lists.specs.Lists.{all_of, any_of, select, eq_list}
use Rattle.lists.specs.Laws.Statements.{or-iff}
use Rattle.deck.specs.Deck.{Deck, Rule, R, N, rule_at}
use Rattle.deck.specs.Facts.{Formed}
use Rattle.deck.specs.Facts.{Scoped}
use Rattle.pool.specs.Updates.{Pair, Update, value_at, assign, eq_pair, is_among}
use Rattle.pool.proofs.Laws.Values.{channels_in}
use Rattle.pool.proofs.Laws.Assigned.{assign-part}
use Rattle.firing.specs.Firing.{fired, enqueue, changed}
use Rattle.firing.proofs.Laws.Among.{enqueue-among}
use Rattle.orders.specs.Calculus.{Agree, In, Task, overridden, changed_by, active_rules, updates_from, def_upds, local_upds, ext_tasks}
use Rattle.orders.specs.Calculus.{partial_task, discovered, program_of}
use Rattle.orders.proofs.Laws.Active.{assign-overridden, numbers, active-rules, active-changed}
use Rattle.orders.proofs.Laws.Fired.{at, fired_by, local, fired-here}
use Rattle.orders.proofs.Laws.Discovered.{fired-there}

-- a test that is the same as another says the same
same-iff : {A : Type 0} (a b : Bool) → a ≡ b → (b ≡ true) ↔ A → (a ≡ true) ↔ A
same-iff a b e i = (λ h. i.0 (sym e ∙ h), λ x. e ∙ i.1 x)

either-iff : (a b c : Bool) → ((a || (b || c)) ≡ true) ↔ ((a ≡ true) ⊎ ((b ≡ true) ⊎ (c ≡ true)))
either-iff a b c = (
  λ h. ⊎_elim (λ x. inl x) (λ x. inr ((or-iff b c).0 x)) ((or-iff a (b || c)).0 h),
  λ h. (or-iff a (b || c)).1 (⊎_elim (λ x. inl x) (λ x. inr ((or-iff b c).1 x)) h),
)

module _ (d : Deck) (formed : Formed d) (scoped : Scoped d) (p : ℕ) (inside : p < N d) (l : List Pair) (values : List ℤ)
    (known : all_of (λ c. ltb c (R d)) (channels_in l) ≡ true) where
  abbrev after : List ℤ
  after = assign p l values

  abbrev X : ℕ → Bool
  X = changed_by l (value_at values p) (value_at after p)

  abbrev rules : List Rule
  rules = (program_of d p).rules

  abbrev new : List Update
  new = fired d after p (changed d p values after)

  pub state-here : length values ≡ 512 → (c : ℕ) → value_at after p c ≡ overridden (value_at values p) l c
  state-here long = assign-overridden (R d) p l values formed.channels (omega (arith, formed.parts)) long known

  pub state-there : (q : ℕ) → (q ≡ p → ⊥) → Agree (R d) (value_at after q) (value_at values q)
  state-there q other c lc = assign-part (R d) p q c l values formed.channels other lc known

  new-same : new ≡ fired_by d after p (map (rule_at d) (numbers d p X))
  unfolding fired
  new-same = ap (λ rs. fired_by d after p (map (rule_at d) rs)) (active-changed d p l values known)

  pub pool-here : (us : List Update) (u : List Pair)
      → (is_among (at p u) (enqueue us new) ≡ true) ↔ ((is_among (at p u) us ≡ true)
      ⊎ (In u (def_upds rules X (value_at after p)) ⊎ In u (local_upds rules X (value_at after p))))
  unfolding def_upds local_upds
  pool-here us u =
      same-iff (is_among (at p u) (enqueue us new)) _
      (enqueue-among (at p u) us new
      ∙ ap (λ b. is_among (at p u) us || b)
      (ap (is_among (at p u)) new-same
      ∙ fired-here d after p u (map (rule_at d) (numbers d p X))
      ∙ ap₂ ◌||◌
      (ap (λ rs. any_of (eq_list eq_pair u) (updates_from (value_at after p) (map (λ r. r.default) rs))) back)
      (ap (λ rs. any_of (eq_list eq_pair u) (updates_from (value_at after p) (map (λ r. r.action) (select (local (value_at after p)) rs))))
      back)))
      (either-iff (is_among (at p u) us) (any_of (eq_list eq_pair u) (def_upds rules X (value_at after p)))
      (any_of (eq_list eq_pair u) (local_upds rules X (value_at after p))))
    where
      back : map (rule_at d) (numbers d p X) ≡ active_rules rules X
      back = sym (active-rules d p X)

  pub pool-there : (us : List Update) (q : ℕ) → q < N d → (q ≡ p → ⊥) → (u : List Pair)
      → (is_among (at q u) (enqueue us new) ≡ true) ↔ ((is_among (at q u) us ≡ true)
      ⊎ In u (discovered (ext_tasks rules X (value_at after p)) (value_at values q)))
  unfolding ext_tasks
  pool-there us q lq other u =
      let tasks : List Task = ext_tasks rules X (value_at after p) in
      same-iff (is_among (at q u) (enqueue us new)) _
      (enqueue-among (at q u) us new
      ∙ ap (λ b. is_among (at q u) us || b)
      (ap (is_among (at q u)) new-same
      ∙ fired-there d scoped after p q (value_at values q) (state-there q other) lq other u (numbers d p X)
      ∙ ap (λ rs. any_of (eq_list eq_pair u)
      (discovered (map (partial_task (value_at after p)) (select (λ r. r.everywhere) rs)) (value_at values q)))
      (sym (active-rules d p X))))
      (or-iff (is_among (at q u) us) (any_of (eq_list eq_pair u) (discovered tasks (value_at values q))))
