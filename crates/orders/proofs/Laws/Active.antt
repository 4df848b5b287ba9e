-- The values that are set, as a state of the calculus, and the rules that are then active. Assumes nothing.
use Rattle.std.specs.Prelude.{ℕ, ◌<◌, ◌≤◌, ◌≡◌, refl, Bool, true, false, not, ◌&&◌, cond, List, [], ◌∷◌, map, eqb, ltb, length, set, ℤ}
use Rattle.std.proofs.Common.{◌∙◌, arith, length-set}
use Rattle.std.proofs.Math.Path.{ap, fun_ext}
use borrow.Author.Tests.{ltb-true}
use Rattle.lists.specs.Lists.{all_of, any_of, select, below, member, eq_z}
use Rattle.lists.specs.Laws.Booleans.{and_both, and_left, and_right, contradiction}
use Rattle.lists.specs.Laws.Statements.{same_test}
use Rattle.lists.specs.Laws.Alls.{all_of-head, all_of-tail}
use Rattle.lists.specs.Laws.Members.{any_of-found, any_of-intro, all_of-member}
use Rattle.lists.specs.Laws.Filters.{select-member, select-select, select-map}
use Rattle.lists.specs.Laws.Below.{below-member}
use Rattle.lists.specs.Laws.Equalities.{eq_z-refl}
use Rattle.deck.specs.Deck.{Deck, R, M, rule_at, carries, active}
use Rattle.pool.specs.Updates.{Pair, index_of, value_at, assign}
use Rattle.pool.proofs.Laws.Values.{channels_in, assign_other}
use Rattle.pool.proofs.Laws.Assigned.{set_value}
use Rattle.firing.specs.Firing.{changed}
use Rattle.orders.specs.Calculus.{State, overridden, active_rules, changed_by, program_of}

-- ---- the state

pub overridden-at : (s s' : State) (l : List Pair) (c : ℕ) → s c ≡ s' c → overridden s l c ≡ overridden s' l c
unfolding overridden
overridden-at s s' [] c e = e
overridden-at s s' (a ∷ l) c e =
    overridden-at (λ c. cond (eqb c a.channel) a.value (s c)) (λ c. cond (eqb c a.channel) a.value (s' c)) l c
    (ap (λ v. cond (eqb c a.channel) a.value v) e)

pub assign-overridden : (n p : ℕ) (l : List Pair) (values : List ℤ) → n ≤ 32 → p < 16 → length values ≡ 512
    → all_of (λ c. ltb c n) (channels_in l) ≡ true → (c : ℕ) → value_at (assign p l values) p c ≡ overridden (value_at values p) l c
unfolding overridden assign
assign-overridden n p [] values few lp long k c = refl
assign-overridden n p (a ∷ l) values few lp long k c =
    let i = index_of p a.channel in
    assign-overridden n p l (set values i a.value) few lp (length-set values i a.value
    ∙ long) (all_of-tail (λ c. ltb c n) a.channel (channels_in l) k) c
    ∙ overridden-at (value_at (set values i a.value) p) (λ c. cond (eqb c a.channel) a.value (value_at values p c)) l c
    (set_value p a.channel c a.value values
    (inside n p a.channel (length values) few lp long (all_of-head (λ c. ltb c n) a.channel (channels_in l) k)))
  where
    inside : (n p c m : ℕ) → n ≤ 32 → p < 16 → m ≡ 512 → ltb c n ≡ true → index_of p c < m
    inside n p c m few lp long h = unfold index_of in omega (arith, ltb-true c n h)

-- ---- the active rules

-- the numbers of the rules that part p carries and that have an event in X
abbrev pub numbers : Deck → ℕ → (ℕ → Bool) → List ℕ
numbers d p X = select (λ r. carries d p r && any_of X (rule_at d r).events) (below (M d))

pub active-rules : (d : Deck) (p : ℕ) (X : ℕ → Bool) → active_rules (program_of d p).rules X ≡ map (rule_at d) (numbers d p X)
unfolding active_rules program_of
active-rules d p X =
    select-map (λ r. any_of X r.events) (rule_at d) (select (carries d p) (below (M d)))
    ∙ ap (map (rule_at d)) (select-select (λ r. any_of X (rule_at d r).events) (carries d p) (below (M d)))

-- cs are the channels of an update, all below n; those that differ are among them
events-same : (n : ℕ) (cs : List ℕ) (differs : ℕ → Bool) → all_of (λ c. ltb c n) cs ≡ true
    → ((c : ℕ) → differs c ≡ true → member c cs ≡ true) → (events : List ℕ)
    → any_of (λ c. member c events) (select differs (below n)) ≡ any_of (λ c. member c cs && differs c) events
events-same n cs differs known only events = same_test _ _ there back
  where
    there : any_of (λ c. member c events) (select differs (below n)) ≡ true → any_of (λ c. member c cs && differs c) events ≡ true
    there h =
        let found = any_of-found (λ c. member c events) (select differs (below n)) h in
        let c = found.0 in
        let passed = (select-member differs (below n) c).0 found.1 in
        any_of-intro (λ c. member c cs && differs c) events c found.2 (and_both (only c passed.1) passed.1)

    back : any_of (λ c. member c cs && differs c) events ≡ true → any_of (λ c. member c events) (select differs (below n)) ≡ true
    back h =
        let found = any_of-found (λ c. member c cs && differs c) events h in
        let c = found.0 in
        let within = (all_of-member (λ c. ltb c n) cs).0 known c (and_left (member c cs) (differs c) found.2) in
        any_of-intro (λ c. member c events) (select differs (below n)) c
        ((select-member differs (below n) c).1 ((below-member n c).0 (ltb-true c n within), and_right (member c cs) (differs c) found.2))
        found.1

module _ (d : Deck) (p : ℕ) (l : List Pair) (values : List ℤ) (known : all_of (λ c. ltb c (R d)) (channels_in l) ≡ true) where
  abbrev differs : ℕ → Bool
  differs c = not (eq_z (value_at values p c) (value_at (assign p l values) p c))

  -- a channel whose value differs was set
  was-set : (c : ℕ) → differs c ≡ true → member c (channels_in l) ≡ true
  was-set c h = go (member c (channels_in l)) refl
    where
      go : (b : Bool) → member c (channels_in l) ≡ b → b ≡ true
      go true e = refl
      go false e =
          contradiction h
          (ap (λ z. not (eq_z (value_at values p c) z)) (assign_other p c l values e) ∙ ap not (eq_z-refl (value_at values p c)))

  -- "changed channels" and X are the same events
  pub active-changed : active d p (changed d p values (assign p l values))
      ≡ numbers d p (changed_by l (value_at values p) (value_at (assign p l values) p))
  unfolding active changed changed_by
  active-changed =
      ap (λ f. select f (below (M d)))
      (fun_ext (λ r. ap (λ b. carries d p r && b) (events-same (R d) (channels_in l) differs known was-set (rule_at d r).events)))
