-- Each input and each commit is a step of the calculus. Assumes nothing.
use Rattle.std.specs.Prelude.{ℕ, ◌<◌, ◌≡◌, refl, ◌⊎◌, ◌↔◌, true, false, ◌&&◌, List, [], ltb, length}
use Rattle.std.proofs.Common.{sym, ◌∙◌, inr, ⊎_elim, ne_eqb}
use Rattle.std.proofs.Math.Path.{ap, subst, fun_ext}
use Rattle.std.proofs.Math.Logic.{inl}
use Rattle.std.proofs.Math.Bool.{not, cond}
use Rattle.std.proofs.lemmas.Bool.{false≢true, not-true}
use Rattle.lists.specs.Lists.{lists, all_of, eq_list}
use Rattle.lists.specs.Laws.Booleans.{and_both, and_left, and_right, not-true→false, contradiction}
use Rattle.deck.specs.Deck.{Deck, R, N, part_at}
use Rattle.deck.specs.Facts.{Formed}
use Rattle.deck.specs.Facts.{Scoped}
use Rattle.pool.specs.Updates.{Pair, Update, channels, value_at, assign, eq_pair, eq_update, is_among, all_different}
use Rattle.pool.specs.States.{Machine}
use Rattle.pool.proofs.Laws.Values.{channels_in}
use Rattle.pool.specs.Fine.{Fine}
use Rattle.pool.proofs.Laws.Equal.{update-true, update-refl}
use Rattle.passing.specs.Check.{within}
use Rattle.firing.specs.Firing.{set_and_fire, pick, without, committed}
use Rattle.firing.proofs.Laws.Among.{pick-among, without-among}
use Rattle.firing.proofs.Laws.Commits.{pick_known}
use Rattle.orders.specs.Calculus.{Task, satisfies, updates_from, discovered, overridden, executes, enters, tasks_of, sent_tasks, Exec}
use Rattle.orders.specs.Calculus.{ExecFail, exec, exec_fail, input, program_of, Step, system_of}
use Rattle.orders.proofs.Laws.Fired.{at}
use Rattle.orders.proofs.Laws.Nodes.{state-here, state-there, pool-here, pool-there}

-- the first part of a choice may be said in another way
left-iff : {A A' B C : Type 0} → C ↔ (A ⊎ B) → A ↔ A' → C ↔ (A' ⊎ B)
left-iff e i = (λ c. ⊎_elim (λ a. inl (i.0 a)) (λ b. inr b) (e.0 c), λ h. e.1 (⊎_elim (λ a. inl (i.1 a)) (λ b. inr b) h))

-- ---- inputs

-- the tasks that part p sends when x becomes y by pairs
abbrev pub sending : Deck → ℕ → List Pair → Machine → Machine → List Task
sending d p pairs x y = sent_tasks (program_of d p) (system_of x p) pairs (system_of y p)

pub input-step : (d : Deck) → Formed d → Scoped d → (p : ℕ) → p < N d → (pairs : List Pair) (x : Machine)
    → length x.values ≡ 512 → all_of (λ c. ltb c (R d)) (channels_in pairs) ≡ true
    → Step d (system_of x) p (enters pairs (sending d p pairs x (set_and_fire d p pairs x))) (system_of (set_and_fire d p pairs x))
unfolding system_of set_and_fire tasks_of program_of
input-step d formed scoped p inside pairs x long few =
    record {
      inside = inside;
      acts = input (record {
        state = λ c lc. state-here d formed scoped p inside pairs x.values few long c;
        pool = pool-here d formed scoped p inside pairs x.values few x.pending;
      });
      others = λ q lq other. record {
        state = state-there d formed scoped p inside pairs x.values few q other;
        pool = pool-there d formed scoped p inside pairs x.values few x.pending q lq other;
      };
    }

-- ---- commits

-- the pool of a part without update k
module _ (k : ℕ) (us : List Update) (l : k < length us) (different : all_different us ≡ true) where
  abbrev u : Update
  u = pick k us

  taken_here : (w : List Pair)
      → (is_among (at u.part w) (without k us) ≡ true) ↔ ((is_among (at u.part w) us ≡ true) × (w ≡ u.pairs → ⊥))
  taken_here w =
      let this : Update = at u.part w in
      let e = without-among this k us l different in (
        λ h.
            let both = sym e ∙ h in (
              and_left (is_among this us) (not (eq_update this u)) both,
              λ same. contradiction (ap (λ w. eq_update (at u.part w) u) same
                  ∙ update-refl u) (not-true (eq_update this u) (and_right (is_among this us) (not (eq_update this u)) both)),
            ),
        λ h. e ∙ and_both h.0 (ap not (not-true→false (eq_update this u) (λ t. h.1 (ap (λ w. w.pairs) (update-true this u t))))),
      )

  taken-there : (q : ℕ) → (q ≡ u.part → ⊥) → (w : List Pair) → (is_among (at q w) (without k us) ≡ true) ↔ (is_among (at q w) us ≡ true)
  unfolding eq_update
  taken-there q other w =
      let this : Update = at q w in
      let e = without-among this k us l different in (
        λ h. and_left (is_among this us) (not (eq_update this u)) (sym e ∙ h),
        λ h. e ∙ and_both h (ap (λ b. not (b && eq_list eq_pair w u.pairs)) (ne_eqb q u.part other)),
      )

-- Update k is taken: applied is (EXEC), and discarded is (EXEC-FAIL)
pub record Committing (d : Deck) (k : ℕ) (x : Machine) : Type 1 where
  pub executed : (committed d k x).applied ≡ true
      → Exec (program_of d (pick k x.pending).part) (system_of x (pick k x.pending).part) (pick k x.pending).pairs
      (system_of (committed d k x).machine (pick k x.pending).part)
  pub failed : (committed d k x).applied ≡ false
      → ExecFail (program_of d (pick k x.pending).part) (system_of x (pick k x.pending).part) (pick k x.pending).pairs
      (system_of (committed d k x).machine (pick k x.pending).part)
  -- and all other parts discover what it sends, in the same step
  pub applied : (committed d k x).applied ≡ true
      → Step d (system_of x) (pick k x.pending).part
      (executes (pick k x.pending).pairs
      (sending d (pick k x.pending).part (pick k x.pending).pairs x (committed d k x).machine))
      (system_of (committed d k x).machine)
  pub discarded : (committed d k x).applied ≡ false
      → Step d (system_of x) (pick k x.pending).part (executes (pick k x.pending).pairs []) (system_of (committed d k x).machine)

module _ (d : Deck) (formed : Formed d) (scoped : Scoped d) (C : ℕ) (x : Machine) (fine : Fine d C x) (k : ℕ)
    (l : k < length x.pending) where
  abbrev up : Update
  up = pick k x.pending

  abbrev p : ℕ
  p = up.part

  abbrev taken : Machine
  taken = record { values = x.values; pending = without k x.pending }

  inside : p < N d
  inside = (pick_known d C x k fine l).part

  below : all_of (λ c. ltb c (R d)) (channels_in up.pairs) ≡ true
  unfolding channels
  below = (pick_known d C x k fine l).inside

  -- the table after and the state after are the same
  state-same : value_at (assign p up.pairs x.values) p ≡ overridden (value_at x.values p) up.pairs
  state-same = fun_ext (state-here d formed scoped p inside up.pairs x.values below fine.long)

  exec-premises : within d p (assign p up.pairs x.values) ≡ true
      → Exec (program_of d p) (system_of x p) up.pairs (system_of (set_and_fire d p up.pairs taken) p)
  unfolding system_of set_and_fire satisfies within program_of
  exec-premises h =
      record {
        picked = pick-among k x.pending l;
        state = λ c lc. state-here d formed scoped p inside up.pairs x.values below fine.long c;
        invariant = h;
        pool = λ w. left-iff (pool-here d formed scoped p inside up.pairs x.values below (without k x.pending) w)
            (taken_here k x.pending l fine.different w);
      }

  exec-step : within d p (assign p up.pairs x.values) ≡ true
      → Step d (system_of x) p (executes up.pairs (sending d p up.pairs x (set_and_fire d p up.pairs taken)))
      (system_of (set_and_fire d p up.pairs taken))
  unfolding system_of set_and_fire tasks_of program_of
  exec-step h =
      record {
        inside = inside;
        acts = exec (exec-premises h);
        others = λ q lq other. record {
          state = state-there d formed scoped p inside up.pairs x.values below q other;
          pool = λ w. left-iff (pool-there d formed scoped p inside up.pairs x.values below (without k x.pending) q lq other w)
              (taken-there k x.pending l fine.different q other w);
        };
      }

  fail-premises : within d p (assign p up.pairs x.values) ≡ false
      → ExecFail (program_of d p) (system_of x p) up.pairs (system_of taken p)
  unfolding system_of satisfies within program_of
  fail-premises h =
      record {
        picked = pick-among k x.pending l;
        fails = ap (λ s. satisfies s (part_at d p).limit) (sym state-same) ∙ h;
        state = λ c lc. refl;
        pool = taken_here k x.pending l fine.different;
      }

  fail-step : within d p (assign p up.pairs x.values) ≡ false → Step d (system_of x) p (executes up.pairs []) (system_of taken)
  unfolding system_of tasks_of program_of discovered updates_from lists
  fail-step h =
      record {
        inside = inside;
        acts = exec_fail (fail-premises h);
        others = λ q lq other. record {
          state = λ c lc. refl;
          pool = λ w.
              let e = taken-there k x.pending l fine.different q other w in
              (λ m. inl (e.0 m), λ m. e.1 (⊎_elim (λ y. y) (λ n. absurd (false≢true n)) m));
        };
      }

  pub commit-step : Committing d k x
  unfolding committed
  commit-step =
      record {
        executed = λ h.
            subst (λ y. Exec (program_of d p) (system_of x p) up.pairs (system_of y p))
            (sym (ap (λ b. cond b (set_and_fire d p up.pairs taken) taken) h)) (exec-premises h);
        failed = λ h.
            subst (λ y. ExecFail (program_of d p) (system_of x p) up.pairs (system_of y p))
            (sym (ap (λ b. cond b (set_and_fire d p up.pairs taken) taken) h)) (fail-premises h);
        applied = λ h.
            subst (λ y. Step d (system_of x) p (executes up.pairs (sending d p up.pairs x y)) (system_of y))
            (sym (ap (λ b. cond b (set_and_fire d p up.pairs taken) taken) h)) (exec-step h);
        discarded = λ h.
            subst (λ y. Step d (system_of x) p (executes up.pairs []) (system_of y))
            (sym (ap (λ b. cond b (set_and_fire d p up.pairs taken) taken) h)) (fail-step h);
      }
