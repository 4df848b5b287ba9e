-- The calculus is determined by the update that it executes, and so every such step of it is a commit. Assumes nothing.
use Rattle.std.specs.Prelude.{ℕ, ◌<◌, ◌≡◌, refl, ◌⊎◌, ◌↔◌, Bool, true, false, List, [], ltb, eqb, length}
use Rattle.std.proofs.Math.Path.{sym}
use Rattle.std.proofs.Common.{◌∙◌, ap, subst, inl, inr, ⊎_elim, eqb-true}
use Rattle.std.proofs.lemmas.Bool.{eqb-false}
use Rattle.lists.specs.Lists.{all_of}
use Rattle.lists.specs.Laws.Booleans.{contradiction}
use Rattle.deck.specs.Deck.{Deck, R, N}
use Rattle.deck.specs.Facts.{Formed}
use Rattle.deck.specs.Facts.{Scoped}
use Rattle.pool.specs.Updates.{Pair, channels, is_among}
use Rattle.pool.specs.States.{Machine}
use Rattle.pool.proofs.Laws.Values.{channels_in}
use Rattle.pool.specs.Fine.{Fine}
use Rattle.firing.specs.Firing.{pick, committed}
use Rattle.firing.proofs.Laws.Among.{among-pick}
use Rattle.firing.proofs.Laws.Commits.{pick_known}
use Rattle.orders.specs.Calculus.{Agree, In, Task, overridden, def_upds, local_upds, ext_tasks, discovered, changed_by}
use Rattle.orders.specs.Calculus.{Program, Node, Label, executes, enters, tasks_of, sent_tasks, New, Without, Exec, ExecFail, Input}
use Rattle.orders.specs.Calculus.{Acts, exec, exec_fail, input, Discovers, System, program_of, Step, system_of}
use Rattle.orders.proofs.Laws.Fired.{at}
use Rattle.orders.proofs.Laws.Known.{limit-same, def_upds-same, local_upds-same, ext_tasks-same, changed_by-same}
use Rattle.orders.proofs.Laws.Entered.{entered, input-state}
use Rattle.orders.proofs.Laws.Steps.{Committing, commit-step, sending}

-- what executes an update: (EXEC) or (EXEC-FAIL)
pub executed : (P : Program) (n n' : Node) (upd : List Pair) (ts : List Task) → Acts P n (executes upd ts) n'
    → (Exec P n upd n' × (ts ≡ sent_tasks P n upd n')) ⊎ (ExecFail P n upd n' × (ts ≡ []))
executed P n n' upd ts (exec e) = inl (e, refl)
executed P n n' upd ts (exec_fail e) = inr (e, refl)

-- two nodes of n channels that cannot be told apart
pub record Alike (n : ℕ) (a b : Node) : Type 0 where
  pub state : Agree n a.state b.state
  pub pool : (u : List Pair) → a.pool u ↔ b.pool u

module _ (d : Deck) (scoped : Scoped d) (p : ℕ) (n a b : Node) (upd : List Pair)
    (few : all_of (λ c. ltb c (R d)) (channels_in upd) ≡ true) where
  abbrev P : Program
  P = program_of d p

  module _ (same : Agree (R d) a.state b.state) where
    X-same : changed_by upd n.state a.state ≡ changed_by upd n.state b.state
    X-same = changed_by-same (R d) upd n.state a.state b.state few same

    new-same : (u : List Pair) → New P n upd a u → New P n upd b u
    new-same u (inl h) =
        inl (subst (λ us. In u us)
        (def_upds-same d scoped a.state b.state same p (changed_by upd n.state a.state)
        ∙ ap (λ X. def_upds P.rules X b.state) X-same) h)
    new-same u (inr h) =
        inr (subst (λ us. In u us)
        (local_upds-same d scoped a.state b.state same p (changed_by upd n.state a.state)
        ∙ ap (λ X. local_upds P.rules X b.state) X-same) h)

    sent-same : sent_tasks P n upd a ≡ sent_tasks P n upd b
    sent-same =
        ext_tasks-same d scoped a.state b.state same p (changed_by upd n.state a.state)
        ∙ ap (λ X. ext_tasks P.rules X b.state) X-same

module _ (d : Deck) (scoped : Scoped d) (p : ℕ) (n a b : Node) (upd : List Pair)
    (few : all_of (λ c. ltb c (R d)) (channels_in upd) ≡ true) where
  abbrev Q : Program
  Q = program_of d p

  exec-state : Exec Q n upd a → Exec Q n upd b → Agree (R d) a.state b.state
  unfolding program_of
  exec-state e f c lc = e.state c lc ∙ sym (f.state c lc)

  -- what is kept, and what is new
  abbrev PoolHolds : (List Pair → Type 0) → Node → Type 0
  PoolHolds kept m = (u : List Pair) → m.pool u ↔ (kept u ⊎ New Q n upd m u)

  new-pool : (kept : List Pair → Type 0) → Agree (R d) a.state b.state → PoolHolds kept a → PoolHolds kept b
      → (u : List Pair) → a.pool u → b.pool u
  new-pool kept same e f u h = (f u).1 (⊎_elim (λ w. inl w) (λ w. inr (new-same d scoped p n a b upd few same u w)) ((e u).0 h))

  -- the state that fails is the one that is kept
  fails-kept : {A : Type 0} → Exec Q n upd a → ExecFail Q n upd b → A
  unfolding program_of
  fails-kept e f =
      contradiction e.invariant (limit-same d scoped a.state (overridden n.state upd) e.state p ∙ f.fails)

  fail-pool : ExecFail Q n upd a → ExecFail Q n upd b → (u : List Pair) → a.pool u → b.pool u
  fail-pool e f u h = (f.pool u).1 ((e.pool u).0 h)

  fail-state : ExecFail Q n upd a → ExecFail Q n upd b → Agree (R d) a.state b.state
  unfolding program_of
  fail-state e f c lc = e.state c lc ∙ sym (f.state c lc)

-- two nodes that came to the same state, each with what was kept and what is new, are alike
alike-new : (d : Deck) → Scoped d → (p : ℕ) (n a b : Node) (upd : List Pair) → all_of (λ c. ltb c (R d)) (channels_in upd) ≡ true
    → (kept : List Pair → Type 0) → Agree (R d) a.state b.state
    → ((u : List Pair) → a.pool u ↔ (kept u ⊎ New (program_of d p) n upd a u))
    → ((u : List Pair) → b.pool u ↔ (kept u ⊎ New (program_of d p) n upd b u)) → Alike (R d) a b
alike-new d scoped p n a b upd few kept same e f =
    record {
      state = same;
      pool = λ u. (
        new-pool d scoped p n a b upd few kept same e f u,
        new-pool d scoped p n b a upd few kept (λ c lc. sym (same c lc)) f e u,
      );
    }

-- two inputs of the same values at one node end alike and send the same tasks
pub enters-determined : (d : Deck) → Scoped d → (p : ℕ) (n a b : Node) (upd : List Pair) (ts us : List Task)
    → all_of (λ c. ltb c (R d)) (channels_in upd) ≡ true
    → Acts (program_of d p) n (enters upd ts) a → Acts (program_of d p) n (enters upd us) b → Alike (R d) a b × (ts ≡ us)
enters-determined d scoped p n a b upd ts us few x y =
    let e = entered (program_of d p) n a upd ts x in
    let f = entered (program_of d p) n b upd us y in
    let there = input-state d scoped p n a b upd few e.0 f.0 in (
      alike-new d scoped p n a b upd few (λ u. n.pool u) there e.0.pool f.0.pool,
      e.1 ∙ sent-same d scoped p n a b upd few there ∙ sym f.1,
    )

-- two executions of one update at one node end alike and send the same tasks
pub acts-determined : (d : Deck) → Scoped d → (p : ℕ) (n a b : Node) (upd : List Pair) (ts us : List Task)
    → all_of (λ c. ltb c (R d)) (channels_in upd) ≡ true
    → Acts (program_of d p) n (executes upd ts) a → Acts (program_of d p) n (executes upd us) b → Alike (R d) a b × (ts ≡ us)
acts-determined d scoped p n a b upd ts us few x y = go (executed _ n a upd ts x) (executed _ n b upd us y)
  where
    P : Program
    P = program_of d p

    go : (Exec P n upd a × (ts ≡ sent_tasks P n upd a)) ⊎ (ExecFail P n upd a × (ts ≡ []))
        → (Exec P n upd b × (us ≡ sent_tasks P n upd b)) ⊎ (ExecFail P n upd b × (us ≡ [])) → Alike (R d) a b × (ts ≡ us)
    go (inl (e, i)) (inl (f, j)) =
        let there = exec-state d scoped p n a b upd few e f in (
          alike-new d scoped p n a b upd few (Without P n upd a) there e.pool f.pool,
          i ∙ sent-same d scoped p n a b upd few there ∙ sym j,
        )
    go (inl (e, i)) (inr (f, j)) = fails-kept d scoped p n a b upd few e f
    go (inr (e, i)) (inl (f, j)) = fails-kept d scoped p n b a upd few f e
    go (inr (e, i)) (inr (f, j)) = (
      record {
        state = fail-state d scoped p n a b upd few e f;
        pool = λ u. (fail-pool d scoped p n a b upd few e f u, fail-pool d scoped p n b a upd few f e u);
      },
      i ∙ sym j,
    )

-- two nodes that discover the same tasks end alike
discovers-determined : (d : Deck) (q : ℕ) (n a b : Node) (ts us : List Task) → ts ≡ us
    → Discovers (program_of d q) n ts a → Discovers (program_of d q) n us b → Alike (R d) a b
unfolding program_of
discovers-determined d q n a b ts us e x y =
    record {
      state = λ c lc. x.state c lc ∙ sym (y.state c lc);
      pool = λ u. (
        λ h. (y.pool u).1 (⊎_elim (λ w. inl w) (λ w. inr (subst (λ l. In u (discovered l n.state)) e w)) ((x.pool u).0 h)),
        λ h. (x.pool u).1 (⊎_elim (λ w. inl w) (λ w. inr (subst (λ l. In u (discovered l n.state)) (sym e) w)) ((y.pool u).0 h)),
      );
    }

-- two steps from one system end alike at every node where the node that acts ends alike and the tasks are the same
steps_alike : (d : Deck) (S : System) (p : ℕ) (α β : Label) (A B : System) → Step d S p α A → Step d S p β B
    → Alike (R d) (A p) (B p) × (tasks_of α ≡ tasks_of β) → (q : ℕ) → q < N d → Alike (R d) (A q) (B q)
steps_alike d S p α β A B x y both q lq = go (eqb q p) refl
  where
    go : (t : Bool) → eqb q p ≡ t → Alike (R d) (A q) (B q)
    go true e = subst (λ r. Alike (R d) (A r) (B r)) (sym (eqb-true q p e)) both.0
    go false e =
        let other = eqb-false q p e in
        discovers-determined d q (S q) (A q) (B q) (tasks_of α) (tasks_of β) both.1 (x.others q lq other) (y.others q lq other)

pub step-determined : (d : Deck) → Scoped d → (S : System) (p : ℕ) (upd : List Pair) (ts us : List Task) (A B : System)
    → all_of (λ c. ltb c (R d)) (channels_in upd) ≡ true
    → Step d S p (executes upd ts) A → Step d S p (executes upd us) B → (q : ℕ) → q < N d → Alike (R d) (A q) (B q)
unfolding tasks_of
step-determined d scoped S p upd ts us A B few x y =
    steps_alike d S p (executes upd ts) (executes upd us) A B x y
    (acts-determined d scoped p (S p) (A p) (B p) upd ts us few x.acts y.acts)

pub input-determined : (d : Deck) → Scoped d → (S : System) (p : ℕ) (upd : List Pair) (ts us : List Task) (A B : System)
    → all_of (λ c. ltb c (R d)) (channels_in upd) ≡ true
    → Step d S p (enters upd ts) A → Step d S p (enters upd us) B → (q : ℕ) → q < N d → Alike (R d) (A q) (B q)
unfolding tasks_of
input-determined d scoped S p upd ts us A B few x y =
    steps_alike d S p (enters upd ts) (enters upd us) A B x y
    (enters-determined d scoped p (S p) (A p) (B p) upd ts us few x.acts y.acts)

-- S is what the commit of a place leaves, and that place holds update upd of part p
pub record Reached (d : Deck) (x : Machine) (p : ℕ) (upd : List Pair) (S : System) : Type 0 where
  pub place : ℕ
  pub inside : place < length x.pending
  pub update : pick place x.pending ≡ at p upd
  pub state : (q : ℕ) → q < N d → Agree (R d) (S q).state (system_of (committed d place x).machine q).state
  pub pool : (q : ℕ) → q < N d → (v : List Pair) → (S q).pool v ↔ (system_of (committed d place x).machine q).pool v
  -- (EXEC) is applied, and (EXEC-FAIL) discarded
  pub exec_applied : Exec (program_of d p) (system_of x p) upd (S p) → (committed d place x).applied ≡ true
  pub fail_discarded : ExecFail (program_of d p) (system_of x p) upd (S p) → (committed d place x).applied ≡ false

picked : (d : Deck) (x : Machine) (p : ℕ) (upd : List Pair) (ts : List Task) (S : System) → Step d (system_of x) p (executes upd ts) S
    → is_among (at p upd) x.pending ≡ true
unfolding system_of
picked d x p upd ts S step =
    ⊎_elim (λ e. e.0.picked) (λ e. e.0.picked) (executed (program_of d p) (system_of x p) (S p) upd ts step.acts)

-- whether it is applied or discarded, the commit of a place executes some tasks
commits : (d : Deck) (k : ℕ) (x : Machine) → Committing d k x
    → (ts : List Task)
    × Step d (system_of x) (pick k x.pending).part (executes (pick k x.pending).pairs ts) (system_of (committed d k x).machine)
commits d k x c = go (committed d k x).applied refl
  where
    go : (b : Bool) → (committed d k x).applied ≡ b
        → (ts : List Task)
        × Step d (system_of x) (pick k x.pending).part (executes (pick k x.pending).pairs ts)
        (system_of (committed d k x).machine)
    go true e = (sending d (pick k x.pending).part (pick k x.pending).pairs x (committed d k x).machine, c.applied e)
    go false e = ([], c.discarded e)

pub commit-reaches : (d : Deck) → Formed d → Scoped d → (C : ℕ) (x : Machine) → Fine d C x
    → (p : ℕ) (upd : List Pair) (ts : List Task) (S : System) → Step d (system_of x) p (executes upd ts) S → Reached d x p upd S
unfolding channels
commit-reaches d formed scoped C x fine p upd ts S step =
    let found = among-pick (at p upd) x.pending (picked d x p upd ts S step) in
    let k = found.0 in
    let made = commits d k x (commit-step d formed scoped C x fine k found.1) in
    let few =
    subst (λ u. all_of (λ c. ltb c (R d)) (channels_in u.pairs) ≡ true) found.2 (pick_known d C x k fine found.1).inside in
    let there =
    subst (λ u. Step d (system_of x) u.part (executes u.pairs made.0) (system_of (committed d k x).machine)) found.2
    made.1 in
    let alike = step-determined d scoped (system_of x) p upd ts made.0 S (system_of (committed d k x).machine) few step there in
    let y = (committed d k x).machine in
    let c = commit-step d formed scoped C x fine k found.1 in
    record {
      place = k;
      inside = found.1;
      update = found.2;
      state = λ q lq. (alike q lq).state;
      pool = λ q lq. (alike q lq).pool;
      exec_applied = λ e.
          yes-unless-no (committed d k x).applied
          (λ h. fails-kept d scoped p (system_of x p) (S p) (system_of y p) upd few e
          (subst (λ u. ExecFail (program_of d u.part) (system_of x u.part) u.pairs (system_of y u.part)) found.2
          (c.failed h)));
      fail_discarded = λ f.
          no-unless-yes (committed d k x).applied
          (λ h. fails-kept d scoped p (system_of x p) (system_of y p) (S p) upd few
          (subst (λ u. Exec (program_of d u.part) (system_of x u.part) u.pairs (system_of y u.part)) found.2
          (c.executed h)) f);
    }
  where
    yes-unless-no : (b : Bool) → (b ≡ false → b ≡ true) → b ≡ true
    yes-unless-no true h = refl
    yes-unless-no false h = h refl

    no-unless-yes : (b : Bool) → (b ≡ true → b ≡ false) → b ≡ false
    no-unless-yes true h = h refl
    no-unless-yes false h = refl
