-- Systems that cannot be told apart have the same commits, and so no sequence of published commits from a good state is longer
-- than its charge: whoever picks the order, the published calculus settles. Assumes nothing.
use Prim.Native.Nat.{ℕ, zero, suc, ◌≤◌, ◌<◌, zero-le}
use Rattle.std.specs.Prelude.{◌≡◌, ◌⊎◌, Bool, ◌&&◌, length}
use Rattle.std.proofs.Math.Path.{refl, sym, ap, ap₂, subst, fun_ext}
use Rattle.std.proofs.Common.{◌∙◌, arith, ltb-true}
use Rattle.std.proofs.Math.Logic.{inl, inr, ⊎_elim}
use Rattle.std.proofs.Math.Bool.{true, false, not}
use Rattle.std.proofs.lemmas.Bool.{false≢true}
use mathlib.Core.List.{List, [], ◌∷◌, map}
use Rattle.std.proofs.Math.Dec.{ltb}
use Rattle.lists.specs.Lists.{lists, all_of, select, member, is_empty, eq_z, keep}
use Rattle.lists.specs.Laws.Alls.{all_of-head, all_of-tail}
use Rattle.lists.specs.Laws.Members.{all_of-member}
use Rattle.lists.specs.Laws.Filters.{select-map}
use Rattle.expression.specs.Encoding.{good_num}
use Rattle.expression.specs.Reading.{Scope}
use Rattle.expression.proofs.Laws.Agreement.{num-agree, truth-agree}
use Rattle.expression.specs.Bytes.{Bytes}
use Rattle.deck.specs.declared.Form.TheVariants as OfForm
use Rattle.deck.specs.Deck.{Deck, Action, R, N, rule_at}
use Rattle.deck.specs.Layout.{task_scope}
use Rattle.deck.specs.Facts.{Formed}
use Rattle.deck.proofs.Laws.Scoped.{task-fars}
use Rattle.deck.specs.Facts.{Scoped, all_in}
use Rattle.graph.specs.Acyclic.{Acyclic}
use Rattle.pool.specs.Updates.{Pair, charge, channels, is_among}
use Rattle.pool.specs.Places.{capacity}
use Rattle.pool.specs.States.{Machine, Memory, load}
use Rattle.pool.proofs.Laws.Values.{channels_in}
use Rattle.pool.proofs.Laws.Good.{fine-loaded}
use Rattle.pool.specs.Fine.{Fine}
use Rattle.firing.specs.Firing.{committed}
use Rattle.firing.proofs.Laws.Among.{among-pick}
use Rattle.firing.proofs.Laws.Commits.{pick_known, commit-falls, commit-fine}
use Rattle.orders.specs.Calculus.{State, Agree, In, overridden, evaluate, updates_from, satisfies, def_upds, local_upds, changed_by}
use Rattle.orders.specs.Calculus.{Task, partial_num, partial_task, ext_tasks, discovered, tasks_of, program_of, system_of}
use Rattle.orders.specs.Calculus.{Program, Node, executes, sent_tasks, New, Without, Exec, ExecFail, Acts, exec, exec_fail}
use Rattle.orders.specs.Calculus.{System, Step}
use Rattle.orders.proofs.Laws.Partial.{partial-num, partial-truth}
use Rattle.orders.proofs.Laws.Active.{overridden-at, numbers, active-rules}
use Rattle.orders.proofs.Laws.Fired.{at}
use Rattle.orders.proofs.Laws.Known.{limit-same}
use Rattle.orders.proofs.Laws.Reaches.{Alike, executed, commit-reaches}
use Rattle.orders.proofs.Laws.Kept.{Tested, passed-formed, passed-acyclic, passed-scoped}

-- ---- the node that acts

changed-left : (n : ℕ) (l : List Pair) (v w s : State) → all_of (λ c. ltb c n) (channels_in l) ≡ true → Agree n v w
    → changed_by l v s ≡ changed_by l w s
unfolding changed_by
changed-left n l v w s known same = fun_ext (λ c. go c (member c (channels_in l)) refl)
  where
    go : (c : ℕ) (b : Bool) → member c (channels_in l) ≡ b → (b && not (eq_z (v c) (s c))) ≡ (b && not (eq_z (w c) (s c)))
    go c true e = ap (λ z. not (eq_z z (s c))) (same c (ltb-true c n ((all_of-member (λ c. ltb c n) (channels_in l)).0 known c e)))
    go c false e = refl

module _ (d : Deck) (scoped : Scoped d) (p : ℕ) (n m : Node) (alike : Alike (R d) n m) (upd : List Pair)
    (few : all_of (λ c. ltb c (R d)) (channels_in upd) ≡ true) (a : Node) where
  abbrev P : Program
  P = program_of d p

  X-left : changed_by upd n.state a.state ≡ changed_by upd m.state a.state
  X-left = changed-left (R d) upd n.state m.state a.state few alike.state

  sent-left : sent_tasks P n upd a ≡ sent_tasks P m upd a
  sent-left = ap (λ X. ext_tasks P.rules X a.state) X-left

  new-left : (u : List Pair) → New P n upd a u ≡ New P m upd a u
  new-left u = ap (λ X. In u (def_upds P.rules X a.state) ⊎ In u (local_upds P.rules X a.state)) X-left

  kept-left : (u : List Pair) → Without P n upd a u → Without P m upd a u
  kept-left u (h, g) = ((alike.pool u).0 h, g)

  kept-right : (u : List Pair) → Without P m upd a u → Without P n upd a u
  kept-right u (h, g) = ((alike.pool u).1 h, g)

  exec-alike : Exec P n upd a → Exec P m upd a
  unfolding program_of
  exec-alike e =
      record {
        picked = (alike.pool upd).0 e.picked;
        state = λ c lc. e.state c lc ∙ overridden-at n.state m.state upd c (alike.state c lc);
        invariant = e.invariant;
        pool = λ u. (
          λ h. ⊎_elim (λ w. inl (kept-left u w)) (λ w. inr (subst (λ (T : Type 0). T) (new-left u) w)) ((e.pool u).0 h),
          λ h. (e.pool u).1 (⊎_elim (λ w. inl (kept-right u w)) (λ w. inr (subst (λ (T : Type 0). T) (sym (new-left u)) w)) h),
        );
      }

  fail-alike : ExecFail P n upd a → ExecFail P m upd a
  unfolding program_of
  fail-alike e =
      record {
        picked = (alike.pool upd).0 e.picked;
        fails = limit-same d scoped (overridden m.state upd) (overridden n.state upd)
            (λ c lc. overridden-at m.state n.state upd c (sym (alike.state c lc))) p ∙ e.fails;
        state = λ c lc. e.state c lc ∙ alike.state c lc;
        pool = λ u. (λ h. kept-left u ((e.pool u).0 h), λ h. (e.pool u).1 (kept-right u h));
      }

  acts-alike : (ts : List Task) → Acts P n (executes upd ts) a → Acts P m (executes upd ts) a
  acts-alike ts x = go (executed P n a upd ts x)
    where
      go : (Exec P n upd a × (ts ≡ sent_tasks P n upd a)) ⊎ (ExecFail P n upd a × (ts ≡ [])) → Acts P m (executes upd ts) a
      go (inl (e, i)) = subst (λ us. Acts P m (executes upd us) a) (sym (i ∙ sent-left)) (exec (exec-alike e))
      go (inr (e, i)) = subst (λ us. Acts P m (executes upd us) a) (sym i) (exec_fail (fail-alike e))

-- ---- the nodes that discover

module _ (d : Deck) (scoped : Scoped d) (s t t' : State) (same : Agree (R d) t t') where
  -- the task that rule r sends
  abbrev sent : ℕ → Task
  sent r = partial_task s (rule_at d r)

  condition-there : (r : ℕ) → satisfies t (sent r).condition ≡ satisfies t' (sent r).condition
  unfolding satisfies partial_task
  condition-there r =
      let rule = rule_at d r in
      partial-truth s t t rule.condition
      ∙ truth-agree (task_scope (R d) rule.everywhere) s s t t' (λ c l. refl)
      (λ c l. same c (omega (arith, task-fars (R d) rule.everywhere))) rule.condition (scoped.condition r)
      ∙ sym (partial-truth s t' t' rule.condition)

  abbrev partial_action : Action → Action
  partial_action a = map (λ x. record { target = x.target; value = partial_num s x.value }) a

  values-there : (sc : Scope) → sc.fars ≤ R d → (a : Action) → all_in sc a ≡ true
      → evaluate t (partial_action a) ≡ evaluate t' (partial_action a)
  unfolding evaluate
  values-there sc fars [] h = refl
  values-there sc fars (x ∷ a) h =
      ap₂ (λ v l. record { channel = x.target; value = v } ∷ l)
      (partial-num s t t x.value
      ∙ num-agree sc s s t t' (λ c l. refl) (λ c l. same c (omega arith)) x.value (all_of-head (λ x. good_num sc x.value) x a h)
      ∙ sym (partial-num s t' t' x.value))
      (values-there sc fars a (all_of-tail (λ x. good_num sc x.value) x a h))

  action-there : (r : ℕ) → evaluate t (sent r).action ≡ evaluate t' (sent r).action
  unfolding partial_task
  action-there r =
      let rule = rule_at d r in
      values-there (task_scope (R d) rule.everywhere) (task-fars (R d) rule.everywhere) rule.action (scoped.action r)

  -- what tasks make in a state, empty updates among them
  abbrev made_by : State → List Task → List (List Pair)
  made_by v ts = map (evaluate v) (map (λ k. k.action) ts)

  abbrev holding : State → List Task → List Task
  holding v ts = select (λ k. satisfies v k.condition) ts

  one-there : (r : ℕ) (l : List Task) (b c : Bool) → b ≡ c → made_by t (holding t l) ≡ made_by t' (holding t' l)
      → made_by t (keep b (sent r) (holding t l)) ≡ made_by t' (keep c (sent r) (holding t' l))
  unfolding keep
  one-there r l true true e i = ap₂ (λ a m. a ∷ m) (action-there r) i
  one-there r l true false e i = absurd (false≢true (sym e))
  one-there r l false true e i = absurd (false≢true e)
  one-there r l false false e i = i

  abbrev tasks : List ℕ → List Task
  tasks l = map (partial_task s) (map (rule_at d) l)

  made-there : (l : List ℕ) → made_by t (holding t (tasks l)) ≡ made_by t' (holding t' (tasks l))
  unfolding select
  made-there [] = refl
  made-there (r ∷ l) =
      one-there r (tasks l) (satisfies t (sent r).condition) (satisfies t' (sent r).condition) (condition-there r) (made-there l)

  discovered-there : (l : List ℕ) → discovered (tasks l) t ≡ discovered (tasks l) t'
  unfolding discovered updates_from
  discovered-there l = ap (select (λ u. not (is_empty u))) (made-there l)

-- the tasks that a node of a deck sends are its everywhere rules', by number
sent-numbers : (d : Deck) (p : ℕ) (X : ℕ → Bool) (s : State)
    → ext_tasks (program_of d p).rules X s ≡ map (partial_task s) (map (rule_at d) (select (λ r. (rule_at d r).everywhere) (numbers d p X)))
unfolding ext_tasks
sent-numbers d p X s =
    ap (map (partial_task s))
    (ap (select (λ r. r.everywhere)) (active-rules d p X) ∙ select-map (λ r. r.everywhere) (rule_at d) (numbers d p X))

-- whatever was executed, a node discovers the same where known channels have the same values
discovers-same : (d : Deck) → Scoped d → (p : ℕ) (n a : Node) (upd : List Pair) (ts : List Task)
    → Acts (program_of d p) n (executes upd ts) a → (t t' : State) → Agree (R d) t t' → discovered ts t ≡ discovered ts t'
unfolding discovered updates_from lists
discovers-same d scoped p n a upd ts x t t' same = go (executed (program_of d p) n a upd ts x)
  where
    X : ℕ → Bool
    X = changed_by upd n.state a.state

    go : (Exec (program_of d p) n upd a × (ts ≡ sent_tasks (program_of d p) n upd a)) ⊎ (ExecFail (program_of d p) n upd a × (ts ≡ []))
        → discovered ts t ≡ discovered ts t'
    go (inl (e, i)) =
        let j = i ∙ sent-numbers d p X a.state in
        ap (λ l. discovered l t) j
        ∙ discovered-there d scoped a.state t t' same (select (λ r. (rule_at d r).everywhere) (numbers d p X))
        ∙ sym (ap (λ l. discovered l t') j)
    go (inr (e, i)) = ap (λ l. discovered l t) i ∙ sym (ap (λ l. discovered l t') i)

-- ---- systems

-- two systems of a deck that cannot be told apart
abbrev pub Same : Deck → System → System → Type 0
Same d S T = (q : ℕ) → q < N d → Alike (R d) (S q) (T q)

-- systems that cannot be told apart have the same commits
pub step-alike : (d : Deck) → Scoped d → (S T : System) → Same d S T → (p : ℕ) (upd : List Pair) (ts : List Task) (A : System)
    → all_of (λ c. ltb c (R d)) (channels_in upd) ≡ true → Step d S p (executes upd ts) A → Step d T p (executes upd ts) A
unfolding tasks_of program_of
step-alike d scoped S T same p upd ts A few x =
    record {
      inside = x.inside;
      acts = acts-alike d scoped p (S p) (T p) (same p x.inside) upd few (A p) ts x.acts;
      others = λ q lq other.
          let old = x.others q lq other in
          let al = same q lq in
          let e = discovers-same d scoped p (S p) (A p) upd ts x.acts (S q).state (T q).state al.state in
          record {
            state = λ c lc. old.state c lc ∙ al.state c lc;
            pool = λ u. (
              λ h. ⊎_elim (λ w. inl ((al.pool u).0 w)) (λ w. inr (subst (λ l. In u l) e w)) ((old.pool u).0 h),
              λ h. (old.pool u).1 (⊎_elim (λ w. inl ((al.pool u).1 w)) (λ w. inr (subst (λ l. In u l) (sym e) w)) h),
            );
          };
    }

-- n published commits, one after the other, from S
pub data Runs (d : Deck) : ℕ → System → Type 1 where
  stop : {S : System} → Runs d zero S
  then : {n : ℕ} {S A : System} (p : ℕ) (upd : List Pair) (ts : List Task) → Step d S p (executes upd ts) A → Runs d n A
      → Runs d (suc n) S

module _ (d : Deck) (formed : Formed d) (acyclic : Acyclic d) (scoped : Scoped d) (C : ℕ) where
  picked-here : (x : Machine) (S : System) → Same d S (system_of x) → (p : ℕ) (upd : List Pair) (ts : List Task) (A : System)
      → Step d S p (executes upd ts) A → is_among (at p upd) x.pending ≡ true
  unfolding system_of
  picked-here x S same p upd ts A step =
      ((same p step.inside).pool upd).0
      (⊎_elim (λ e. e.0.picked) (λ e. e.0.picked) (executed (program_of d p) (S p) (A p) upd ts step.acts))

  runs-from : (n : ℕ) (x : Machine) → Fine d C x → (S : System) → Same d S (system_of x) → Runs d n S → n ≤ charge d x.pending
  unfolding channels
  runs-from zero x f S same r = zero-le
  runs-from (suc n) x f S same (then {A = A} p upd ts step rest) =
      let found = among-pick (at p upd) x.pending (picked-here x S same p upd ts A step) in
      let known = (pick_known d C x found.0 f found.1).inside in
      let few = subst (λ u. all_of (λ c. ltb c (R d)) (channels_in u.pairs) ≡ true) found.2 known in
      let here = step-alike d scoped S (system_of x) same p upd ts A few step in
      let r = commit-reaches d formed scoped C x f p upd ts A here in
      let k = r.place in
      let falls = commit-falls d formed acyclic k x r.inside (pick_known d C x k f r.inside).part in
      let fine = commit-fine d formed acyclic C k x f r.inside in
      let there : Same d A (system_of (committed d k x).machine) = λ q lq. record { state = r.state q lq; pool = r.pool q lq } in
      omega (arith, falls, runs-from n (committed d k x).machine fine A there rest)

-- from a good memory no sequence of published commits is longer than the charge pending
pub runs-bounded : (bytes : List ℕ) (m : Memory) → Bytes bytes → (t : Tested bytes m) → (n : ℕ)
    → Runs t.layout.deck n (system_of (load m)) → n ≤ charge t.layout.deck (load m).pending
runs-bounded bytes m b t n r =
    let l = t.layout in
    runs-from l.deck (passed-formed OfForm.New bytes b l t.passes) (passed-acyclic OfForm.New bytes b l t.passes)
    (passed-scoped OfForm.New bytes b l t.passes)
    (capacity (length m.pool)) n (load m) (fine-loaded l.deck m t.good_before) (system_of (load m))
    (λ q lq. record { state = λ c lc. refl; pool = λ u. (λ h. h, λ h. h) }) r
