-- The published calls against the published calculus: every accepted input and commit is a step of it, with its label, and
-- every published commit from a good state is the commit of a place. Assumes nothing.
use Rattle.std.specs.Prelude.{ℕ, ◌<◌, ◌↔◌, ◌⊎◌, ◌≡◌, refl, Bool, true, false, cond, List, [], leb, ltb, length, ℤ}
use Rattle.std.proofs.Common.{inl, inr, ◌∙◌, ap, subst}
use Rattle.std.proofs.Math.Path.{sym}
use borrow.Author.Tests.{ltb-true}
use Rattle.refusals.specs.Outcome.{Outcome, accepted}
use Rattle.refusals.specs.Numbers.{unknown_part, bad_input, input_outside, over_capacity, place_not_pending}
use Rattle.refusals.specs.Laws.Outcomes.{refused≢accepted, accepted-inj}
use Rattle.expression.specs.Bytes.{Bytes}
use Rattle.deck.specs.declared.Form.TheVariants.{New}
use Rattle.deck.specs.Deck.{Deck, R, N}
use Rattle.deck.specs.Layout.{Layout}
use Rattle.deck.specs.Facts.{Formed}
use Rattle.deck.specs.Facts.{Scoped}
use Rattle.pool.specs.Updates.{Pair, charge}
use Rattle.pool.specs.Places.{capacity, pairs_of}
use Rattle.pool.specs.States.{Machine, Memory, load}
use Rattle.pool.proofs.Laws.Good.{load_store, fine-loaded, store-load}
use Rattle.pool.specs.Fine.{Fine}
use Rattle.passing.specs.Check.{passing}
use Rattle.firing.specs.Firing.{set_and_fire, pick, committed}
use Rattle.calls.specs.Calls as Calls
use Rattle.calls.specs.Calls.{Answer, applied, discarded, good_input}
use Rattle.calls.proofs.Laws.Inputs.{input-known}
use Rattle.orders.specs.Calling.{Call, input, commit, made, made_as}
use Rattle.orders.specs.Listed.{turn, Taken, taken, machine_after}
use Rattle.orders.specs.Order.{Accepted, yes_accepted}
use Rattle.orders.specs.Calculus.{Task, Agree, executes, enters, sent_tasks, Exec, ExecFail, program_of, Step, System, system_of}
use Rattle.orders.proofs.Laws.Agreement.{handed, made-agrees}
use Rattle.orders.proofs.Laws.Taking.{answered, guard, commit-taken, taking}
use Rattle.orders.proofs.Laws.Listing.{handed-answer, handed-memory}
use Rattle.orders.proofs.Laws.Kept.{Tested, accepted-tested, passed-formed, passed-acyclic, passed-scoped}
use Rattle.orders.proofs.Laws.Steps.{sending, input-step, commit-step}
use Rattle.orders.proofs.Laws.Reaches.{Alike, input-determined, commit-reaches}

module _ (bytes : List ℕ) (b : Bytes bytes) (m : Memory) (t : Tested bytes m) where
  abbrev pub deck_of : Deck
  deck_of = t.layout.deck

  fine : Fine deck_of (capacity (length m.pool)) (load m)
  fine = fine-loaded deck_of m t.good_before

  -- a call from a good memory is the call of a list from what is loaded
  from-loaded : (c : Call) → made bytes m c ≡ handed (length m.pool) (load m) (taken deck_of (capacity (length m.pool)) (load m) c)
  from-loaded c =
      ap (λ k. made bytes k c) (sym (store-load deck_of m t.good_before))
      ∙ made-agrees New bytes t.layout t.passes (length m.pool) t.long (load m) fine c

  -- what is loaded after a call is what the list has
  loaded-after : (c : Call) → load (made bytes m c).memory ≡ machine_after (load m) (taken deck_of (capacity (length m.pool)) (load m) c)
  loaded-after c =
      let o = taken deck_of (capacity (length m.pool)) (load m) c in
      let n = length m.pool in
      ap (λ r. load r.memory) (from-loaded c)
      ∙ ap load (handed-memory n (load m) o)
      ∙ load_store deck_of n (machine_after (load m) o)
      (taking deck_of (passed-formed New bytes b t.layout t.passes) (passed-acyclic New bytes b t.layout t.passes)
      (capacity n) (load m) fine c).fine

  taken-answer : (c : Call) (a : Answer) → (made bytes m c).answer ≡ accepted a
      → answered (taken deck_of (capacity (length m.pool)) (load m) c) ≡ accepted a
  taken-answer c a h =
      sym (ap (λ r. r.answer) (from-loaded c)
      ∙ handed-answer (length m.pool) (load m) (taken deck_of (capacity (length m.pool)) (load m) c)) ∙ h

-- ---- inputs

-- An accepted input: the deck passes, and the input is (INPUT) at its part with (DISC) at all others
pub record InputStep (bytes : List ℕ) (m m' : Memory) (p : ℕ) (pairs : List Pair) : Type 1 where
  pub layout : Layout
  pub passes : passing New bytes ≡ accepted layout
  pub tasks : List Task
  pub step : Step layout.deck (system_of (load m)) p (enters pairs tasks) (system_of (load m'))
  -- and there is no other (INPUT) of these values at this part
  pub only : (ts : List Task) (S : System) → Step layout.deck (system_of (load m)) p (enters pairs ts) S
      → (q : ℕ) → q < N layout.deck → Alike (R layout.deck) (S q) (system_of (load m') q)

module _ (d : Deck) (formed : Formed d) (scope : Scoped d) (C : ℕ) (x : Machine) (f : Fine d C x) where
  -- an input that was answered is a step, and its list is a good one
  abbrev Entered : ℕ → List ℤ → Outcome Taken → Type 1
  Entered p l o =
      (ts : List Task) × (Step d (system_of x) p (enters (pairs_of l) ts) (system_of (machine_after x o)) × (good_input d l ≡ true))

  input-stepped : (p : ℕ) (l : List ℤ) (a : Answer) → answered (taken d C x (input p l)) ≡ accepted a
      → Entered p l (taken d C x (input p l))
  unfolding taken machine_after
  input-stepped p l a =
      let goal : Outcome Taken → Type 1 = λ o. answered o ≡ accepted a → Entered p l o in
      guard goal (ltb p (N d)) unknown_part _ (λ e. absurd (refused≢accepted e))
      (λ lp.
      guard goal (good_input d l) bad_input _ (λ e. absurd (refused≢accepted e))
      (λ g.
      guard goal _ input_outside _ (λ e. absurd (refused≢accepted e))
      (λ _.
      guard goal (leb (charge d (set_and_fire d p (pairs_of l) x).pending) C) over_capacity _ (λ e. absurd (refused≢accepted e))
      (λ _ e. (
        sending d p (pairs_of l) x (set_and_fire d p (pairs_of l) x),
        (input-step d formed scope p (ltb-true p (N d) lp) (pairs_of l) x f.long (input-known d l g), g),
      )))))

pub input-is-published : (bytes : List ℕ) (m : Memory) (p : ℕ) (l : List ℤ) → Bytes bytes → (a : Answer)
    → (Calls.input bytes m p l).answer ≡ accepted a
    → InputStep bytes m (Calls.input bytes m p l).memory p (pairs_of l)
unfolding made_as
input-is-published bytes m p l b a h =
    let t = accepted-tested bytes m (input p l) a h in
    let d = t.layout.deck in
    let x = load m in
    let formed = passed-formed New bytes b t.layout t.passes in
    let scope = passed-scoped New bytes b t.layout t.passes in
    let r = input-stepped d formed scope (capacity (length m.pool)) x (fine bytes b m t) p l a
    (taken-answer bytes b m t (input p l) a h) in
    let y = load (Calls.input bytes m p l).memory in
    let there = subst (λ (y : Machine). Step d (system_of x) p (enters (pairs_of l) r.0) (system_of y))
    (sym (loaded-after bytes b m t (input p l))) r.1.0 in
    record {
      layout = t.layout;
      passes = t.passes;
      tasks = r.0;
      step = there;
      only = λ ts S step.
          input-determined d scope (system_of x) p (pairs_of l) ts r.0 S (system_of y) (input-known d l r.1.1) step there;
    }

-- ---- commits

-- an answer that is one of the two that a commit has
abbrev pub Told : Answer → Type 0
Told a = (c : ℕ) × ((a ≡ applied c) ⊎ (a ≡ discarded c))

-- An accepted commit of place k: applied is (EXEC) at the part of its update, discarded is (EXEC-FAIL), with (DISC) at all others
pub record CommitStep (bytes : List ℕ) (m m' : Memory) (k : ℕ) (a : Answer) : Type 1 where
  pub layout : Layout
  pub passes : passing New bytes ≡ accepted layout
  pub place : k < length (load m).pending
  -- the update at place k, and its part
  pub part : ℕ
  pub upd : List Pair
  pub update : pick k (load m).pending ≡ record { part = part; pairs = upd }
  -- applied or discarded, and nothing else
  pub told : Told a
  pub applied_executes : (c : ℕ) → a ≡ applied c
      → Exec (program_of layout.deck part) (system_of (load m) part) upd (system_of (load m') part)
      × Step layout.deck (system_of (load m)) part
      (executes upd (sent_tasks (program_of layout.deck part) (system_of (load m) part) upd (system_of (load m') part)))
      (system_of (load m'))
  pub discarded_fails : (c : ℕ) → a ≡ discarded c
      → ExecFail (program_of layout.deck part) (system_of (load m) part) upd (system_of (load m') part)
      × Step layout.deck (system_of (load m)) part (executes upd []) (system_of (load m'))

-- what an answer says of a commit
abbrev IsApplied : Answer → Type 0
IsApplied (Calls.passed r m n c) = ⊥
IsApplied Calls.started = ⊥
IsApplied (Calls.added c) = ⊥
IsApplied (Calls.applied c) = Unit {0}
IsApplied (Calls.discarded c) = ⊥
IsApplied (Calls.settled c) = ⊥
IsApplied (Calls.spent c) = ⊥

told-applied : (b : Bool) (n c : ℕ) → cond b (applied n) (discarded n) ≡ applied c → b ≡ true
told-applied true n c e = refl
told-applied false n c e = absurd (subst IsApplied (sym e) tt)

told-discarded : (b : Bool) (n c : ℕ) → cond b (applied n) (discarded n) ≡ discarded c → b ≡ false
told-discarded true n c e = absurd (subst IsApplied e tt)
told-discarded false n c e = refl

told-one : (b : Bool) (n : ℕ) → Told (cond b (applied n) (discarded n))
told-one true n = (n, inl refl)
told-one false n = (n, inr refl)

module _ (d : Deck) (C : ℕ) (x : Machine) (k : ℕ) (a : Answer) where
  -- an answered commit named a place that is pending, and took its update
  pub record Took (o : Outcome Taken) : Type 0 where
    pub place : k < length x.pending
    pub after : machine_after x o ≡ (committed d k x).machine
    pub answer : a
        ≡ cond (committed d k x).applied (applied (charge d (committed d k x).machine.pending))
        (discarded (charge d (committed d k x).machine.pending))

  took : answered (taken d C x (commit k)) ≡ accepted a → Took (taken d C x (commit k))
  unfolding taken machine_after turn
  took =
      guard (λ o. answered o ≡ accepted a → Took o) (ltb k (length x.pending)) place_not_pending _ (λ e. refused≢accepted e)
      (λ h e. record { place = ltb-true k (length x.pending) h; after = refl; answer = sym (accepted-inj e) })

pub commit-is-published : (bytes : List ℕ) (m : Memory) (k : ℕ) → Bytes bytes → (a : Answer) → (Calls.commit bytes m k).answer ≡ accepted a
    → CommitStep bytes m (Calls.commit bytes m k).memory k a
unfolding made_as
commit-is-published bytes m k b a h =
    let t = accepted-tested bytes m (commit k) a h in
    let d = t.layout.deck in
    let x = load m in
    let C = capacity (length m.pool) in
    let u = pick k x.pending in
    let how = took d C x k a (taken-answer bytes b m t (commit k) a h) in
    let same = sym (loaded-after bytes b m t (commit k) ∙ how.after) in
    let form = passed-formed New bytes b t.layout t.passes in
    let scope = passed-scoped New bytes b t.layout t.passes in
    let c = commit-step d form scope C x (fine bytes b m t) k how.place in
    let now = charge d (committed d k x).machine.pending in
    record {
      layout = t.layout;
      passes = t.passes;
      place = how.place;
      part = u.part;
      upd = u.pairs;
      update = refl;
      told = subst Told (sym how.answer) (told-one (committed d k x).applied now);
      applied_executes = λ n e.
          let yes = told-applied (committed d k x).applied now n (sym how.answer ∙ e) in
          subst (λ (y : Machine). Exec (program_of d u.part) (system_of x u.part) u.pairs (system_of y u.part)
          × Step d (system_of x) u.part (executes u.pairs (sending d u.part u.pairs x y)) (system_of y))
          same (c.executed yes, c.applied yes);
      discarded_fails = λ n e.
          let not = told-discarded (committed d k x).applied now n (sym how.answer ∙ e) in
          subst (λ (y : Machine). ExecFail (program_of d u.part) (system_of x u.part) u.pairs (system_of y u.part)
          × Step d (system_of x) u.part (executes u.pairs []) (system_of y))
          same (c.failed not, c.discarded not);
    }

-- ---- the other way round

-- Every published commit from what a good memory holds is the commit of a place: naming it gives the same states and pools
pub record ReachedByCall (bytes : List ℕ) (m : Memory) (d : Deck) (p : ℕ) (upd : List Pair) (S : System) : Type 0 where
  pub place : ℕ
  pub update : pick place (load m).pending ≡ record { part = p; pairs = upd }
  pub accepts : Accepted (Calls.commit bytes m place).answer
  pub state : (q : ℕ) → q < N d → Agree (R d) (S q).state (system_of (load (Calls.commit bytes m place).memory) q).state
  pub pool : (q : ℕ) → q < N d → (v : List Pair) → (S q).pool v ↔ (system_of (load (Calls.commit bytes m place).memory) q).pool v
  -- (EXEC) is answered by applied, and (EXEC-FAIL) by discarded
  pub exec_applied : Exec (program_of d p) (system_of (load m) p) upd (S p)
      → (c : ℕ) × ((Calls.commit bytes m place).answer ≡ accepted (applied c))
  pub fail_discarded : ExecFail (program_of d p) (system_of (load m) p) upd (S p)
      → (c : ℕ) × ((Calls.commit bytes m place).answer ≡ accepted (discarded c))

pub commit-reached : (bytes : List ℕ) (m : Memory) → Bytes bytes
    → (t : Tested bytes m) (p : ℕ) (upd : List Pair) (ts : List Task) (S : System)
    → Step t.layout.deck (system_of (load m)) p (executes upd ts) S → ReachedByCall bytes m t.layout.deck p upd S
unfolding made_as machine_after turn
commit-reached bytes m b t p upd ts S step =
    let d = t.layout.deck in
    let n = length m.pool in
    let x = load m in
    let form = passed-formed New bytes b t.layout t.passes in
    let scope = passed-scoped New bytes b t.layout t.passes in
    let r = commit-reaches d form scope (capacity n) x (fine bytes b m t) p upd ts S step in
    let k = r.place in
    let o = taken d (capacity n) x (commit k) in
    let lands = commit-taken d (capacity n) x k r.inside in
    let same = sym (loaded-after bytes b m t (commit k) ∙ ap (machine_after x) lands) in
    let now = charge d (committed d k x).machine.pending in
    let tells = ap (λ z. z.answer) (from-loaded bytes b m t (commit k)) ∙ handed-answer n x o ∙ ap answered lands in
    record {
      place = k;
      update = r.update;
      accepts = subst (λ (z : Outcome Answer). Accepted z) (sym tells) (yes_accepted _);
      state = λ q lq. subst (λ (y : Machine). Agree (R d) (S q).state (system_of y q).state) same (r.state q lq);
      pool = λ q lq v. subst (λ (y : Machine). (S q).pool v ↔ (system_of y q).pool v) same (r.pool q lq v);
      exec_applied = λ e. (now, tells ∙ ap (λ z. accepted (cond z (applied now) (discarded now))) (r.exec_applied e));
      fail_discarded = λ f. (now, tells ∙ ap (λ z. accepted (cond z (applied now) (discarded now))) (r.fail_discarded f));
    }
