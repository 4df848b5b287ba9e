-- An accepted settle of n commits is n commit calls of place 0, each accepted and each handed what the last one left. Assumes nothing.
use Prim.Native.Nat.{ℕ, zero, suc, ◌≤◌, ◌<◌}
use Rattle.std.specs.Prelude.{◌≡◌, Bool, true, false, cond, List, leb, length}
use Rattle.std.proofs.Math.Path.{refl, sym, ap, subst}
use Rattle.std.proofs.Common.{◌∙◌, ap₂}
use Rattle.lists.specs.Lists.{is_empty}
use Rattle.refusals.specs.Outcome.{Outcome, accepted}
use Rattle.refusals.specs.Numbers.{budget_too_large}
use Rattle.refusals.specs.Laws.Outcomes.{refused≢accepted, accepted-inj}
use Rattle.expression.specs.Bytes.{Bytes}
use Rattle.deck.specs.declared.Form.TheVariants.{New}
use Rattle.deck.specs.Deck.{Deck}
use Rattle.deck.specs.Layout.{Layout}
use Rattle.pool.specs.Places.{capacity}
use Rattle.pool.specs.States.{Machine, Memory, load, store, good_length}
use Rattle.pool.proofs.Laws.Good.{load_store, fine-loaded, store-load}
use Rattle.pool.specs.Fine.{Fine}
use Rattle.passing.specs.Check.{passing}
use Rattle.firing.specs.Firing.{committed}
use Rattle.firing.proofs.Laws.Commits.{commit-fine}
use Rattle.calls.specs.Calls as Calls
use Rattle.calls.specs.Calls.{Answer, settled, spent, Settling, settling, one_more}
use Rattle.calls.proofs.Laws.Settling.{settle-repeats}
use Rattle.orders.specs.Calling.{commit, settle, made, made_as}
use Rattle.orders.specs.Listed.{turn, turns, ending, Taken, taken, machine_after}
use Rattle.orders.specs.Order.{Accepted, yes_accepted}
use Rattle.orders.proofs.Laws.Agreement.{handed, made-agrees, settling-made, settling-ends}
use Rattle.orders.proofs.Laws.Taking.{answered, guard, commit-taken, some-pending, turning}
use Rattle.orders.proofs.Laws.Listing.{handed-answer, handed-memory}
use Rattle.orders.proofs.Laws.Kept.{accepted-tested, passed-formed, passed-acyclic}

-- n commit calls of place 0 lead from m to m', each accepted
pub data Commits (bytes : List ℕ) (m' : Memory) : ℕ → Memory → Type 0 where
  none : Commits bytes m' zero m'
  more : {n : ℕ} {m : Memory} → Accepted (Calls.commit bytes m 0).answer → Commits bytes m' n (Calls.commit bytes m 0).memory
      → Commits bytes m' (suc n) m

-- an accepted settle of m with budget b, by what it answers and leaves: settled exactly when nothing is pending, and spent only
-- when the budget is used
pub record SettleSteps (bytes : List ℕ) (m : Memory) (b : ℕ) (a : Answer) (m' : Memory) : Type 0 where
  pub commits : ℕ
  pub steps : Commits bytes m' commits m
  pub bounded : commits ≤ b
  pub answer : a ≡ cond (is_empty (load m').pending) (settled commits) (spent commits)
  pub ended : commits < b → is_empty (load m').pending ≡ true

module _ (bytes : List ℕ) (b : Bytes bytes) (l : Layout) (passes : passing New bytes ≡ accepted l)
    (n : ℕ) (long : good_length n ≡ true) where
  abbrev d : Deck
  d = l.deck

  commit-made : (x : Machine) → Fine d (capacity n) x → 0 < length x.pending
      → Accepted (Calls.commit bytes (store n x) 0).answer
      × ((Calls.commit bytes (store n x) 0).memory ≡ store n (committed d 0 x).machine)
  unfolding made_as turn machine_after
  commit-made x f some =
      let o = taken d (capacity n) x (commit 0) in
      let same : Calls.commit bytes (store n x) 0 ≡ handed n x o = made-agrees New bytes l passes n long x f (commit 0) in
      let goes = commit-taken d (capacity n) x 0 some in (
        subst (λ (z : Outcome Answer). Accepted z)
            (sym (ap (λ r. r.answer) same ∙ handed-answer n x o ∙ ap answered goes)) (yes_accepted _),
        ap (λ r. r.memory) same ∙ handed-memory n x o ∙ ap (λ o. store n (machine_after x o)) goes,
      )

  fine-next : (x : Machine) → Fine d (capacity n) x → 0 < length x.pending → Fine d (capacity n) (committed d 0 x).machine
  fine-next x f h = commit-fine d (passed-formed New bytes b l passes) (passed-acyclic New bytes b l passes) (capacity n) 0 x f h

  -- the commits of a settle so far
  abbrev Leads : Machine → Settling → Type 0
  Leads x s = Commits bytes (store n s.machine) s.made (store n x)

  commits-made : (k : ℕ) (x : Machine) → Fine d (capacity n) x → Leads x (settling d k x)
  unfolding settling one_more
  commits-made zero x f = none
  commits-made (suc k) x f = go (is_empty x.pending) refl (λ h. commits-made k (committed d 0 x).machine (fine-next x f h))
    where
      later : Settling
      later = settling d k (committed d 0 x).machine

      go : (e : Bool) → is_empty x.pending ≡ e → (0 < length x.pending → Leads (committed d 0 x).machine later)
          → Leads x (cond e (record { made = 0; machine = x }) (one_more later))
      go true e rest = none
      go false e rest =
          let some = some-pending x.pending e in
          let c = commit-made x f some in
          more c.0 (subst (λ (m : Memory). Commits bytes (store n later.machine) later.made m) (sym c.1) (rest some))

module _ (d : Deck) (C : ℕ) (x : Machine) (k : ℕ) (a : Answer) where
  -- what an answered settle of a list tells and leaves
  record Tells (o : Outcome Taken) : Type 0 where
    pub after : machine_after x o ≡ ending x (turns d k x)
    pub answer : a ≡ cond (is_empty (ending x (turns d k x)).pending) (settled (length (turns d k x))) (spent (length (turns d k x)))

  tells : answered (taken d C x (settle k)) ≡ accepted a → Tells (taken d C x (settle k))
  unfolding taken machine_after
  tells =
      guard (λ o. answered o ≡ accepted a → Tells o) (leb k 65535) budget_too_large _ (λ e. refused≢accepted e)
      (λ h e. record { after = refl; answer = sym (accepted-inj e) })

pub settle-is-commits : (bytes : List ℕ) (m : Memory) (k : ℕ) → Bytes bytes → (a : Answer) → (Calls.settle bytes m k).answer ≡ accepted a
    → SettleSteps bytes m k a (Calls.settle bytes m k).memory
unfolding made_as
settle-is-commits bytes m k b a h =
    let t = accepted-tested bytes m (settle k) a h in
    let l = t.layout in
    let d = l.deck in
    let n = length m.pool in
    let C = capacity n in
    let x = load m in
    let f = fine-loaded d m t.good_before in
    let o = taken d C x (settle k) in
    let back = store-load d m t.good_before in
    let same : Calls.settle bytes m k ≡ handed n x o = ap (λ z. Calls.settle bytes z k) (sym back)
    ∙ made-agrees New bytes l t.passes n t.long x f (settle k) in
    let w = tells d C x k a (sym (ap (λ r. r.answer) same ∙ handed-answer n x o) ∙ h) in
    let s = settling d k x in
    let ends : ending x (turns d k x) ≡ s.machine = sym (settling-ends d k x) in
    let left : (Calls.settle bytes m k).memory ≡ store n s.machine = ap (λ r. r.memory) same
    ∙ handed-memory n x o ∙ ap (store n) (w.after ∙ ends) in
    let kept = (turning d (passed-formed New bytes b l t.passes) (passed-acyclic New bytes b l t.passes) C k x f).fine in
    let fine-after = subst (λ (y : Machine). Fine d C y) ends kept in
    let loaded : load (Calls.settle bytes m k).memory ≡ s.machine = ap load left ∙ load_store d n s.machine fine-after in
    let r = settle-repeats d k x in
    record {
      commits = s.made;
      steps = subst (λ (z : Memory). Commits bytes (Calls.settle bytes m k).memory s.made z) back
          (subst (λ (z : Memory). Commits bytes z s.made (store n x)) (sym left) (commits-made bytes b l t.passes n t.long k x f));
      bounded = r.bounded;
      answer = w.answer
          ∙ ap₂ (λ c (y : Machine). cond (is_empty y.pending) (settled c) (spent c)) (sym (settling-made d k x)) (ends ∙ sym loaded);
      ended = λ q. ap (λ (y : Machine). is_empty y.pending) loaded ∙ r.ended q;
    }
