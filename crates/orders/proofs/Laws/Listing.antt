-- Whatever the list of calls: the calls agree with the definition of the list, the commits are paid by the charge added, and a
-- settle that is paid for settles. Assumes nothing.
use Rattle.std.specs.Prelude.{ℕ, ◌+◌, ◌≤◌, ◌≡◌, Bool, true, false, leb, ℤ}
use Rattle.std.proofs.Math.Path.{refl, sym, ap, ap₂, subst}
use Rattle.std.proofs.Common.{◌∙◌, le-leb, ltb-true}
use Rattle.std.proofs.Math.Bool.{cond}
use mathlib.Core.List.{List, [], ◌∷◌, ◌++◌}
use native.Mathlib.Omega.{arith}
use Rattle.std.proofs.Math.ListN.{length}
use Rattle.lists.specs.Lists.{lists, all_of, sum_of}
use Rattle.lists.specs.Laws.Alls.{all_of-append, all_of-every}
use Rattle.refusals.specs.Outcome.{Outcome, refused, accepted, ◌>>=◌, ◌>>◌, require, outcomes}
use Rattle.refusals.specs.Numbers.{bad_pool, place_not_pending, budget_too_large}
use Rattle.refusals.specs.Laws.Outcomes.{refused≢accepted, accepted-inj}
use Rattle.deck.specs.declared.Form.{Form}
use Rattle.deck.specs.declared.Form.TheVariants.{New}
use Rattle.deck.specs.Deck.{Deck}
use Rattle.deck.specs.Layout.{Layout}
use Rattle.deck.specs.Facts.{Formed}
use Rattle.deck.specs.Facts.{Scoped}
use Rattle.graph.specs.Acyclic.{Acyclic}
use Rattle.charge.specs.Charge.{update_charge}
use Rattle.charge.proofs.Laws.Equations.{update-at-least-one}
use Rattle.pool.specs.Updates.{Update, channels, charge}
use Rattle.pool.specs.Places.{capacity}
use Rattle.pool.specs.States.{Machine, Memory, store, good_length}
use Rattle.pool.specs.Fine.{Fine}
use Rattle.passing.specs.Check.{passing}
use Rattle.calls.specs.Calls as Calls
use Rattle.calls.specs.Calls.{started, settled, spent, Reply, reply, opened}
use Rattle.calls.proofs.Laws.Opening.{fine-opened}
use Rattle.orders.specs.Calling.{Call, input, commit, settle, run_from_as, run_as}
use Rattle.orders.specs.Listed.{turn, turns, Taken, taken, machine_after, Listed, in_front, list_from, listed, commits_of, added_of}
use Rattle.orders.specs.Listed.{commits_made, charge_added, charge_pending}
use Rattle.orders.specs.Order.{Along, Accepted, yes_accepted, RefusedAsPlaced, Settles, leaves_within, EveryWithin, has_charge, Order}
use Rattle.orders.proofs.Laws.Agreement.{handed, made-agrees}
use Rattle.orders.proofs.Laws.Taking.{answered, turns_of, guard, taken_turn, commit-taken, turning, taking}
use Rattle.orders.proofs.Laws.Limits.{along-within}

-- one call in front of a list
front-answers : (o : Outcome Taken) (l : Listed) → (in_front o l).answers ≡ answered o ∷ l.answers
unfolding in_front
front-answers (refused n p) l = refl
front-answers (accepted t) l = refl

front-turns : (o : Outcome Taken) (l : Listed) → (in_front o l).turns ≡ turns_of o ++ l.turns
unfolding in_front
front-turns (refused n p) l = refl
front-turns (accepted t) l = refl

front-machine : (o : Outcome Taken) (l : Listed) → (in_front o l).machine ≡ l.machine
unfolding in_front
front-machine (refused n p) l = refl
front-machine (accepted t) l = refl

module _ (d : Deck) (C : ℕ) where
  -- a commit is refused by its place and by nothing else
  refused-as-placed : (x : Machine) (c : Call) → RefusedAsPlaced d C x c
  unfolding RefusedAsPlaced taken outcomes
  refused-as-placed x (input p l) = tt
  refused-as-placed x (commit k) = (
    λ h. subst (λ (o : Outcome Taken). Accepted o) (sym (commit-taken d C x k (ltb-true k (length x.pending) h))) (yes_accepted _),
    λ h. ap (λ b. require b place_not_pending 0 >> accepted (taken_turn d (turn d k x))) h,
  )
  refused-as-placed x (settle b) = tt

  along : (P : Machine → Call → Type 0) → ((x : Machine) (c : Call) → P x c) → (x : Machine) (cs : List Call) → Along P d C x cs
  unfolding Along
  along P h x [] = tt
  along P h x (c ∷ cs) = (h x c, along P h (machine_after x (taken d C x c)) cs)

  -- what holds at first and after every call holds at the end
  pub along-ends : (P : Machine → Type 0) (x : Machine) → P x → (cs : List Call)
      → Along (λ y c. P (machine_after y (taken d C y c))) d C x cs → P (list_from d C x cs).machine
  unfolding Along list_from
  along-ends P x h [] a = h
  along-ends P x h (c ∷ cs) a =
      let o = taken d C x c in
      subst P (sym (front-machine o (list_from d C (machine_after x o) cs))) (along-ends P (machine_after x o) a.0 cs a.1)

  module _ (formed : Formed d) (acyclic : Acyclic d) where
    settles-paid : (x : Machine) → Fine d C x → (c : Call) → Settles d C x c
    unfolding Settles taken
    settles-paid x f (input p l) = tt
    settles-paid x f (commit k) = tt
    settles-paid x f (settle b) =
        guard (λ o. (t : Taken) → o ≡ accepted t → charge d x.pending ≤ b → t.answer ≡ settled (length t.turns))
        (leb b 65535) budget_too_large _
        (λ t e. refused≢accepted e)
        (λ _ t e h.
        subst (λ (t : Taken). t.answer ≡ settled (length t.turns)) (accepted-inj e)
        (ap (λ z. cond z (settled (length (turns d b x))) (spent (length (turns d b x)))) ((turning d formed acyclic C b x f).settles h)))

    -- the same with a good state at each call
    along-fine : (P : Machine → Call → Type 0) → ((x : Machine) → Fine d C x → (c : Call) → P x c) → (x : Machine) → Fine d C x
        → (cs : List Call) → Along P d C x cs
    unfolding Along
    along-fine P h x f [] = tt
    along-fine P h x f (c ∷ cs) = (h x f c, along-fine P h (machine_after x (taken d C x c)) (taking d formed acyclic C x f c).fine cs)

    list-paid : (x : Machine) → Fine d C x → (cs : List Call)
        → sum_of commits_of (list_from d C x cs).answers + charge d (list_from d C x cs).machine.pending
        ≤ sum_of added_of (list_from d C x cs).answers + charge d x.pending
    unfolding list_from lists
    list-paid x f [] = omega arith
    list-paid x f (c ∷ cs) =
        let o = taken d C x c in
        let t = taking d formed acyclic C x f c in
        let rest = list_from d C (machine_after x o) cs in
        omega (
          arith,
          ap (sum_of commits_of) (front-answers o rest),
          ap (sum_of added_of) (front-answers o rest),
          ap (λ m. charge d m.pending) (front-machine o rest),
          t.paid,
          list-paid (machine_after x o) t.fine cs,
        )

    list-stays : (x : Machine) → Fine d C x → (cs : List Call) → all_of (leaves_within d) (list_from d C x cs).turns ≡ true
    unfolding list_from lists
    list-stays x f [] = refl
    list-stays x f (c ∷ cs) =
        let o = taken d C x c in
        let t = taking d formed acyclic C x f c in
        let rest = list_from d C (machine_after x o) cs in
        ap (all_of (leaves_within d)) (front-turns o rest)
        ∙ all_of-append (leaves_within d) (turns_of o) rest.turns t.stays (list-stays (machine_after x o) t.fine cs)

-- ---- the calls on memory

pub handed-answer : (n : ℕ) (x : Machine) (o : Outcome Taken) → (handed n x o).answer ≡ answered o
unfolding handed
handed-answer n x (refused number place) = refl
handed-answer n x (accepted t) = refl

pub handed-memory : (n : ℕ) (x : Machine) (o : Outcome Taken) → (handed n x o).memory ≡ store n (machine_after x o)
unfolding handed machine_after
handed-memory n x (refused number place) = refl
handed-memory n x (accepted t) = refl

module _ (form : Form) (bytes : List ℕ) (l : Layout) (passes : passing form bytes ≡ accepted l) (n : ℕ) (long : good_length n ≡ true)
    (formed : Formed l.deck) (acyclic : Acyclic l.deck) where
  abbrev d : Deck
  d = l.deck

  abbrev C : ℕ
  C = capacity n

  pub run-agrees : (x : Machine) → Fine d C x → (cs : List Call)
      → ((run_from_as form bytes (store n x) cs).answers ≡ (list_from d C x cs).answers)
      × ((run_from_as form bytes (store n x) cs).memory ≡ store n (list_from d C x cs).machine)
  unfolding run_from_as list_from
  run-agrees x f [] = (refl, refl)
  run-agrees x f (c ∷ cs) =
      let o = taken d C x c in
      let agrees = made-agrees form bytes l passes n long x f c in
      let after = ap (λ r. r.memory) agrees ∙ handed-memory n x o in
      let answer = ap (λ r. r.answer) agrees ∙ handed-answer n x o in
      let rest = run-agrees (machine_after x o) (taking d formed acyclic C x f c).fine cs in
      let later = list_from d C (machine_after x o) cs in (
        ap₂ (λ a as'. a ∷ as') answer (ap (λ m. (run_from_as form bytes m cs).answers) after ∙ rest.0) ∙ sym (front-answers o later),
        ap (λ m. (run_from_as form bytes m cs).memory) after ∙ rest.1 ∙ ap (store n) (sym (front-machine o later)),
      )

-- ---- a fresh start

-- what an accepted start says of the deck and the pool, and what it leaves
pub record Fresh (form : Form) (bytes : List ℕ) (pool : List ℤ) (l : Layout) : Type 0 where
  pub passes : passing form bytes ≡ accepted l
  pub long : good_length (length pool) ≡ true
  pub left : (Calls.start_as form bytes pool).memory ≡ store (length pool) (opened l.deck)

pub start-fresh : (form : Form) (bytes : List ℕ) (pool : List ℤ) → (Calls.start_as form bytes pool).answer ≡ accepted started
    → (l : Layout) × Fresh form bytes pool l
unfolding Calls.start_as reply outcomes
start-fresh form bytes pool h = go (passing form bytes) refl (good_length (length pool)) refl h
  where
    before : Memory
    before = record { state = record { values = Rattle.pool.specs.Places.zeros 512; pending = 0 }; pool = pool }

    after : Outcome Layout → Bool → Reply
    after o b = reply before (o >>= λ l. require b bad_pool 0 >> accepted (record { answer = started; machine = opened l.deck }))

    go : (o : Outcome Layout) → passing form bytes ≡ o → (b : Bool) → good_length (length pool) ≡ b → (after o b).answer ≡ accepted started
        → (l : Layout) × Fresh form bytes pool l
    go (refused n p) e b f a = refused≢accepted a
    go (accepted l) e false f a = refused≢accepted a
    go (accepted l) e true f a =
        (l, record { passes = e; long = f; left = ap₂ (λ o b. (after o b).memory) e f })

-- an update's charge counts the commit of the update itself
all-charged : (d : Deck) (us : List Update) → all_of (has_charge d) us ≡ true
unfolding has_charge
all-charged d us =
    all_of-every (has_charge d) (λ u. le-leb 1 (update_charge d u.part (channels u)) (update-at-least-one d u.part (channels u))) us

nothing-charged : (d : Deck) → charge d (opened d).pending ≡ 0
unfolding opened charge lists
nothing-charged d = refl

-- a run after a fresh start, in either form: answers, state and pool are as the definition of the list has them
pub run-listed : (form : Form) (bytes : List ℕ) (pool : List ℤ) (l : Layout) → Fresh form bytes pool l
    → Formed l.deck → Acyclic l.deck
    → (cs : List Call)
    → ((run_as form bytes pool cs).answers ≡ (listed l.deck (length pool) cs).answers)
    × ((run_as form bytes pool cs).memory ≡ store (length pool) (listed l.deck (length pool) cs).machine)
unfolding run_as listed opened
run-listed form bytes pool l fresh formed acyclic cs =
    let d = l.deck in
    let n = length pool in
    let f = fine-opened d formed (capacity n) in
    let agrees = run-agrees form bytes l fresh.passes n fresh.long formed acyclic (opened d) f cs in (
      ap (λ m. (run_from_as form bytes m cs).answers) fresh.left ∙ agrees.0,
      ap (λ m. (run_from_as form bytes m cs).memory) fresh.left ∙ agrees.1,
    )

module _ (bytes : List ℕ) (pool : List ℤ) (l : Layout) (fresh : Fresh New bytes pool l)
    (formed : Formed l.deck) (acyclic : Acyclic l.deck) (scope : Scoped l.deck)
    (opens : EveryWithin l.deck (opened l.deck)) where
  pub ordered : (cs : List Call) → Order bytes l.deck pool cs
  unfolding listed opened commits_made charge_added charge_pending
  ordered cs =
      let d = l.deck in
      let n = length pool in
      let C = capacity n in
      let x = opened d in
      let f = fine-opened d formed C in
      let agrees = run-listed New bytes pool l fresh formed acyclic cs in
      record {
        answers = agrees.0;
        memory = agrees.1;
        bound = omega (arith, list-paid d C formed acyclic x f cs, nothing-charged d);
        commit_refused = along d C (RefusedAsPlaced d C) (refused-as-placed d C) x cs;
        stays_within = list-stays d C formed acyclic x f cs;
        each_charged = all-charged d (list_from d C x cs).machine.pending;
        settles = along-fine d C formed acyclic (Settles d C) (settles-paid d C formed acyclic) x f cs;
        parts_within = along-within d formed acyclic scope C x f opens cs;
      }
