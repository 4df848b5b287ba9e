-- Setting channels and committing keep a state good, and every commit lowers the pending charge. Assumes nothing.
use Rattle.std.specs.Prelude.{ℕ, zero, suc, ◌+◌, ◌≤◌, ◌<◌, ◌≡◌, Bool, not, cond, List, [], ◌∷◌, ◌++◌, ltb, length, take, drop}
use Rattle.std.proofs.Math.Path.{refl}
use Rattle.std.proofs.Common.{◌∙◌, ap, not-suc-le-zero, le_of_suc-le-suc, ltb-true}
use Rattle.std.proofs.Math.Bool.{true, false}
use native.Mathlib.Omega.{arith}
use Rattle.std.proofs.lemmas.Bool.{not-true}
use Rattle.lists.specs.Lists.{lists, all_of, distinct, is_empty}
use Rattle.lists.specs.Laws.Booleans.{and_both, and_left, and_right, four}
use Rattle.lists.specs.Laws.Alls.{all_of-append, all_of-take, all_of-drop, all_of-at, any_of-none}
use Rattle.deck.specs.Deck.{Deck, R, N}
use Rattle.deck.specs.Facts.{Formed}
use Rattle.graph.specs.Acyclic.{Acyclic}
use Rattle.graph.proofs.Laws.Targets.{known-targets}
use Rattle.charge.specs.Charge.{update_charge, rule_charge}
use Rattle.charge.proofs.Laws.Active.{active-sub}
use Rattle.charge.proofs.Laws.Equations.{charge-of-update, update-at-least-one}
use Rattle.pool.specs.Updates.{Pair, Update, channels, assign, eq_update, is_among, all_different, charge}
use Rattle.pool.specs.States.{Machine, known}
use Rattle.pool.specs.Fine.{short}
use Rattle.pool.proofs.Laws.Values.{channels_in, assign-length, unused-assign}
use Rattle.pool.specs.Fine.{Fine}
use Rattle.passing.specs.Check.{within}
use Rattle.firing.specs.Firing.{fired, changed, set_and_fire, pick, without, committed}
use Rattle.firing.proofs.Laws.Firing.{fired-known, fired-short}
use Rattle.firing.proofs.Laws.Enqueue.{one, enqueue-all, enqueue-different, enqueue-grows, enqueue-most}
use Rattle.firing.proofs.Laws.Charges.{fired-most, changed-assigned}

-- ---- an update that is taken out

pub without_all : (test : Update → Bool) (k : ℕ) (us : List Update) → all_of test us ≡ true → all_of test (without k us) ≡ true
unfolding without
without_all test k us h = all_of-append test (take k us) (drop (suc k) us) (all_of-take test k us h) (all_of-drop test (suc k) us h)

without-among : (w : Update) (k : ℕ) (us : List Update) → is_among w us ≡ false → is_among w (without k us) ≡ false
unfolding is_among
without-among w k us h =
    (any_of-none (eq_update w) (without k us)).1
    (without_all (λ u. not (eq_update w u)) k us ((any_of-none (eq_update w) us).0 h))

pub without-different : (k : ℕ) (us : List Update) → all_different us ≡ true → all_different (without k us) ≡ true
unfolding without all_different
without-different k [] h = nothing k
  where
    nothing : (k : ℕ) → all_different (take k [] ++ drop (suc k) []) ≡ true
    nothing zero = refl
    nothing (suc k) = refl
without-different zero (u ∷ us) h = and_right (not (is_among u us)) (all_different us) h
without-different (suc k) (u ∷ us) h =
    let new = not-true (is_among u us) (and_left (not (is_among u us)) (all_different us) h) in
    and_both (ap not (without-among u k us new)) (without-different k us (and_right (not (is_among u us)) (all_different us) h))

pub without-charge : (d : Deck) (k : ℕ) (us : List Update) → k < length us → one d (pick k us) + charge d (without k us) ≡ charge d us
unfolding pick without charge lists
without-charge d k [] h = absurd (not-suc-le-zero h)
without-charge d zero (u ∷ us) h = refl
without-charge d (suc k) (u ∷ us) h = let e = without-charge d k us (le_of_suc-le-suc h) in omega arith

-- ---- what a known update has

pub record Known (d : Deck) (u : Update) : Type 0 where
  pub part : u.part < N d
  pub some : is_empty u.pairs ≡ false
  pub inside : all_of (λ c. ltb c (R d)) (channels u) ≡ true
  pub different : distinct (channels u) ≡ true

pub known-has : (d : Deck) (u : Update) → known d u ≡ true → Known d u
unfolding known
known-has d u h =
    let tests = four (ltb u.part (N d)) (not (is_empty u.pairs)) (all_of (λ c. ltb c (R d)) (channels u)) (distinct (channels u)) h in
    record {
      part = ltb-true u.part (N d) tests.0;
      some = not-true (is_empty u.pairs) tests.1;
      inside = tests.2;
      different = tests.3;
    }

pub pick_known : (d : Deck) (C : ℕ) (x : Machine) (k : ℕ) → Fine d C x → k < length x.pending → Known d (pick k x.pending)
unfolding pick
pick_known d C x k f h =
    known-has d (pick k x.pending) (all_of-at (known d) x.pending k (record { part = 0; pairs = [] }) f.known h)

-- ---- a commit, applied or discarded

-- what is left when an update is taken out
abbrev pub taken_out : ℕ → Machine → Machine
taken_out k x = record { values = x.values; pending = without k x.pending }

module _ (d : Deck) (k : ℕ) (x : Machine) where
  abbrev u : Update
  u = pick k x.pending

  -- whether the update's part is within its limit with the update applied
  abbrev pub WithinIs : Bool → Type 0
  WithinIs b = within d u.part (assign u.part u.pairs x.values) ≡ b

  -- whatever holds of an applied commit and of a discarded one holds of every commit
  pub commit-either : (P : Bool → Machine → Type 0)
      → (WithinIs true → P true (set_and_fire d u.part u.pairs (taken_out k x)))
      → (WithinIs false → P false (taken_out k x))
      → P (committed d k x).applied (committed d k x).machine
  unfolding committed
  commit-either P applied discarded = go (within d u.part (assign u.part u.pairs x.values)) refl
    where
      go : (b : Bool) → WithinIs b → P b (cond b (set_and_fire d u.part u.pairs (taken_out k x)) (taken_out k x))
      go true e = applied e
      go false e = discarded e

module _ (d : Deck) (formed : Formed d) where
  -- ---- setting channels

  -- with the charge that is then pending
  pub set-fine : (C C' p : ℕ) (l : List Pair) (x : Machine) → Fine d C x → p < N d → all_of (λ c. ltb c (R d)) (channels_in l) ≡ true
      → charge d (set_and_fire d p l x).pending ≤ C' → Fine d C' (set_and_fire d p l x)
  unfolding set_and_fire
  set-fine C C' p l x f lp known bounded =
      let values = assign p l x.values in
      let new = fired d values p (changed d p x.values values) in
      record {
        long = assign-length p l x.values ∙ f.long;
        unused = unused-assign d p l x.values lp formed.channels known f.unused;
        known = enqueue-all (Rattle.pool.specs.States.known d) x.pending new f.known
            (fired-known d values p formed lp (changed d p x.values values));
        short = enqueue-all short x.pending new f.short (fired-short d values p formed lp (changed d p x.values values));
        different = enqueue-different x.pending new f.different;
        bounded = bounded;
      }

  pub set-grows : (p : ℕ) (l : List Pair) (x : Machine) → charge d x.pending ≤ charge d (set_and_fire d p l x).pending
  unfolding set_and_fire
  set-grows p l x =
      let values = assign p l x.values in
      enqueue-grows d x.pending (fired d values p (changed d p x.values values))

  module _ (acyclic : Acyclic d) where
    -- less than the charge of an update that sets these channels
    pub set-most : (p : ℕ) (l : List Pair) (x : Machine) → p < N d
        → charge d (set_and_fire d p l x).pending < charge d x.pending + update_charge d p (channels_in l)
    unfolding set_and_fire
    set-most p l x lp =
        let values = assign p l x.values in
        let cs = changed d p x.values values in
        let targets = known-targets d formed in
        omega (
          arith,
          enqueue-most d x.pending (fired d values p cs),
          fired-most d values p targets acyclic lp cs,
          active-sub d p (rule_charge d p) cs (channels_in l) (changed-assigned d x.values p l),
          charge-of-update targets acyclic p (channels_in l) lp,
        )

    -- ---- a commit

    pub commit-falls : (k : ℕ) (x : Machine) → k < length x.pending → (pick k x.pending).part < N d
        → charge d (committed d k x).machine.pending < charge d x.pending
    unfolding channels
    commit-falls k x h lp =
        let upd = pick k x.pending in
        let less = without-charge d k x.pending h in
        commit-either d k x (λ _ y. charge d y.pending < charge d x.pending)
        (λ _. omega (arith, set-most upd.part upd.pairs (taken_out k x) lp, less))
        (λ _. omega (arith, update-at-least-one d upd.part (channels upd), less))

    pub commit-fine : (C k : ℕ) (x : Machine) → Fine d C x → k < length x.pending → Fine d C (committed d k x).machine
    unfolding channels
    commit-fine C k x f h =
        let upd = pick k x.pending in
        let has = pick_known d C x k f h in
        let less = without-charge d k x.pending h in
        let left : Fine d C (taken_out k x) =
        record {
          long = f.long;
          unused = f.unused;
          known = without_all (Rattle.pool.specs.States.known d) k x.pending f.known;
          short = without_all short k x.pending f.short;
          different = without-different k x.pending f.different;
          bounded = omega (arith, less, f.bounded);
        } in
        commit-either d k x (λ _ y. Fine d C y)
        (λ _. set-fine C C upd.part upd.pairs (taken_out k x) left has.part has.inside
        (omega (arith, set-most upd.part upd.pairs (taken_out k x) has.part, less, f.bounded)))
        (λ _. left)
