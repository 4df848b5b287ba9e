-- One call of a list: it keeps a good state good, its commits are paid by the charge that it adds or that was pending, and its
-- applied commits leave their parts within their limits. Assumes nothing.
use Prim.Native.Nat.{ℕ, zero, suc, ◌+◌, ◌≤◌, ◌<◌}
use Rattle.std.specs.Prelude.{◌≡◌, Bool, not, ◌||◌, cond, leb, ltb, length}
use Rattle.std.proofs.Math.Path.{refl}
use Rattle.std.proofs.Common.{ap, arith, not-suc-le-zero}
use Rattle.std.proofs.Math.Bool.{true, false}
use mathlib.Core.List.{List, [], ◌∷◌}
use borrow.Author.Tests.{leb-true, ltb-true, lt-ltb}
use Rattle.lists.specs.Lists.{lists, all_of, is_empty}
use Rattle.lists.specs.Laws.Booleans.{contradiction}
use Rattle.lists.specs.Laws.Alls.{all_of-cons}
use Rattle.refusals.specs.Outcome.{Outcome, refused, accepted, ◌>>◌, require, outcomes}
use Rattle.refusals.specs.Numbers.{unknown_part, bad_input, input_outside, over_capacity, place_not_pending, budget_too_large}
use Rattle.deck.specs.Deck.{Deck, N}
use Rattle.deck.specs.Facts.{Formed}
use Rattle.graph.specs.Acyclic.{Acyclic}
use Rattle.pool.specs.Updates.{Update, charge}
use Rattle.pool.specs.Places.{pairs_of}
use Rattle.pool.specs.States.{Machine}
use Rattle.pool.proofs.Laws.Good.{count-bounded}
use Rattle.pool.specs.Fine.{Fine}
use Rattle.passing.specs.Check.{within}
use Rattle.firing.specs.Firing.{set_and_fire, pick, committed}
use Rattle.calls.specs.Calls.{Answer, applied, discarded, settled, spent, good_input}
use Rattle.calls.proofs.Laws.Inputs.{input-known}
use Rattle.firing.proofs.Laws.Commits.{pick_known, set-fine, commit-either, commit-falls, commit-fine}
use Rattle.orders.specs.Calling.{Call, input, commit, settle}
use Rattle.orders.specs.Listed.{Turn, turn, turns, ending, Taken, taken, machine_after, commits_of, added_of, listing}
use Rattle.orders.specs.Order.{leaves_within}

-- what an outcome of a call answers, and its turns
abbrev pub answered : Outcome Taken → Outcome Answer
answered (refused n p) = refused n p
answered (accepted t) = accepted t.answer

abbrev pub turns_of : Outcome Taken → List Turn
turns_of (refused n p) = []
turns_of (accepted t) = t.turns

-- a property of outcomes that a refusal has and, where the test holds, the rest has too
pub guard {ℓ} : (P : Outcome Taken → Type ℓ) (b : Bool) (number : ℕ) (o : Outcome Taken) → P (refused number 0) → (b ≡ true → P o)
    → P (require b number 0 >> o)
unfolding outcomes
guard P true number o h g = g refl
guard P false number o h g = h

-- a commit of a pending place is taken, with its turn
abbrev pub taken_turn : Deck → Turn → Taken
taken_turn d t =
    let now = charge d t.after.pending in
    record { answer = cond t.applied (applied now) (discarded now); turns = t ∷ []; machine = t.after }

pub commit-taken : (d : Deck) (C : ℕ) (x : Machine) (k : ℕ) → k < length x.pending
    → taken d C x (commit k) ≡ accepted (taken_turn d (turn d k x))
unfolding taken outcomes
commit-taken d C x k h = ap (λ b. require b place_not_pending 0 >> accepted (taken_turn d (turn d k x))) (lt-ltb k (length x.pending) h)

-- ---- turns

pub some-pending : (us : List Update) → is_empty us ≡ false → 0 < length us
unfolding lists
some-pending [] h = contradiction refl h
some-pending (u ∷ us) h = omega arith

none-pending : (us : List Update) → length us ≤ 0 → is_empty us ≡ true
unfolding lists
none-pending [] h = refl
none-pending (u ∷ us) h = absurd (not-suc-le-zero h)

module _ (d : Deck) (formed : Formed d) (acyclic : Acyclic d) where
  turn-within : (k : ℕ) (x : Machine) → leaves_within d (turn d k x) ≡ true
  unfolding leaves_within turn set_and_fire
  turn-within k x =
      commit-either d k x (λ b y. (not b || within d (pick k x.pending).part y.values) ≡ true) (λ e. e) (λ _. refl)

  -- what turns keep, and what they cost
  pub record Turning (C b : ℕ) (x : Machine) (ts : List Turn) : Type 0 where
    pub fine : Fine d C (ending x ts)
    pub paid : length ts + charge d (ending x ts).pending ≤ charge d x.pending
    pub stays : all_of (leaves_within d) ts ≡ true
    pub settles : charge d x.pending ≤ b → is_empty (ending x ts).pending ≡ true

  pub turning : (C b : ℕ) (x : Machine) → Fine d C x → Turning C b x (turns d b x)
  unfolding turns ending turn lists
  turning C zero x f =
      record {
        fine = f;
        paid = omega arith;
        stays = refl;
        settles = λ h. none-pending x.pending (omega (arith, count-bounded d x.pending));
      }
  turning C (suc b) x f =
      go (is_empty x.pending) refl (λ h. turning C b (committed d 0 x).machine (commit-fine d formed acyclic C 0 x f h))
    where
      first : Turn
      first = turn d 0 x

      go : (e : Bool) → is_empty x.pending ≡ e → (0 < length x.pending → Turning C b first.after (turns d b first.after))
          → Turning C (suc b) x (cond e [] (first ∷ turns d b first.after))
      go true e later = record { fine = f; paid = omega arith; stays = refl; settles = λ h. e }
      go false e later =
          let some = some-pending x.pending e in
          let rest = later some in
          let falls = commit-falls d formed acyclic 0 x some (pick_known d C x 0 f some).part in
          record {
            fine = rest.fine;
            paid = omega (arith, rest.paid);
            stays = all_of-cons (leaves_within d) first (turns d b first.after) (turn-within 0 x) rest.stays;
            settles = λ h. rest.settles (omega arith);
          }

  -- ---- one call

  pub record Taking (C : ℕ) (x : Machine) (o : Outcome Taken) : Type 0 where
    pub fine : Fine d C (machine_after x o)
    pub paid : commits_of (answered o) + charge d (machine_after x o).pending ≤ added_of (answered o) + charge d x.pending
    pub stays : all_of (leaves_within d) (turns_of o) ≡ true

  refusal-taking : (C : ℕ) (x : Machine) (number : ℕ) → Fine d C x → Taking C x (refused number 0)
  unfolding listing lists
  refusal-taking C x number f = record { fine = f; paid = omega arith; stays = refl }

  commit-counts : (b : Bool) (n : ℕ) → (commits_of (accepted (cond b (applied n) (discarded n))) ≡ 1)
      × (added_of (accepted (cond b (applied n) (discarded n))) ≡ 0)
  unfolding commits_of added_of
  commit-counts true n = (refl, refl)
  commit-counts false n = (refl, refl)

  settle-counts : (b : Bool) (n : ℕ) → (commits_of (accepted (cond b (settled n) (spent n))) ≡ n)
      × (added_of (accepted (cond b (settled n) (spent n))) ≡ 0)
  unfolding commits_of added_of
  settle-counts true n = (refl, refl)
  settle-counts false n = (refl, refl)

  pub taking : (C : ℕ) (x : Machine) → Fine d C x → (c : Call) → Taking C x (taken d C x c)
  unfolding taken listing lists
  taking C x f (input p l) =
      let after = set_and_fire d p (pairs_of l) x in
      guard (Taking C x) (ltb p (N d)) unknown_part _ (refusal-taking C x unknown_part f)
      (λ lp.
      guard (Taking C x) (good_input d l) bad_input _ (refusal-taking C x bad_input f)
      (λ g.
      guard (Taking C x) _ input_outside _ (refusal-taking C x input_outside f)
      (λ _.
      guard (Taking C x) (leb (charge d after.pending) C) over_capacity _ (refusal-taking C x over_capacity f)
      (λ b.
      record {
        fine = set-fine d formed C C p (pairs_of l) x f (ltb-true p (N d) lp) (input-known d l g) (leb-true (charge d after.pending) C b);
        paid = omega arith;
        stays = refl;
      }))))
  taking C x f (commit k) =
      guard (Taking C x) (ltb k (length x.pending)) place_not_pending _ (refusal-taking C x place_not_pending f)
      (λ h.
      let below = ltb-true k (length x.pending) h in
      let now = charge d (turn d k x).after.pending in
      let count = commit-counts (turn d k x).applied now in
      record {
        fine = commit-fine d formed acyclic C k x f below;
        paid = omega (arith, count.0, count.1, commit-falls d formed acyclic k x below (pick_known d C x k f below).part);
        stays = all_of-cons (leaves_within d) (turn d k x) [] (turn-within k x) refl;
      })
  taking C x f (settle b) =
      guard (Taking C x) (leb b 65535) budget_too_large _ (refusal-taking C x budget_too_large f)
      (λ h.
      let t = turning C b x f in
      let count = settle-counts (is_empty (ending x (turns d b x)).pending) (length (turns d b x)) in
      record { fine = t.fine; paid = omega (arith, count.0, count.1, t.paid); stays = t.stays })
