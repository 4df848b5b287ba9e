-- The tests that every call begins with: from what the code finds to the definition. Assumes nothing.
use Rattle.std.specs.Prelude.{ℕ, ◌+◌, ◌*◌, ◌/◌, ◌≤◌, ◌<◌, ◌≡◌, refl, true, false, not, List, length, replicate, ℤ, Result, Ok, Err}
use Rattle.std.proofs.Common.{sym, ap, ap₂, ◌∙◌, subst, inl, inr, arith}
use Rattle.std.proofs.lemmas.List.{length-replicate}
use Rattle.lists.specs.Lists.{is_empty}
use Rattle.lists.specs.Laws.Alls.{all_of-weaken}
use Rattle.refusals.specs.Outcome.{refused, accepted, outcomes}
use Rattle.refusals.specs.Numbers.{bad_pool, bad_state}
use Rattle.deck.specs.declared.Form.TheVariants.{New}
use Rattle.deck.proofs.Laws.Forms.{new_none}
use Rattle.deck.specs.Facts.{NoDefaults}
use Rattle.deck.specs.Deck.{Deck}
use Rattle.deck.specs.declared.Deck as Counted
use Rattle.graph.proofs.Laws.Cycles.{no-cycle}
use Rattle.graph.specs.Acyclic.{Acyclic}
use Rattle.graph.proofs.Laws.Targets.{known-targets}
use Rattle.charge.specs.Memo.{Ready}
use Rattle.pool.specs.Updates.{charge}
use Rattle.pool.specs.Places.{places, capacity, updates_of}
use Rattle.pool.specs.States.{Memory, load, known, good_length, good}
use Rattle.pool.proofs.Laws.Good.{fine-loaded, updates-length}
use Rattle.pool.proofs.Laws.Laid.{laid-good}
use Rattle.pool.proofs.Laws.Lengths.{length-bounded, capacity-places}
use Rattle.pool_states.specs.Answer.{Fresh, goodness_of}
use Rattle.pool_states.specs.Laws.Judged.{good-answer, bad-answer}
use Rattle.pool_states.specs.Laws.Shape.{shape-goodness}
use Rattle.pool_states.specs.Laws.PairsHeld.{known_some}
use Rattle.passing.specs.Check.{passing}
use Rattle.passing.specs.Tabled.{layout_of, deck_of}
use Rattle.passing.specs.Judged as Judging
use Rattle.deck.specs.Shape.{shape}
use Rattle.passing.proofs.Laws.Passing.{passing-clean}
use Rattle.pool_holes.specs.Slots.{Slot, holes, whole}
use Rattle.pool_holes.proofs.Laws.Standing.{whole-standing, whole_length, whole-holes}
use Rattle.pool_index.specs.Index.{heads_of, Indexed, Roomy}
use Rattle.firing_queue.specs.Queue.{held_of}
use Rattle.firing_queue.specs.Stored.{Stored}
use Rattle.firing_queue.specs.Laws.Kept.{kept_whole}
use Rattle.calls.specs.Calls.{tested, tested_as}
use Rattle.calls.specs.Answers.{memory_at}
use Rattle.calls_tests.specs.Tested.{Usable, TestsState, TestsPassed, Tests}
use Rattle.refusals.specs.Declined.{decline_outcome}
use Rattle.refusals.specs.declared.Declined.{Declined}
use Rattle.calls_tests.specs.declared.TestsFound.{TestsFound}

-- ---- an index of zeros is long enough

zeros-long : (n : ℕ) → length {A = ℕ} (replicate n 0) ≡ n
zeros-long n = let none : ℕ = 0 in length-replicate n none

zeros-roomy : (most n : ℕ) → 3 ≤ n → n ≤ 196610 → n / 3 + 2 * (most + 1) < n → Roomy most (replicate n 0)
unfolding heads_of
zeros-roomy most n a b c =
    let e = zeros-long n in
    record { some = omega (arith, e, a); few = omega (arith, e, b); links = omega (arith, e, c) }

zeros-fresh : (n m : ℕ) → Roomy (capacity n) (replicate m 0) → Fresh n (replicate m 0)
zeros-fresh n m r = record { roomy = r; zeros = ap (λ k. replicate k 0) (sym (zeros-long m)) }

pub usable-tiny : (n : ℕ) → n ≤ 640 → Usable n (replicate 196 0)
unfolding capacity
usable-tiny n h g = zeros-fresh n 196 (zeros-roomy (n / 10) 196 (omega arith) (omega arith) (omega (arith, h)))

pub usable-small : (n : ℕ) → n ≤ 2560 → Usable n (replicate 772 0)
unfolding capacity
usable-small n h g = zeros-fresh n 772 (zeros-roomy (n / 10) 772 (omega arith) (omega arith) (omega (arith, h)))

pub usable-short : (n : ℕ) → n ≤ 10240 → Usable n (replicate 3076 0)
unfolding capacity
usable-short n h g = zeros-fresh n 3076 (zeros-roomy (n / 10) 3076 (omega arith) (omega arith) (omega (arith, h)))

pub usable-medium : (n : ℕ) → n ≤ 20480 → Usable n (replicate 6148 0)
unfolding capacity
usable-medium n h g = zeros-fresh n 6148 (zeros-roomy (n / 10) 6148 (omega arith) (omega arith) (omega (arith, h)))

pub usable-long : (n : ℕ) → n ≤ 40960 → Usable n (replicate 12292 0)
unfolding capacity
usable-long n h g = zeros-fresh n 12292 (zeros-roomy (n / 10) 12292 (omega arith) (omega arith) (omega (arith, h)))

pub usable-longer : (n : ℕ) → n ≤ 122880 → Usable n (replicate 36868 0)
unfolding capacity
usable-longer n h g = zeros-fresh n 36868 (zeros-roomy (n / 10) 36868 (omega arith) (omega arith) (omega (arith, h)))

pub usable : (n : ℕ) → Usable n (replicate 196610 0)
usable n g =
    zeros-fresh n 196610 (zeros-roomy (capacity n) 196610 (omega arith) (omega arith) (omega (arith, length-bounded n g)))

-- ---- the definition's tests, one by one

module _ (s : List ℕ) (m : Memory) where
  pub tested-refused : (n p : ℕ) → passing New s ≡ refused n p → tested s m ≡ refused n p
  unfolding tested_as outcomes
  tested-refused n p e = rw e

  module _ (w : passing New s ≡ accepted (layout_of s)) where
    pub tested-pool : good_length (length m.pool) ≡ false → tested s m ≡ refused bad_pool 0
    unfolding tested_as outcomes
    tested-pool l = rw (w, l)

    pub tested-state : good_length (length m.pool) ≡ true → good (deck_of s) m ≡ false → tested s m ≡ refused bad_state 0
    unfolding tested_as outcomes
    tested-state l g = rw (w, l, g)

    pub tested-good : good_length (length m.pool) ≡ true → good (deck_of s) m ≡ true → tested s m ≡ accepted (deck_of s)
    unfolding tested_as outcomes
    tested-good l g = rw (w, l, g)

-- ---- all that the rest of a call needs

-- the numbers of a good state stand for what they load as
held-loaded : (d : Deck) (m : Memory) (index : List ℕ) (total : ℕ) → good d m ≡ true
    → total ≡ charge d (updates_of m.state.pending m.pool)
    → Indexed (places m.state.pending m.pool) index
    → Stored d (capacity (length m.pool)) (whole (load m).pending) (load m) m.state.values m.state.pending total
    (held_of index m.pool)
unfolding load
held-loaded d m index total g t x =
    let us = updates_of m.state.pending m.pool in
    let n = updates-length m.state.pending m.pool in
    let fine = fine-loaded d m g in
    record {
      fine = fine;
      values = refl;
      stands = whole-standing us;
      count = sym n ∙ sym (whole_length us);
      kept =
          kept_whole (laid-good d m g) (all_of-weaken (λ u. not (is_empty u.pairs)) (known d) (known_some d) us fine.known)
          (subst (λ k. Indexed (places k m.pool) index) (sym n) x);
      charged = t;
    }

module _ (s rules parts charges : List ℕ) (k : Counted.Deck) (n : ℕ) (w : Judging.Passed New s rules parts charges k n) where
  pub passed-acyclic : Acyclic (deck_of s)
  passed-acyclic =
      (no-cycle (known-targets (deck_of s) w.tabled.counts.formed)).0 (passing-clean New s (layout_of s) w.passes).2

  -- a new deck has no default actions
  passed_none : NoDefaults (deck_of s)
  passed_none = new_none s w.bytes (layout_of s) (passing-clean New s (layout_of s) w.passes).0

  goodness-same : (m : Memory) → goodness_of (shape rules parts k) m ≡ goodness_of (deck_of s) m
  goodness-same m =
      rw (w.tabled.counts.channels, w.tabled.counts.rules, w.tabled.counts.parts)
      (shape-goodness w.tabled.sets w.tabled.ranged m)

  pub state-ready : Ready rules parts k charges × (k.channels ≤ 32)
  state-ready = (
    record { tables = w.acyclic; memo = w.charges },
    omega (arith, w.tabled.counts.channels, w.tabled.counts.formed.channels),
  )

  module _ (memo index : List ℕ) (pool vs : List ℤ) (pending : ℕ) where
    abbrev m : Memory
    m = memory_at vs pending pool

    pub state-passed : (x : TestsFound) → TestsState k rules parts memo index pool vs pending (Ok x)
        → TestsPassed s rules parts memo index m x.counts x.pending.charge
    state-passed x t =
        subst (λ c. TestsPassed s rules parts memo index m c x.pending.charge) (sym t.0)
        (record {
          accepted = tested-good s m w.passes t.1 a.0;
          entering = record {
            tabled = w.tabled;
            none = passed_none;
            ready = record { tables = w.acyclic; memo = t.3 };
            acyclic = passed-acyclic;
            room = record {
              bounded = omega (arith, none, length-bounded (length pool) t.1);
              places = omega (arith, none, capacity-places (length pool));
              index = subst (λ n. Roomy n index)
                  (let e : capacity (length pool) ≡ holes slots + capacity (length pool) = omega (arith, none) in e) t.5;
            };
            slots = slots;
            machine = load m;
            stored = held;
          };
          loaded = held;
          whole_slots = refl;
        })
      where
        a : (good (deck_of s) m ≡ true) × (x.pending.charge ≡ charge (deck_of s) (updates_of pending pool))
        a = good-answer (deck_of s) m (t.2 ∙ goodness-same m)

        slots : List Slot
        slots = whole (load m).pending

        none : holes slots ≡ 0
        none = whole-holes (load m).pending

        held : Stored (deck_of s) (capacity (length pool)) slots (load m) vs pending x.pending.charge (held_of index pool)
        held = held-loaded (deck_of s) m index x.pending.charge a.0 a.1 t.4

    pub state-refused : (d : Declined) → TestsState k rules parts memo index pool vs pending (Err d) → tested s m ≡ decline_outcome d
    state-refused d (z, inl x) = tested-pool s m w.passes x.1 ∙ ap₂ refused (sym x.0) (sym z)
    state-refused d (z, inr x) =
        tested-state s m w.passes x.1 (bad-answer (deck_of s) m (x.2 ∙ goodness-same m)) ∙ ap₂ refused (sym x.0) (sym z)

    pub state-tests : (r : Result TestsFound Declined) → TestsState k rules parts memo index pool vs pending r
        → Tests s rules parts memo index pool vs pending r
    state-tests (Ok x) t = (t.6, state-passed x t)
    state-tests (Err d) t = state-refused d t
