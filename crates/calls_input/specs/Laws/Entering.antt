-- An input on what was tested: what the code is lent, and what it leaves. Assumes nothing.
use Rattle.std.specs.Prelude.{ℕ, ◌*◌, ◌-◌, ◌/◌, ◌%◌, ◌<◌, ◌≤◌, ◌≡◌, refl, Bool, true, false, not, List, ◌++◌, length, take, drop, ℤ}
use Rattle.std.proofs.Math.Path.{sym, ap, ap₂}
use Rattle.std.proofs.Common.{◌∙◌, subst, append-nil, length-take, length-drop, drop_of_length-le}
use native.Mathlib.Omega.{arith}
use borrow.Author.Tests.{le-leb, lt-leb, lt-ltb, le-ltb, not-true, not-false}
use Rattle.lists.specs.Bits.{mask_of}
use Rattle.refusals.specs.Outcome.{Outcome, refused, accepted, outcomes}
use Rattle.refusals.specs.Numbers.{unknown_part, bad_input, input_outside, over_capacity}
use Rattle.deck.specs.Deck.{Deck, N}
use Rattle.deck.specs.declared.Deck as Counted
use Rattle.pool.specs.Updates.{Update, assign, charge}
use Rattle.pool.specs.Places.{zeros, capacity, pool_of, pairs_of}
use Rattle.pool.specs.States.{Machine}
use Rattle.pool.specs.Moves.{Laid}
use Rattle.pool.proofs.Laws.Values.{assign-length}
use Rattle.pool.proofs.Laws.Good.{count-bounded}
use Rattle.pool.proofs.Laws.Laid.{laid-cleared, cleared-length}
use Rattle.passing.specs.Check.{within}
use Rattle.passing.specs.Tabled.{deck_of}
use Rattle.deck.specs.Shape.{shape}
use Rattle.firing.specs.Firing.{fired, changed, enqueue, set_and_fire}
use Rattle.firing.specs.Evaluated.{Assignable, Compared}
use Rattle.firing.proofs.Laws.Commits.{set-grows}
use Rattle.firing.proofs.Laws.Setting.{compared-changed}
use Rattle.firing_queue.specs.declared.Queue.{Queue}
use Rattle.pool_holes.specs.Slots.{whole}
use Rattle.pool_holes.proofs.Laws.Standing.{whole_append, whole_length, whole-standing}
use Rattle.firing_queue.specs.Queue.{Held, held_of, Kept, Grown}
use Rattle.firing_queue.specs.Laws.Kept.{kept-laid}
use Rattle.firing_rules.specs.Reactions.{Reacting, Reacted, Reacts}
use Rattle.firing_rules.specs.Laws.Reacting.{changed-low}
use Rattle.firing_queue.specs.Stored.{Stored}
use Rattle.firing_commits.specs.Laws.Committing.{left_in, charge-same}
use Rattle.calls.specs.Calls.{Answer, added, Done, good_input}
use Rattle.calls_tests.specs.Laws.Entering.{enter-room}
use Rattle.calls_tests.specs.Tested.{Entering, Left}
use Rattle.calls_input.specs.Entered.{GoodInput, entered, Leaves, Enters}
use Rattle.calls.proofs.Laws.Inputs.{input-even, input-few, input-known, input-different}
use Rattle.calls_input.specs.Laws.InputTests.{input-assignable}

-- ---- what the definition makes of an input

module _ (d : Deck) (C : ℕ) (x : Machine) (p : ℕ) (l : List ℤ) where
  abbrev later : Machine
  later = set_and_fire d p (pairs_of l) x

  -- the part is within its limit with the pairs set
  abbrev inside : Bool
  inside = within d p (assign p (pairs_of l) x.values)

  entered-unknown : N d ≤ p → entered d C x p l ≡ refused unknown_part 0
  unfolding entered outcomes
  entered-unknown h = rw (le-ltb p (N d) h)

  entered-bad : p < N d → good_input d l ≡ false → entered d C x p l ≡ refused bad_input 0
  unfolding entered outcomes
  entered-bad h g = rw (lt-ltb p (N d) h, g)

  entered-outside : p < N d → good_input d l ≡ true → inside ≡ false → entered d C x p l ≡ refused input_outside 0
  unfolding entered outcomes
  entered-outside h g i = rw (lt-ltb p (N d) h, g, i)

  entered-over : p < N d → good_input d l ≡ true → inside ≡ true → C < charge d later.pending → entered d C x p l ≡ refused over_capacity 0
  unfolding entered outcomes
  entered-over h g i o = rw (lt-ltb p (N d) h, g, i, lt-leb (charge d later.pending) C o)

  entered-done : p < N d → good_input d l ≡ true → inside ≡ true → charge d later.pending ≤ C
      → entered d C x p l ≡ accepted (record { answer = added (charge d later.pending - charge d x.pending); machine = later })
  unfolding entered outcomes
  entered-done h g i o = rw (lt-ltb p (N d) h, g, i, le-leb (charge d later.pending) C o)

-- ---- what is lent, and what is left

-- where nothing was taken out: `us` were pending at first, and `extra` is written behind them
record Written (d : Deck) (C : ℕ) (us new : List Update) (pool : List ℤ) (q : Queue) : Type 0 where
  pub extra : List Update
  pub laid : Laid pool (us ++ extra)
  pub used : q.used ≡ length (us ++ extra)
  pub room : q.full ≡ false → (us ++ extra ≡ enqueue us new) × (q.charge ≡ charge d (us ++ extra)) × (q.charge ≤ C)
  pub over : q.full ≡ true → C < charge d (enqueue us new)

grown-written : {d : Deck} {C : ℕ} {us new : List Update} {held : Held} {q : Queue} → q.capacity ≡ C
    → Grown d (whole us) new held q → Written d C us new held.pool q
grown-written {d} {C} {us} {new} {held} {q} c g =
    let same = sym (whole_append us g.extra) in
    record {
      extra = g.extra;
      laid = kept-laid (subst (λ l. Kept l held) same g.kept);
      used = g.used ∙ ap length same ∙ whole_length (us ++ g.extra);
      room = λ f. subst (λ l. (l ++ g.extra ≡ enqueue l new) × (q.charge ≡ charge d (l ++ g.extra)) × (q.charge ≤ C))
          (whole-standing us) (let r = g.room f in (r.0, r.1, omega (arith, r.2, c)));
      over = λ f. subst (λ l. C < charge d (enqueue l new)) (whole-standing us) (omega (arith, g.over f, c));
    }

-- the end of a pool, cleared
pub emptied : (n : ℕ) (pool tail : List ℤ) → n ≤ length pool → tail ≡ zeros (length (take (length pool - n) (drop n pool)))
    → take n pool ++ (tail ++ drop (length pool - n) (drop n pool)) ≡ take n pool ++ zeros (length pool - n)
emptied n pool tail h e =
    let long : length (take (length pool - n) (drop n pool)) ≡ length pool - n =
    omega (arith, length-take (length pool - n) (drop n pool), length-drop n pool) in
    let low : length (drop n pool) ≤ length pool - n = omega (arith, length-drop n pool) in
    let none = drop_of_length-le (drop n pool) low in
    ap₂ (λ t z. take n pool ++ (t ++ z)) (e ∙ ap zeros long) none
    ∙ ap (λ t. take n pool ++ t) (append-nil (zeros (length pool - n)))

module _ {s : List ℕ} {k : Counted.Deck} {rules parts memo index : List ℕ} {pool : List ℤ} {vs : List ℤ} {pending total : ℕ}
    (w : Entering s k rules parts memo index pool vs pending total) where
  abbrev d : Deck
  d = deck_of s

  abbrev e : Deck
  e = shape rules parts k

  abbrev C : ℕ
  C = length pool / 10

  pub enter-long : length vs ≡ 512
  enter-long = ap length w.stored.values ∙ w.stored.fine.long

  pub enter-reacting : Reacting s k rules parts memo (held_of index pool) (left_in pending total C)
  unfolding capacity
  enter-reacting =
      let st = w.stored in
      record {
        tabled = w.tabled;
        none = w.none;
        ready = w.ready;
        slots = w.slots;
        room = w.room;
        kept = st.kept;
        count = st.count;
        charged = st.charged ∙ sym (charge-same s rules parts k w.tabled w.machine.pending) ∙ ap (charge e) (sym st.stands);
        within = omega (arith, st.charged, st.fine.bounded);
        not_full = refl;
      }

  pub enter-low : {p : ℕ} → p < k.parts → p < 16
  enter-low h = omega (arith, h, w.tabled.counts.parts, w.tabled.counts.formed.parts)

  module _ (p : ℕ) (l : List ℤ) where
    -- a refusal leaves everything as it was
    refusal : (n : ℕ) {answer : Outcome Answer} {vs₁ : List ℤ} {pending₁ : ℕ} {pool₁ : List ℤ}
        → answer ≡ refused n 0 → vs₁ ≡ vs → pending₁ ≡ pending → pool₁ ≡ pool
        → (o : Outcome Done) → o ≡ refused n 0 → Leaves o vs pending pool answer vs₁ pending₁ pool₁
    refusal n {answer} {vs₁} {pending₁} {pool₁} a v c q o h =
        subst (λ o. Leaves o vs pending pool answer vs₁ pending₁ pool₁) (sym h) (a, v, c, q)

    pub enter-unknown : {answer : Outcome Answer} {vs₁ : List ℤ} {pending₁ : ℕ}
        → k.parts ≤ p → answer ≡ refused unknown_part 0 → vs₁ ≡ vs → pending₁ ≡ pending
        → Enters s vs pending total index pool p l answer vs₁ pending₁ pool
    enter-unknown h a v c x st =
        refusal unknown_part a v c refl _ (entered-unknown d (capacity (length pool)) x p l (omega (arith, h, w.tabled.counts.parts)))

    module _ (lp : p < k.parts) where
      low : p < N d
      low = omega (arith, lp, w.tabled.counts.parts)

      pub enter-bad : {answer : Outcome Answer} {vs₁ : List ℤ} {pending₁ : ℕ}
          {b : Bool} → GoodInput k.channels l b → not b ≡ true → answer ≡ refused bad_input 0 → vs₁ ≡ vs → pending₁ ≡ pending
          → Enters s vs pending total index pool p l answer vs₁ pending₁ pool
      enter-bad {b = b} g h a v c x st =
          refusal bad_input a v c refl _
          (entered-bad d (capacity (length pool)) x p l low (sym (g d (sym w.tabled.counts.channels)) ∙ not-true b h))

      pub enter-good : {b : Bool} → GoodInput k.channels l b → not b ≡ false → good_input d l ≡ true
      enter-good {b} g h = sym (g d (sym w.tabled.counts.channels)) ∙ not-false b h

      pub enter-assignable : good_input d l ≡ true → Assignable l
      enter-assignable g = input-assignable d l w.tabled.counts.formed.channels g

      pub enter-pairs : good_input d l ≡ true → (length l % 2 ≡ 0) × (length l ≤ 64)
      enter-pairs g = (input-even d l g, input-few d l g)

      module _ (g : good_input d l ≡ true) {after : List ℤ} (is : after ≡ assign p (pairs_of l) vs) where
        pub enter-after : length after ≡ 512
        enter-after = ap length is ∙ assign-length p (pairs_of l) vs ∙ enter-long

        pub enter-outside : {answer : Outcome Answer} {vs₁ : List ℤ} {pending₁ : ℕ}
            {b : Bool} → b ≡ within d p after → not b ≡ true → answer ≡ refused input_outside 0 → vs₁ ≡ vs → pending₁ ≡ pending
            → Enters s vs pending total index pool p l answer vs₁ pending₁ pool
        enter-outside {b = b} i h a v c x st =
            let set = ap (within d p) (is ∙ ap (assign p (pairs_of l)) st.values) in
            refusal input_outside a v c refl _ (entered-outside d (capacity (length pool)) x p l low g (sym set ∙ sym i ∙ not-true b h))

      module _ (g : good_input d l ≡ true) {after : List ℤ} (is : after ≡ assign p (pairs_of l) vs)
          {b : Bool} (i : b ≡ within d p after) (h : not b ≡ false) {back : List ℤ} {mask : ℕ} (cmp : Compared p l vs back mask) where
        changes : mask ≡ mask_of (changed d p vs after)
        changes =
            cmp.mask
            ∙ compared-changed d p (pairs_of l) vs w.tabled.counts.formed.channels (enter-low lp) enter-long
            (input-known d l g) (input-different d l g)
            ∙ ap (λ a. mask_of (changed d p vs a)) (sym is)

        module _ {m index₁ : List ℕ} {pool₁ : List ℤ} {q : Queue}
            (react : Reacts d e after p mask (held_of index pool) (left_in pending total C) m (held_of index₁ pool₁) q) where
          r : Reacted d e after p (changed d p vs after) (held_of index pool) (left_in pending total C) m (held_of index₁ pool₁) q
          r = react (changed d p vs after) (changed-low d p vs after w.tabled.counts.formed.channels) changes

          module _ (x : Machine) (st : Stored d (capacity (length pool)) (whole x.pending) x vs pending total (held_of index pool)) where
            abbrev y : Machine
            y = set_and_fire d p (pairs_of l) x

            abbrev new : List Update
            new = fired d after p (changed d p vs after)

            now : after ≡ y.values
            unfolding set_and_fire
            now = is ∙ ap (assign p (pairs_of l)) st.values

            inside-here : within d p (assign p (pairs_of l) x.values) ≡ true
            inside-here = sym (ap (within d p) (is ∙ ap (assign p (pairs_of l)) st.values)) ∙ sym i ∙ not-false b h

            all-used : pending ≡ length x.pending
            all-used = st.count ∙ whole_length x.pending

            before-laid : Laid pool x.pending
            before-laid = kept-laid st.kept

            grown : Written e C x.pending new pool₁ q
            grown =
                grown-written r.capacity (r.grown (whole x.pending) st.kept st.count
                (st.charged ∙ sym (charge-same s rules parts k w.tabled x.pending) ∙ ap (charge e) (sym st.stands)))

            same-pending : enqueue x.pending new ≡ y.pending
            unfolding set_and_fire
            same-pending =
                ap₂ (λ v a. enqueue x.pending (fired d a p (changed d p v a))) st.values now

            -- the charge would pass the places
            over : q.full ≡ true → capacity (length pool) < charge d y.pending
            unfolding capacity
            over f =
                omega (
                  arith,
                  grown.over f,
                  charge-same s rules parts k w.tabled (enqueue x.pending new),
                  ap (charge d) same-pending,
                )

            cleared : take (10 * pending) pool₁ ++ zeros (length pool₁ - 10 * pending) ≡ pool
            cleared =
                let us = x.pending in
                let z = laid-cleared us grown.extra grown.laid in
                let long = cleared-length us grown.extra grown.laid ∙ r.size.pool in
                ap (λ n. take (10 * n) pool₁ ++ zeros (length pool₁ - 10 * n)) all-used
                ∙ z.is
                ∙ ap (λ n. pool_of n us) long
                ∙ sym before-laid.is

            full-leaves : {answer : Outcome Answer} {vs₁ : List ℤ} {pending₁ : ℕ} {pool₂ : List ℤ} → q.full ≡ true
                → answer ≡ refused over_capacity 0 → vs₁ ≡ vs → pending₁ ≡ pending
                → pool₂ ≡ take (10 * pending) pool₁ ++ zeros (length pool₁ - 10 * pending)
                → Leaves (entered d (capacity (length pool)) x p l) vs pending pool answer vs₁ pending₁ pool₂
            full-leaves f a v c z =
                refusal over_capacity a v c (z ∙ cleared) _ (entered-over d (capacity (length pool)) x p l low g inside-here (over f))

            module _ (f : q.full ≡ false) where
              charged : q.charge ≡ charge d y.pending
              charged =
                  let room = grown.room f in
                  room.1 ∙ ap (charge e) room.0
                  ∙ charge-same s rules parts k w.tabled (enqueue x.pending new)
                  ∙ ap (charge d) same-pending

              bounded : charge d y.pending ≤ capacity (length pool)
              unfolding capacity
              bounded = omega (arith, charged, (grown.room f).2)

              grows : total ≤ q.charge
              grows = omega (arith, charged, st.charged, set-grows d w.tabled.counts.formed p (pairs_of l) x)

              left : Left y after q.used pool₁
              left =
                  let room = grown.room f in
                  record {
                    values = now;
                    count = grown.used ∙ ap length (room.0 ∙ same-pending);
                    laid = subst (Laid pool₁) (room.0 ∙ same-pending) grown.laid;
                  }

              room-leaves : Leaves (entered d (capacity (length pool)) x p l) vs pending pool
                  (accepted (added (q.charge - total))) after q.used pool₁
              room-leaves =
                  subst
                  (λ o. Leaves o vs pending pool (accepted (added (q.charge - total))) after q.used pool₁)
                  (sym (entered-done d (capacity (length pool)) x p l low g inside-here bounded))
                  (ap₂ (λ a b. accepted (added (a - b))) charged st.charged, left)

          -- the pending updates of before stand in front
          pub enter-cut : 10 * pending ≤ length pool₁
          enter-cut = omega (arith, r.size.pool, w.stored.kept.spread.room, w.stored.count)

          pub enter-full : {answer : Outcome Answer} {vs₁ : List ℤ} {pending₁ : ℕ} {pool₂ : List ℤ} → q.full ≡ true
              → answer ≡ refused over_capacity 0 → vs₁ ≡ vs → pending₁ ≡ pending
              → pool₂ ≡ take (10 * pending) pool₁ ++ zeros (length pool₁ - 10 * pending)
              → Enters s vs pending total index pool p l answer vs₁ pending₁ pool₂
          enter-full f a v c z x st = full-leaves x st f a v c z

          module _ (x : Machine) (st : Stored d (capacity (length pool)) (whole x.pending) x vs pending total (held_of index pool)) where
            -- all that is written lies in the pool
            pub enter-all : 10 * q.used ≤ length pool₁
            enter-all = let g = grown x st in omega (arith, g.used, g.laid.room)

            pub enter-grows : q.full ≡ false → total ≤ q.charge
            enter-grows f = grows x st f

            pub enter-few : q.full ≡ false → q.used ≤ 65535
            enter-few f =
                let g = grown x st in
                let room = g.room f in
                omega (arith, g.used, count-bounded e (x.pending ++ g.extra), room.1, room.2, enter-room w)

          module _ (f : q.full ≡ false) where
            pub enter-done : Enters s vs pending total index pool p l (accepted (added (q.charge - total))) after q.used pool₁
            enter-done x st = room-leaves x st f
