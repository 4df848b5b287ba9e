-- The commit of one place: what the code is lent, and what it leaves. Assumes nothing.
use Rattle.std.specs.Prelude.{ℕ, ◌+◌, ◌*◌, ◌-◌, ◌<◌, ◌≤◌, ◌≡◌, refl, Bool, true, false, List, [], ◌++◌, length, take, set, ℤ}
use Rattle.std.proofs.Common.{sym, ap₂, ◌∙◌, subst, append-nil, arith, length-set}
use Rattle.std.proofs.Math.Path.{ap}
use Rattle.std.proofs.Math.Bool.{not}
use Rattle.lists.specs.Lists.{all_of, select, below, eq_z}
use Rattle.lists.specs.Bits.{mask_of}
use Rattle.lists.specs.Laws.Alls.{all_of-weaken}
use Rattle.deck.specs.Deck.{Deck}
use Rattle.deck.specs.declared.Deck as Counted
use Rattle.deck.specs.Facts.{NoDefaults}
use Rattle.deck.proofs.Laws.Shape.{shape-R, shape-N}
use Rattle.graph.specs.Acyclic.{Acyclic}
use Rattle.charge.proofs.Laws.Equations.{update-at-least-one}
use Rattle.pool.specs.Updates.{Update, channels, value_at, assign, charge}
use Rattle.pool.specs.Places.{zeros, pairs_of}
use Rattle.pool.specs.States.{Machine, known}
use Rattle.pool.specs.Moves.{written}
use Rattle.pool.proofs.Laws.Values.{assign-length}
use Rattle.pool.proofs.Laws.Good.{count-bounded}
use Rattle.pool.specs.Fine.{Fine}
use Rattle.pool_holes.specs.Slots.{Slot, hole, standing, holes, whole, before}
use Rattle.pool_holes.proofs.Laws.Standing.{standing-pick, standing-inside, standing-emptied, holes-emptied}
use Rattle.pool_holes.proofs.Laws.Spread.{emptied-length}
use Rattle.pool_states.specs.Laws.Shape.{same_known, shape-charge}
use Rattle.passing.specs.Check.{within}
use Rattle.passing.specs.Tabled.{deck_of, Tabled}
use Rattle.deck.specs.Shape.{shape}
use Rattle.firing.specs.Firing.{fired, changed, enqueue, set_and_fire, pick, without, committed}
use Rattle.firing.specs.Evaluated.{Assignable}
use Rattle.firing.proofs.Laws.Commits.{Known, pick_known, commit-falls, commit-fine, without-charge}
use Rattle.charge.specs.Charge.{update_charge}
use Rattle.charge.specs.Memo.{Memo, Ready, capped}
use Rattle.pool_index.specs.Index.{Roomy}
use Rattle.firing_queue.specs.Queue.{Held, held_of, Kept, Room, SameSize, Grown}
use Rattle.firing_queue.specs.Laws.Kept.{standing-behind, kept-emptied}
use Rattle.firing_rules.specs.Reactions.{Reacting, Reacted, Reacts}
use Rattle.firing_queue.specs.Stored.{Stored, Committing}
use Rattle.firing_commits.specs.Commits.{At, Looking, Looks, CommittedTo, CommittingAt, Commits}
use Rattle.firing_queue.specs.Laws.Queue.{same_size, size-then, room-same}
use Rattle.firing_rules.specs.Laws.Reacting.{changed-low}
use Rattle.firing_commits.specs.Laws.Looking.{taken-charge}
use Rattle.firing_queue.specs.declared.Queue.{Queue}

-- ---- the update is out of the pool

-- update j was taken out of the pending ones of x and applied: the others are left in these slots, with room for C. The pairs of
-- `back` set its channels back, and `mask` is the set of those that it changes
pub record Without (d : Deck) (C j : ℕ) (x : Machine) (left : List Slot) (back after : List ℤ) (part mask used total : ℕ)
    (held : Held) : Type 0 where
  pub fine : Fine d (C + 1) x
  pub inside : j < length x.pending
  pub part_is : part ≡ (pick j x.pending).part
  pub after_is : after ≡ assign (pick j x.pending).part (pick j x.pending).pairs x.values
  pub undone : assign part (pairs_of back) after ≡ x.values
  pub changes : mask ≡ mask_of (changed d part x.values after)
  pub stands : standing left ≡ without j x.pending
  pub count : used ≡ length left
  pub kept : Kept left held
  pub charged : total ≡ charge d (without j x.pending)

pub record Finishing (s : List ℕ) (k : Counted.Deck) (rules parts memo : List ℕ) (held : Held) (C : ℕ) (back after : List ℤ)
    (part mask used total : ℕ) : Type 0 where
  pub tabled : Tabled s k rules parts
  pub none : NoDefaults (deck_of s)
  pub ready : Ready rules parts k memo
  pub acyclic : Acyclic (deck_of s)
  pub assignable : Assignable back
  pub number : ℕ
  pub machine : Machine
  pub left : List Slot
  pub room : Room C (holes left) held
  pub taken : Without (deck_of s) C number machine left back after part mask used total held

-- the rest of a commit
pub record Finishes (d e : Deck) (C : ℕ) (back after : List ℤ) (part mask used₀ total₀ : ℕ) (held₀ : Held) (m : List ℕ) (held : Held)
    (values : List ℤ) (used total : ℕ) (applied : Bool) : Type 0 where
  pub result : (j : ℕ) (x : Machine) (left : List Slot) → Without d C j x left back after part mask used₀ total₀ held₀
      → CommittedTo d C j x left values used total held applied
  pub memo : Memo e m
  pub size : SameSize held₀ held

-- ---- what the definition makes of place j

module _ (d : Deck) (j : ℕ) (x : Machine) where
  abbrev u : Update
  u = pick j x.pending

  abbrev rest : List Update
  rest = without j x.pending

  abbrev after : List ℤ
  after = assign u.part u.pairs x.values

  abbrev new : List Update
  new = fired d after u.part (changed d u.part x.values after)

  applied-machine : within d u.part after ≡ true
      → committed d j x ≡ record { applied = true; machine = record { values = after; pending = enqueue rest new } }
  unfolding committed set_and_fire
  applied-machine e = rw e

  discarded-machine : within d u.part after ≡ false
      → committed d j x ≡ record { applied = false; machine = record { values = x.values; pending = rest } }
  unfolding committed
  discarded-machine e = rw e

-- ---- the deck and the shape of its tables

module _ (s rules parts : List ℕ) (k : Counted.Deck) (t : Tabled s k rules parts) where
  pub charge-same : (us : List Update) → charge (shape rules parts k) us ≡ charge (deck_of s) us
  charge-same us =
      rw (t.counts.channels, t.counts.rules, t.counts.parts) (shape-charge t.sets t.ranged us)

  pub changed-same : (p : ℕ) (before after : List ℤ) → changed (shape rules parts k) p before after ≡ changed (deck_of s) p before after
  unfolding changed
  changed-same p before after =
      ap (λ n. select (λ c. not (eq_z (value_at before p c) (value_at after p c))) (below n))
      (shape-R rules parts k.channels k.rules k.parts ∙ t.counts.channels)

  pub known_same : (us : List Update) → all_of (known (deck_of s)) us ≡ true → all_of (known (shape rules parts k)) us ≡ true
  known_same us h =
      all_of-weaken (known (shape rules parts k)) (known (deck_of s))
      (λ u e.
      same_known (shape rules parts k) (deck_of s)
      (shape-R rules parts k.channels k.rules k.parts ∙ t.counts.channels)
      (shape-N rules parts k.channels k.rules k.parts ∙ t.counts.parts)
      u
      ∙ e)
      us h

-- a state with C places is one with more
pub fine-wider : {d : Deck} {C : ℕ} {x : Machine} → Fine d C x → (E : ℕ) → C ≤ E → Fine d E x
fine-wider f E h =
    record {
      long = f.long;
      unused = f.unused;
      known = f.known;
      short = f.short;
      different = f.different;
      bounded = omega (arith, f.bounded, h);
    }

fine-narrower : {d : Deck} {C : ℕ} {x : Machine} → Fine d C x → (E : ℕ) → charge d x.pending ≤ E → Fine d E x
fine-narrower f E h =
    record {
      long = f.long;
      unused = f.unused;
      known = f.known;
      short = f.short;
      different = f.different;
      bounded = h;
    }

-- ---- the rest of a commit, when the update is out

-- so much is left to go on with
abbrev pub left_in : ℕ → ℕ → ℕ → Queue
left_in used total C = record { used = used; charge = total; capacity = C; full = false }

nothing-behind : (left : List Slot) → left ≡ left ++ whole []
unfolding whole
nothing-behind left = sym (append-nil left)

module _ {s : List ℕ} {k : Counted.Deck} {rules parts memo : List ℕ} {held : Held} {C : ℕ} {back now : List ℤ} {part mask used total : ℕ}
    (w : Finishing s k rules parts memo held C back now part mask used total) where
  abbrev d : Deck
  d = deck_of s

  abbrev e : Deck
  e = shape rules parts k

  module _ (j : ℕ) (x : Machine) (left : List Slot) (t : Without d C j x left back now part mask used total held) where
    known-update : Known d (pick j x.pending)
    known-update = pick_known d (C + 1) x j t.fine t.inside

    falls : charge d (committed d j x).machine.pending < charge d x.pending
    falls = commit-falls d w.tabled.counts.formed w.acyclic j x t.inside known-update.part

    -- the charge falls, so that there is room for what is left
    fine-after : Fine d C (committed d j x).machine
    fine-after =
        fine-narrower (commit-fine d w.tabled.counts.formed w.acyclic (C + 1) j x t.fine t.inside) C
        (omega (arith, falls, t.fine.bounded))

    -- the charge of what is left, as the tables have it
    left-charge : total ≡ charge e (standing left)
    left-charge =
        t.charged ∙ sym (charge-same s rules parts k w.tabled (without j x.pending)) ∙ ap (charge e) (sym t.stands)

  pub part_known : part < k.parts
  part_known =
      let t = w.taken in
      omega (arith, t.part_is, (known-update w.number w.machine w.left t).part, w.tabled.counts.parts)

  pub part_low : part < 16
  part_low = omega (arith, part_known, w.tabled.counts.parts, w.tabled.counts.formed.parts)

  pub after-long : length now ≡ 512
  after-long =
      let x = w.machine in
      ap length w.taken.after_is ∙ assign-length _ _ x.values ∙ w.taken.fine.long

  left-low : total ≤ C
  left-low =
      let x = w.machine in
      let t = w.taken in
      let whole = without-charge d w.number x.pending t.inside in
      let some = update-at-least-one d (pick w.number x.pending).part (channels (pick w.number x.pending)) in
      omega (arith, t.charged, whole, some, t.fine.bounded)

  pub finish-reacting : Reacting s k rules parts memo held (left_in used total C)
  finish-reacting =
      let t = w.taken in
      record {
        tabled = w.tabled;
        none = w.none;
        ready = w.ready;
        slots = w.left;
        room = w.room;
        kept = t.kept;
        count = t.count;
        charged = left-charge w.number w.machine w.left t;
        within = left-low;
        not_full = refl;
      }

  -- the update is discarded
  pub finish-discarded : {values : List ℤ} → within d part now ≡ false → values ≡ assign part (pairs_of back) now
      → Finishes d e C back now part mask used total held memo held values used total false
  finish-discarded {values} f b = record { result = discarded; memo = w.ready.memo; size = same_size }
    where
      discarded : (j : ℕ) (x : Machine) (left : List Slot) → Without d C j x left back now part mask used total held
          → CommittedTo d C j x left values used total held false
      discarded j x left t =
          let c = discarded-machine d j x (sym (ap₂ (within d) t.part_is t.after_is) ∙ f) in (
            [],
            (
              subst (λ l. Stored d C l (committed d j x).machine values used total held) (nothing-behind left)
                  (subst (λ y. Fine d C y.machine → Stored d C left y.machine values used total held) (sym c)
                  (λ f.
                  record {
                    fine = f;
                    values = b ∙ t.undone;
                    stands = t.stands;
                    count = t.count;
                    kept = t.kept;
                    charged = t.charged;
                  })
                  (fine-after j x left t)),
              ap (λ y. y.applied) (sym c),
            ),
          )

  -- it is applied, and the firing follows
  module _ {m : List ℕ} {held₂ : Held} {q : Queue} (yes : within d part now ≡ true)
      (r : Reacts d e now part mask held (left_in used total C) m held₂ q) where
    module _ (j : ℕ) (x : Machine) (left : List Slot) (t : Without d C j x left back now part mask used total held) where
      followed : Reacted d e now part (changed d part x.values now) held (left_in used total C) m held₂ q
      followed =
          r (changed d part x.values now) (changed-low d part x.values now w.tabled.counts.formed.channels) t.changes

      grown-out : Grown e left (new d j x) held₂ q
      grown-out =
          let g = followed.grown left t.kept t.count (left-charge j x left t) in
          let fresh : fired d now part (changed d part x.values now) ≡ new d j x
          = ap₂ (λ p a. fired d a p (changed d p x.values a)) t.part_is t.after_is in
          subst (λ l. Grown e left l held₂ q) fresh g

      applied-is : committed d j x
          ≡ record { applied = true; machine = record { values = after d j x; pending = enqueue (rest d j x) (new d j x) } }
      applied-is = applied-machine d j x (sym (ap₂ (within d) t.part_is t.after_is) ∙ yes)

      -- all that the definition has pending
      all-pending : enqueue (standing left) (new d j x) ≡ enqueue (rest d j x) (new d j x)
      all-pending = ap (λ l. enqueue l (new d j x)) t.stands

      same-charge : charge e (enqueue (standing left) (new d j x)) ≡ charge d (committed d j x).machine.pending
      same-charge =
          ap (charge e) all-pending
          ∙ charge-same s rules parts k w.tabled (enqueue (rest d j x) (new d j x))
          ∙ ap (λ y. charge d y.machine.pending) (sym applied-is)

      not_full : q.full ≡ false
      not_full = go q.full refl
        where
          go : (b : Bool) → q.full ≡ b → q.full ≡ false
          go false f = f
          go true f = absurd (omega (arith, grown-out.over f, followed.capacity, same-charge, (fine-after j x left t).bounded))

    pub finish-capacity : q.capacity ≡ C
    finish-capacity = (followed w.number w.machine w.left w.taken).capacity

    pub finish-applied : Finishes d e C back now part mask used total held m held₂ now q.used q.charge true
    finish-applied =
        let f = followed w.number w.machine w.left w.taken in
        record { result = done; memo = f.memo; size = f.size }
      where
        done : (j : ℕ) (x : Machine) (left : List Slot) → Without d C j x left back now part mask used total held
            → CommittedTo d C j x left now q.used q.charge held₂ true
        done j x left t =
            let c = applied-is j x left t in
            let g = grown-out j x left t in
            let room = g.room (not_full j x left t) in (
              g.extra,
              (
                subst (λ y. Fine d C y.machine
                    → Stored d C (left ++ whole g.extra) y.machine now q.used q.charge held₂) (sym c)
                    (λ f.
                    record {
                      fine = f;
                      values = t.after_is;
                      stands = standing-behind left g.extra ∙ room.0 ∙ all-pending j x left t;
                      count = g.used;
                      kept = g.kept;
                      charged = room.1 ∙ ap (charge e) (room.0 ∙ all-pending j x left t)
                          ∙ charge-same s rules parts k w.tabled (enqueue (rest d j x) (new d j x));
                    })
                    (fine-after j x left t),
                ap (λ y. y.applied) (sym c),
              ),
            )

-- ---- what is lent, for each of the functions that a commit calls

module _ {s : List ℕ} {k : Counted.Deck} {rules parts memo index : List ℕ} {pool : List ℤ} {C : ℕ} {vs : List ℤ} {used total p : ℕ}
    (a : CommittingAt s k rules parts memo (held_of index pool) C vs used total p) where
  abbrev w : Committing s k rules parts memo (held_of index pool) C vs used total
  w = a.committing

  pub commit-long : length vs ≡ 512
  commit-long = ap length w.stored.values ∙ w.stored.fine.long

  -- there is a place where something is pending
  pub commit-some : 1 ≤ C
  commit-some =
      let st = w.stored in
      let inside = standing-inside w.slots p a.update a.place.inside a.place.holds in
      omega (arith, inside, ap length st.stands, count-bounded (deck_of s) w.machine.pending, st.fine.bounded)

  pub commit-inside : 10 * p + 10 ≤ length pool
  commit-inside = omega (arith, a.place.inside, w.stored.kept.spread.room)

  pub commit-looking : Looking k rules parts memo pool p
  commit-looking =
      let st = w.stored in
      record {
        ready = w.ready;
        few = omega (arith, w.tabled.counts.channels, w.tabled.counts.formed.channels);
        slots = w.slots;
        spread = st.kept.spread;
        known = ap (all_of (known (shape rules parts k))) st.stands
            ∙ known_same s rules parts k w.tabled w.machine.pending st.fine.known;
        update = a.update;
        place = a.place;
      }

  -- the place becomes a hole
  abbrev out : Held
  out = held_of index (written pool (10 * p) (zeros 10))

  out-size : SameSize (held_of index pool) out
  out-size = record { index = refl; pool = emptied-length w.stored.kept.spread p a.place.inside }

  -- room for one less beside one hole more
  out-room : Room (C - 1) (holes (set w.slots p hole)) out
  out-room =
      let more = holes-emptied w.slots p a.update a.place.inside a.place.holds in
      let same : holes w.slots + C ≡ holes (set w.slots p hole) + (C - 1) = omega (arith, more, commit-some) in
      let r = room-same out-size w.room in
      record {
        bounded = omega (arith, r.bounded, same);
        places = omega (arith, r.places, same);
        index = subst (λ n. Roomy n index) same r.index;
      }

  module _ {m : List ℕ} {now back : List ℤ} {part n c mask : ℕ} (l : Looks (shape rules parts k) p vs pool m now back part n c mask) where
    module _ (slots : List Slot) (u : Update) (x : Machine) (st : Stored (deck_of s) C slots x vs used total (held_of index pool))
        (i : At slots p u) where
      abbrev j : ℕ
      j = before p slots

      inside : j < length x.pending
      inside = omega (arith, standing-inside slots p u i.inside i.holds, ap length st.stands)

      picked : pick j x.pending ≡ u
      unfolding pick
      picked = ap (λ us. pick j us) (sym st.stands) ∙ standing-pick slots p u i.inside i.holds _

      rest-stands : standing (set slots p hole) ≡ without j x.pending
      unfolding without
      rest-stands = standing-emptied slots p u i.inside i.holds ∙ ap (without j) st.stands

      left : (c ≤ total) × (total - c ≡ charge (deck_of s) (without j x.pending))
      left =
          let e = shape rules parts k in
          let found = (l.result slots u st.kept.spread i).2 ∙ ap (λ u. capped (update_charge e u.part (channels u))) (sym picked) in
          let out = taken-charge e x.pending j inside c total found
          (st.charged ∙ sym (charge-same s rules parts k w.tabled x.pending))
          (omega (arith, st.charged, st.fine.bounded, w.room.bounded)) in
          (out.0, out.1 ∙ charge-same s rules parts k w.tabled (without j x.pending))

      -- what is left without it
      without-of : Without (deck_of s) (C - 1) j x (set slots p hole) (take (2 * n) back) now part mask used (total - c) out
      without-of =
          let o = l.result slots u st.kept.spread i in
          record {
            fine = fine-wider st.fine (C - 1 + 1) (omega (arith, commit-some));
            inside = inside;
            part_is = o.0 ∙ ap (λ u. u.part) (sym picked);
            after_is = o.1 ∙ ap₂ (λ (u : Update) v. assign u.part u.pairs v) (sym picked) st.values;
            undone = l.undone ∙ st.values;
            changes = l.changes ∙ ap mask_of (ap (λ v. changed (shape rules parts k) part v now) st.values
                ∙ changed-same s rules parts k w.tabled part x.values now);
            stands = rest-stands;
            count = st.count ∙ sym (length-set slots p hole);
            kept = kept-emptied st.kept p i.inside;
            charged = left.1;
          }

    pub commit-left : c ≤ total
    commit-left = (left w.slots a.update w.machine w.stored a.place).0

    pub commit-finishing : Finishing s k rules parts m out (C - 1) (take (2 * n) back) now part mask used (total - c)
    commit-finishing =
        record {
          tabled = w.tabled;
          none = w.none;
          ready = record { tables = w.ready.tables; memo = l.memo };
          acyclic = w.acyclic;
          assignable = l.assignable;
          number = before p w.slots;
          machine = w.machine;
          left = set w.slots p hole;
          room = out-room;
          taken = without-of w.slots a.update w.machine w.stored a.place;
        }

    pub commit-done : {m₂ : List ℕ} {held₂ : Held} {values : List ℤ} {used₂ t : ℕ} {b : Bool}
        → Finishes (deck_of s) (shape rules parts k) (C - 1) (take (2 * n) back) now part mask used (total - c) out m₂ held₂ values used₂ t b
        → Commits (deck_of s) (shape rules parts k) C p (held_of index pool) vs used total m₂ held₂ values used₂ t b
    commit-done f =
        record {
          result = λ slots u x st i. f.result (before p slots) x (set slots p hole) (without-of slots u x st i);
          memo = f.memo;
          size = size-then out-size f.size;
        }
