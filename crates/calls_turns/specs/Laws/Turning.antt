-- The turns of the code: the commits of one place that were made, and what they left is held in the places used. Assumes nothing.
use Rattle.std.specs.Prelude.{ℕ, suc, ◌+◌, ◌-◌, ◌≤◌, ◌<◌, ◌≡◌, refl, ◌⊎◌, Bool, List, [], ◌∷◌, ◌++◌, length, get_or, take, drop, set, ℤ}
use Rattle.std.proofs.Common.{sym, ap, ap₂, ◌∙◌, subst, inl, inr, arith, length-append, length-take, length-drop, take-append-drop}
use Rattle.std.proofs.Math.Seq.{take-append_seam, drop-append_seam}
use Rattle.deck.specs.Deck.{Deck}
use Rattle.deck.specs.declared.Deck as Counted
use Rattle.pool.specs.Updates.{Update}
use Rattle.pool.specs.States.{Machine}
use Rattle.pool.specs.Moves.{Laid}
use Rattle.pool.proofs.Laws.Good.{count-bounded}
use Rattle.pool_holes.specs.Slots.{Slot, hole, standing, holes, whole, before, Edges, Scattered, Gathers}
use Rattle.pool_holes.proofs.Laws.Standing.{parted, parted-before, parted-at, parted-emptied, parted-standing, parted-holes, parted-length}
use Rattle.pool_holes.proofs.Laws.Standing.{parted-edges, whole_append, whole_length}
use Rattle.passing.specs.Tabled.{deck_of}
use Rattle.deck.specs.Shape.{shape}
use Rattle.firing.specs.Firing.{committed}
use Rattle.pool_index.specs.Index.{Roomy}
use Rattle.firing_queue.specs.Queue.{Held, held_of, Room}
use Rattle.firing_queue.specs.Laws.Queue.{room-same}
use Rattle.firing_queue.specs.Stored.{Stored, Committing}
use Rattle.firing_commits.specs.Commits.{At, CommittingAt, Commits}
use Rattle.calls_tests.specs.Tested.{Left}
use Rattle.calls_turns.specs.Turns.{Beginning, Repeats, none, more, Began, Turned}

-- the updates before place `first` of the list, and those from there on
module _ (first : ℕ) where
  abbrev ahead : Machine → List Update
  ahead y = take first y.pending

  abbrev behind : Machine → List Update
  behind y = drop first y.pending

  -- the places that were committed are holes between them
  abbrev pub slots_at : ℕ → Machine → List Slot
  slots_at made y = parted (ahead y) made (behind y)

  ahead-length : (y : Machine) → first ≤ length y.pending → length (ahead y) ≡ first
  ahead-length y h = omega (arith, length-take first y.pending)

  -- a list that was parted there
  parts-of : (a b : List Update) (y : Machine) → length a ≡ first → a ++ b ≡ y.pending → (ahead y ≡ a) × (behind y ≡ b)
  parts-of a b y l e = (
    ap (take first) (sym e) ∙ ap (λ n. take n (a ++ b)) (sym l) ∙ take-append_seam a b,
    ap (drop first) (sym e) ∙ ap (λ n. drop n (a ++ b)) (sym l) ∙ drop-append_seam a b,
  )

  some-behind : (y : Machine) → first < length y.pending → (u : Update) × ((b : List Update) × (behind y ≡ u ∷ b))
  some-behind y h = go (behind y) (omega (arith, length-drop first y.pending))
    where
      go : (l : List Update) → 0 < length l → (u : Update) × ((b : List Update) × (l ≡ u ∷ b))
      go [] h = absurd (omega arith)
      go (u ∷ b) h = (u, (b, refl))

  -- the next place holds the update of that number
  next-at : (made p : ℕ) (y : Machine) → p ≡ first + made → first < length y.pending → (u : Update) × At (slots_at made y) p u
  next-at made p y e h =
      let s = some-behind y h in
      let here : p ≡ length (ahead y) + made = omega (arith, e, ahead-length y (omega (arith, h))) in (
        s.0,
        record {
          inside = omega (arith, parted-length (ahead y) made (behind y), here, ap length s.1.1);
          holds = ap (λ b. get_or (parted (ahead y) made b) p hole) s.1.1 ∙ parted-at (ahead y) made s.0 s.1.0 p here;
        },
      )

-- no commit was made
repeats-none : {d : Deck} {first n : ℕ} {x y : Machine} → Repeats d first x n y → n ≡ 0 → y ≡ x
repeats-none none e = refl
repeats-none (more r h) e = absurd (omega (arith, e))

-- the commit of the next place leaves one hole more
module _ (made : ℕ) {d e : Deck} {E first p : ℕ} {held held₁ : Held} {vs vs₁ : List ℤ} {used used₁ total total₁ : ℕ}
    {m : List ℕ} {applied : Bool}
    (here : p ≡ first + made) (c : Commits d e E p held vs used total m held₁ vs₁ used₁ total₁ applied) (y : Machine)
    (st : Stored d E (slots_at first made y) y vs used total held) (some : first < length y.pending) where
  abbrev z : Machine
  z = (committed d first y).machine

  there : p ≡ length (ahead first y) + made
  there = omega (arith, here, ahead-length first y (omega (arith, some)))

  numbered : before p (slots_at first made y) ≡ first
  numbered = parted-before (ahead first y) made (behind first y) p there ∙ ahead-length first y (omega (arith, some))

  after : (extra : List Update)
      × (Stored d (E - 1) (set (slots_at first made y) p hole ++ whole extra) z vs₁ used₁ total₁ held₁
      × (applied ≡ (committed d first y).applied))
  after =
      let at = next-at first made p y here some in
      let r = c.result (slots_at first made y) at.0 y st at.1 in (
        r.0,
        (
          subst (λ j. Stored d (E - 1) (set (slots_at first made y) p hole ++ whole r.0)
              (committed d j y).machine vs₁ used₁ total₁ held₁)
              numbered r.1.0,
          subst (λ j. applied ≡ (committed d j y).applied) numbered r.1.1,
        ),
      )

  turned-told : applied ≡ (committed d first y).applied
  turned-told = after.1.1

  turned-next : (first ≤ length z.pending) × Stored d (E - 1) (slots_at first (made + 1) z) z vs₁ used₁ total₁ held₁
  turned-next =
      let r = after in
      let s = some-behind first y some in
      let a = ahead first y in
      let b = s.1.0 ++ r.0 in
      let same : set (slots_at first made y) p hole ++ whole r.0 ≡ parted a (suc made) b =
      ap (λ l. set (parted a made l) p hole ++ whole r.0) s.1.1 ∙ parted-emptied a made s.0 s.1.0 r.0 p there in
      let left : a ++ b ≡ z.pending = sym (parted-standing a (suc made) b) ∙ ap standing (sym same) ∙ r.1.0.stands in
      let parts = parts-of first a b z (ahead-length first y (omega (arith, some))) left in
      let one : suc made ≡ made + 1 = omega arith in
      let slots : set (slots_at first made y) p hole ++ whole r.0 ≡ slots_at first (made + 1) z =
      same ∙ ap (λ n. parted a n b) one ∙ ap₂ (λ a b. parted a (made + 1) b) (sym parts.0) (sym parts.1) in (
        omega (arith, ap length left, length-append a b, ahead-length first y (omega (arith, some))),
        subst (λ l. Stored d (E - 1) l z vs₁ used₁ total₁ held₁) slots r.1.0,
      )

-- the numbers after some turns, for whatever they stood for at first
pub record Turning (s : List ℕ) (k : Counted.Deck) (rules parts : List ℕ) (C first budget : ℕ)
    (vs₀ : List ℤ) (pending₀ total₀ : ℕ) (index₀ : List ℕ) (pool₀ : List ℤ)
    (memo index : List ℕ) (pool vs : List ℤ) (used total : ℕ) (applied : Bool) (made next : ℕ) : Type 0 where
  pub within : made ≤ budget
  pub reached : next ≡ first + made
  pub enough : made + total ≤ C
  pub committing : Committing s k rules parts memo (held_of index pool) (C - made) vs used total
  pub ahead_in : first ≤ length committing.machine.pending
  pub slots : committing.slots ≡ slots_at first made committing.machine
  pub index-long : length index ≡ length index₀
  pub long : length pool ≡ length pool₀
  pub left : (x : Machine) → Began s C vs₀ pending₀ total₀ index₀ pool₀ x
      → (y : Machine) × (Repeats (deck_of s) first x made y
      × ((first ≤ length y.pending) × Stored (deck_of s) (C - made) (slots_at first made y) y vs used total (held_of index pool)))
  pub told : (x : Machine) → Began s C vs₀ pending₀ total₀ index₀ pool₀ x → made ≡ 1 → applied ≡ (committed (deck_of s) first x).applied

-- no place is a hole at first
whole_slots : (first : ℕ) (y : Machine) → whole y.pending ≡ slots_at first 0 y
unfolding whole
whole_slots first y =
    ap whole (sym (take-append-drop first y.pending)) ∙ whole_append (take first y.pending) (drop first y.pending)

module _ {s : List ℕ} {k : Counted.Deck} {rules parts : List ℕ} {C first : ℕ} where
  pub first-turn : (budget : ℕ) {memo index : List ℕ} {pool vs : List ℤ} {pending total : ℕ} {applied : Bool}
      → Beginning s k rules parts memo index pool C vs pending total first
      → Turning s k rules parts C first budget vs pending total index pool memo index pool vs pending total applied 0 first
  first-turn budget {memo} {index} {pool} {vs} {pending} {total} b =
      let w = b.committing in
      let all : C ≡ C - 0 = omega arith in
      let ahead_of : (y : Machine) → Stored (deck_of s) C (whole y.pending) y vs pending total (held_of index pool)
      → first ≤ length y.pending =
      λ y st. omega (arith, b.inside, st.count, whole_length y.pending) in
      record {
        within = omega arith;
        reached = omega arith;
        enough = omega (arith, w.stored.charged, w.stored.fine.bounded);
        committing =
            record {
              tabled = w.tabled;
              none = w.none;
              ready = w.ready;
              acyclic = w.acyclic;
              slots = w.slots;
              room = subst (λ n. Room n (holes w.slots) (held_of index pool)) all w.room;
              machine = w.machine;
              stored = subst (λ n. Stored (deck_of s) n w.slots w.machine vs pending total (held_of index pool)) all w.stored;
            };
        ahead_in = ahead_of w.machine
            (subst (λ l. Stored (deck_of s) C l w.machine vs pending total (held_of index pool)) b.whole_slots w.stored);
        slots = b.whole_slots ∙ whole_slots first w.machine;
        index-long = refl;
        long = refl;
        left = λ x st. (
          x,
          (
            none,
            (
              ahead_of x st,
              subst (λ n. Stored (deck_of s) n (slots_at first 0 x) x vs pending total (held_of index pool)) all
                  (subst (λ l. Stored (deck_of s) C l x vs pending total (held_of index pool)) (whole_slots first x) st),
            ),
          ),
        );
        told = λ x st e. absurd (omega (arith, e));
      }

  module _ {budget : ℕ} {vs₀ : List ℤ} {pending₀ total₀ : ℕ} {index₀ : List ℕ} {pool₀ : List ℤ}
      {memo index : List ℕ} {pool vs : List ℤ} {used total : ℕ} {applied : Bool} {made next : ℕ}
      (t : Turning s k rules parts C first budget vs₀ pending₀ total₀ index₀ pool₀ memo index pool vs used total applied made next) where
    abbrev w : Committing s k rules parts memo (held_of index pool) (C - made) vs used total
    w = t.committing

    abbrev y₀ : Machine
    y₀ = w.machine

    -- what the lent numbers stand for
    now : Stored (deck_of s) (C - made) (slots_at first made y₀) y₀ vs used total (held_of index pool)
    now = subst (λ l. Stored (deck_of s) (C - made) l y₀ vs used total (held_of index pool)) t.slots w.stored

    -- places used: those that were committed, and the updates pending
    counted : (y : Machine) → Stored (deck_of s) (C - made) (slots_at first made y) y vs used total (held_of index pool)
        → used ≡ made + length y.pending
    counted y st =
        omega (
          arith,
          st.count,
          parted-length (take first y.pending) made (drop first y.pending),
          length-take first y.pending,
          length-drop first y.pending,
        )

    pub next_low : next ≤ used
    next_low = omega (arith, t.reached, t.ahead_in, counted y₀ now)

    pub made-few : (made ≤ C) × (next ≤ 131070)
    made-few =
        let holes-made = ap holes t.slots ∙ parted-holes (take first y₀.pending) made (drop first y₀.pending) in
        let low = count-bounded (deck_of s) y₀.pending in (
          omega (arith, t.enough),
          omega (arith, t.enough, w.room.bounded, holes-made, t.reached, t.ahead_in, low, now.charged),
        )

    some-there : (y : Machine) → Stored (deck_of s) (C - made) (slots_at first made y) y vs used total (held_of index pool)
        → next < used → first < length y.pending
    some-there y st h = omega (arith, h, t.reached, counted y st)

    -- something is pending, so that there is room for one less
    some_left : next < used → made < C
    some_left some =
        omega (arith, some-there y₀ now some, now.charged, count-bounded (deck_of s) y₀.pending, t.enough)

    -- the next place, and the update that it holds
    pub turn-requires : next < used → CommittingAt s k rules parts memo (held_of index pool) (C - made) vs used total next
    turn-requires some =
        let at = next-at first made next y₀ t.reached (some-there y₀ now some) in
        record { committing = w; update = at.0; place = subst (λ l. At l next at.0) (sym t.slots) at.1 }

    module _ {m index₁ : List ℕ} {pool₁ vs₁ : List ℤ} {used₁ total₁ : ℕ} {applied₁ : Bool}
        (few : made < budget) (some : next < used)
        (c : Commits (deck_of s) (shape rules parts k) (C - made) next (held_of index pool) vs used total m
        (held_of index₁ pool₁) vs₁ used₁ total₁ applied₁) where
      one_less : C - made - 1 ≡ C - (made + 1)
      one_less = omega arith

      next-stored : (y : Machine) → Stored (deck_of s) (C - made) (slots_at first made y) y vs used total (held_of index pool)
          → let z = (committed (deck_of s) first y).machine in
          (first ≤ length z.pending)
          × Stored (deck_of s) (C - (made + 1)) (slots_at first (made + 1) z) z vs₁ used₁ total₁ (held_of index₁ pool₁)
      next-stored y st =
          let z = (committed (deck_of s) first y).machine in
          let r = turned-next made t.reached c y st (some-there y st some) in
          (r.0, subst (λ n. Stored (deck_of s) n (slots_at first (made + 1) z) z vs₁ used₁ total₁ (held_of index₁ pool₁)) one_less r.1)

      abbrev z₀ : Machine
      z₀ = (committed (deck_of s) first y₀).machine

      next-room : Room (C - (made + 1)) (holes (slots_at first (made + 1) z₀)) (held_of index₁ pool₁)
      next-room =
          let r = room-same c.size w.room in
          let was = ap holes t.slots ∙ parted-holes (take first y₀.pending) made (drop first y₀.pending) in
          let is = parted-holes (take first z₀.pending) (made + 1) (drop first z₀.pending) in
          let same : holes w.slots + (C - made) ≡ holes (slots_at first (made + 1) z₀) + (C - (made + 1)) =
          omega (arith, was, is, some_left some) in
          record {
            bounded = omega (arith, r.bounded, same);
            places = omega (arith, r.places, same);
            index = subst (λ n. Roomy n index₁) same r.index;
          }

      told-next : (x : Machine) → Began s C vs₀ pending₀ total₀ index₀ pool₀ x → made + 1 ≡ 1
          → applied₁ ≡ (committed (deck_of s) first x).applied
      told-next x st e =
          let l = t.left x st in
          let same = repeats-none l.1.0 (omega (arith, e)) in
          subst (λ y. applied₁ ≡ (committed (deck_of s) first y).applied) same
          (turned-told made t.reached c l.0 l.1.1.1 (some-there l.0 l.1.1.1 some))

      pub next-turn : Turning s k rules parts C first budget vs₀ pending₀ total₀ index₀ pool₀ m index₁ pool₁ vs₁ used₁ total₁ applied₁
          (made + 1) (next + 1)
      next-turn =
          let st = next-stored y₀ now in
          let one : suc made ≡ made + 1 = omega arith in
          record {
            within = omega (arith, few);
            reached = omega (arith, t.reached);
            enough = omega (arith, st.1.charged, st.1.fine.bounded, some_left some);
            committing =
                record {
                  tabled = w.tabled;
                  none = w.none;
                  ready = record { tables = w.ready.tables; memo = c.memo };
                  acyclic = w.acyclic;
                  slots = slots_at first (made + 1) z₀;
                  room = next-room;
                  machine = z₀;
                  stored = st.1;
                };
            ahead_in = st.0;
            slots = refl;
            index-long = c.size.index ∙ t.index-long;
            long = c.size.pool ∙ t.long;
            left = λ x st.
                let l = t.left x st in
                let y = l.0 in
                let z = (committed (deck_of s) first y).machine in (
                  z,
                  (
                    subst (λ n. Repeats (deck_of s) first x n z) one (more l.1.0 (some-there y l.1.1.1 some)),
                    next-stored y l.1.1.1,
                  ),
                );
            told = told-next;
          }

    -- what is moved together at the end
    edges-of : (y : Machine) → first ≤ length y.pending → Edges (slots_at first made y) first next
    edges-of y h =
        let l = ahead-length first y h in
        subst (λ n. Edges (slots_at first made y) n next) l
        (parted-edges (take first y.pending) made (drop first y.pending) next (omega (arith, t.reached, l)))

    pub turns-scattered : Scattered pool first next used
    turns-scattered =
        record {
          slots = slots_at first made y₀;
          spread = now.kept.spread;
          count = now.count;
          edges = edges-of y₀ t.ahead_in;
          low = omega (arith, t.reached);
          high = next_low;
        }

    module _ {pool₁ : List ℤ} {pending : ℕ} (g : Gathers pool first next used pool₁ pending) where
      -- the pending updates stand alone
      gathered : (y : Machine) → first ≤ length y.pending
          → Stored (deck_of s) (C - made) (slots_at first made y) y vs used total (held_of index pool) → Left y vs pending pool₁
      gathered y h st =
          let r = g.result (slots_at first made y) st.kept.spread st.count (edges-of y h) in
          record {
            values = st.values;
            count = r.1 ∙ ap length st.stands;
            laid = subst (λ us. Laid pool₁ us) st.stands r.0;
          }

      pub gathered-long : length pool₁ ≡ length pool₀
      gathered-long = g.long ∙ t.long

      -- nothing more is to be done: no update has that number, or the budget is used
      pub turns-ended : (used ≡ next) ⊎ (budget ≤ made)
          → Turned s C vs₀ pending₀ total₀ index₀ pool₀ first budget made pending total applied vs pool₁
      turns-ended over =
          let last = gathered y₀ t.ahead_in now in
          record {
            within = t.within;
            ended = λ h. ends over h;
            few = omega (arith, last.count, count-bounded (deck_of s) y₀.pending, now.fine.bounded, w.room.bounded);
            result = λ x st.
                let l = t.left x st in
                (l.0, (l.1.0, (gathered l.0 l.1.1.0 l.1.1.1, l.1.1.1.charged)));
            told = t.told;
          }
        where
          ends : (used ≡ next) ⊎ (budget ≤ made) → made < budget → pending ≤ first
          ends (inl e) h = omega (arith, e, t.reached, counted y₀ now, (gathered y₀ t.ahead_in now).count)
          ends (inr e) h = absurd (omega (arith, e, h))
