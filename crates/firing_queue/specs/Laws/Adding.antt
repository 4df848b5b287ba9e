-- One update offered: what becomes of the pool and the counts. Assumes nothing.
use Rattle.std.specs.Prelude.{ℕ, ◌+◌, ◌*◌, ◌≤◌, ◌<◌, ◌≡◌, refl, Bool, true, false, cond, length, take, ℤ}
use Rattle.std.proofs.Common.{sym, ap₂, ◌∙◌, subst, arith, length-append}
use Rattle.std.proofs.Math.Path.{ap}
use mathlib.Core.List.{List, [], ◌∷◌, ◌++◌, append_assoc}
use Rattle.std.proofs.Math.Seq.{take-length}
use Rattle.lists.specs.Lists.{lists, any_of, eq_z, eq_list}
use Rattle.lists.specs.Laws.Booleans.{and_both, contradiction}
use Rattle.lists.specs.Laws.Alls.{all_of-head}
use Rattle.deck.specs.Deck.{Deck}
use Rattle.charge.specs.Charge.{update_charge}
use Rattle.charge.specs.Memo.{Memo, capped}
use Rattle.pool.specs.Updates.{Update, channels, is_among, charge}
use Rattle.pool.specs.Places.{update_of, place, places, updates_of}
use Rattle.pool.specs.Moves.{written}
use Rattle.pool.specs.Fine.{short}
use Rattle.pool.proofs.Laws.Good.{count-bounded, written_same, updates-short}
use Rattle.pool_holes.specs.Slots.{Slot, holds, standing, holes, whole, fits}
use Rattle.pool_holes.proofs.Laws.Standing.{whole_append}
use Rattle.pool_states.specs.Laws.PairsHeld.{known_some}
use Rattle.pool_states.specs.Answer.{HoldsKnown, PlaceGives}
use Rattle.firing.specs.Firing.{enqueue}
use Rattle.firing.proofs.Laws.Enqueue.{behind, charge-append, enqueue-grows}
use Rattle.pool_index.specs.Hash.{bucket_of}
use Rattle.pool_index.specs.Index.{heads_of, Indexed, Ends, Entering, Enters}
use Rattle.pool_index.specs.Laws.Entering.{roomy-heads}
use Rattle.pool_index.specs.Laws.Front.{places-length}
use Rattle.firing_queue.specs.Queue.{Held, held_of, Kept, Room, SameSize, Grown, Offered}
use Rattle.firing_queue.specs.Laws.Kept.{standing-behind, used-counted, kept-indexed, kept-among, kept-pushed, kept-long}
use Rattle.firing_queue.specs.Laws.Queue.{same_size}
use Rattle.firing_queue.specs.declared.Queue.{Queue}

-- the last of the new ones
enqueue-last : (us new : List Update) (w : Update) → enqueue us (new ++ w ∷ []) ≡ behind (enqueue us new) w
unfolding enqueue
enqueue-last us [] w = refl
enqueue-last us (u ∷ new) w = enqueue-last (behind us u) new w

last-grows : (d : Deck) (us new : List Update) (w : Update) → charge d (enqueue us new) ≤ charge d (enqueue us (new ++ w ∷ []))
unfolding enqueue
last-grows d us new w =
    subst (λ l. charge d (enqueue us new) ≤ charge d l) (sym (enqueue-last us new w)) (enqueue-grows d (enqueue us new) (w ∷ []))

charge-one : (d : Deck) (w : Update) → charge d (w ∷ []) ≡ update_charge d w.part (channels w)
unfolding charge lists
charge-one d w = omega arith

-- a row behind n places, with the index that has it
abbrev pub pushed_to : Held → List ℕ → ℕ → List ℤ → Held
pushed_to held index n row = held_of index (written held.pool (10 * n) row)

-- ---- the counts, and the updates in the pool

abbrev pub counted : ℕ → ℕ → ℕ → Bool → Queue
counted n c k b = record { used = n; charge = c; capacity = k; full = b }

-- where the capacity was not passed before
pub still-room : {d : Deck} {us : List Update} {h₀ h : Held} {q : Queue} {m : List ℕ} {n c k : ℕ} {b : Bool} → b ≡ false
    → Offered d us h₀ q m h (counted n c k false) → Offered d us h₀ q m h (counted n c k b)
still-room {d} {us} {h₀} {h} {q} {m} {n} {c} {k} e o = subst (λ b. Offered d us h₀ q m h (counted n c k b)) (sym e) o

module _ {d : Deck} {slots : List Slot} {new : List Update} {held : Held} {q : Queue} (g : Grown d slots new held q)
    (w : Update) where
  abbrev C : ℕ
  C = q.capacity

  -- what was pending at first
  abbrev us : List Update
  us = standing slots

  -- too much already
  over-still : q.full ≡ true → C < charge d (enqueue us (new ++ w ∷ []))
  over-still h = omega (arith, g.over h, last-grows d us new w)

  grown-full : q.full ≡ true → Grown d slots (new ++ w ∷ []) held q
  grown-full h =
      record { extra = g.extra; kept = g.kept; used = g.used; room = λ e. contradiction h e; over = over-still }

  -- equal to one then pending
  grown-same : is_among w (us ++ g.extra) ≡ true → Grown d slots (new ++ w ∷ []) held q
  grown-same h =
      record {
        extra = g.extra;
        kept = g.kept;
        used = g.used;
        room = λ e. let r = g.room e in (r.0 ∙ sym (same r.0), r.1, r.2);
        over = over-still;
      }
    where
      same : us ++ g.extra ≡ enqueue us new → enqueue us (new ++ w ∷ []) ≡ enqueue us new
      same e =
          enqueue-last us new w
          ∙ ap (λ b. cond b (enqueue us new) (enqueue us new ++ w ∷ [])) (ap (is_among w) (sym e) ∙ h)

  -- a new one
  module _ (open-still : q.full ≡ false) (h : is_among w (us ++ g.extra) ≡ false) where
    one_more_lem : enqueue us (new ++ w ∷ []) ≡ (us ++ g.extra) ++ w ∷ []
    one_more_lem =
        let e = (g.room open-still).0 in
        enqueue-last us new w
        ∙ ap (λ b. cond b (enqueue us new) (enqueue us new ++ w ∷ [])) (ap (is_among w) (sym e) ∙ h)
        ∙ ap (λ l. l ++ w ∷ []) (sym e)

    more-charge : charge d ((us ++ g.extra) ++ w ∷ []) ≡ q.charge + update_charge d w.part (channels w)
    more-charge =
        omega (arith, charge-append d (us ++ g.extra) (w ∷ []), charge-one d w, (g.room open-still).1)

    module _ (few : C ≤ 65535) {c : ℕ} (e : c ≡ capped (update_charge d w.part (channels w))) where
      -- its charge passes C
      grown-over : C < q.charge + c → Grown d slots (new ++ w ∷ []) held (counted q.used q.charge C true)
      grown-over l =
          let total = ap (charge d) one_more_lem ∙ more-charge in
          record {
            extra = g.extra;
            kept = g.kept;
            used = g.used;
            room = λ f. contradiction refl f;
            over = λ _. omega (arith, total, l, e, few);
          }

      -- it is written
      module _ (l : q.charge + c ≤ C) where
        exact : c ≡ update_charge d w.part (channels w)
        exact = omega (arith, l, e, few)

        abbrev before : List Update
        before = us ++ g.extra

        one_less : length before < C
        one_less =
            let few = count-bounded d (before ++ w ∷ []) in
            omega (arith, l, exact, more-charge, few, length-append before (w ∷ []))

        -- the places used now
        abbrev all_slots : List Slot
        all_slots = slots ++ whole g.extra

        module _ (push-room : 10 * q.used + 10 ≤ length held.pool) (f : fits (holds w) ≡ true) {index : List ℕ}
            (entry : Enters q.used (place w) held.index index) where
          abbrev after : Held
          after = pushed_to held index q.used (place w)

          room-here : 10 * length all_slots + 10 ≤ length held.pool
          room-here = omega (arith, push-room, g.used)

          entry_here : Enters (length all_slots) (place w) held.index index
          entry_here = subst (λ n. Enters n (place w) held.index index) g.used entry

          after-here : pushed_to held index (length all_slots) (place w) ≡ after
          after-here = ap (λ n. pushed_to held index n (place w)) (sym g.used)

          after-size : SameSize held after
          after-size =
              record { index = entry.long; pool = sym (ap (λ h. length h.pool) after-here) ∙ kept-long g.kept w f room-here }

          more-slots : all_slots ++ holds w ∷ [] ≡ slots ++ whole (g.extra ++ w ∷ [])
          unfolding whole
          more-slots = append_assoc slots (whole g.extra) (holds w ∷ []) ∙ ap (λ l. slots ++ l) (sym (whole_append g.extra (w ∷ [])))

          grown-more : Grown d slots (new ++ w ∷ []) after (counted (q.used + 1) (q.charge + c) C false)
          grown-more =
              let there = append_assoc us g.extra (w ∷ []) in
              let total = ap (charge d) (sym there) ∙ more-charge ∙ ap (λ x. q.charge + x) (sym exact) in
              record {
                extra = g.extra ++ w ∷ [];
                kept = subst (λ h. Kept (slots ++ whole (g.extra ++ w ∷ [])) h) after-here
                    (subst (λ l. Kept l (pushed_to held index (length all_slots) (place w))) more-slots
                    (kept-pushed g.kept w f room-here entry_here));
                used = omega (arith, g.used, ap length more-slots, length-append all_slots (holds w ∷ []));
                room = λ _. (sym there ∙ sym one_more_lem, sym total, l);
                over = λ f. contradiction f refl;
              }

-- every pending one has a charge of at least 1
pub few-used : {d : Deck} {slots : List Slot} {new : List Update} {held : Held} {q : Queue} (g : Grown d slots new held q)
    → q.full ≡ false → q.used ≤ holes slots + q.capacity
few-used {d} {slots = slots} g f =
    let r = g.room f in
    omega (arith, g.used, used-counted slots g.extra, count-bounded d (standing slots ++ g.extra), r.1, r.2)

-- ---- the numbers of a place

held-short : {d : Deck} (row : List ℤ) → HoldsKnown d row → short (update_of row) ≡ true
unfolding updates_of places
held-short row h =
    subst (λ l. short (update_of l) ≡ true) (ap (λ k. take k row) (sym h.long) ∙ take-length row)
    (all_of-head short (update_of (take 10 row)) [] (updates-short 1 row))

-- whether a place has these numbers
abbrev pub among_places : ℕ → List ℤ → List ℤ → Bool
among_places n pool row = any_of (λ w. eq_list eq_z w row) (places n pool)

held_fits : {d : Deck} (row : List ℤ) → HoldsKnown d row → fits (holds (update_of row)) ≡ true
unfolding fits
held_fits {d} row h = and_both (held-short row h) (known_some d (update_of row) h.known)

module _ {d : Deck} {held : Held} {q : Queue} {row : List ℤ} (h : HoldsKnown d row) where
  among : {slots : List Slot} {new : List Update} (g : Grown d slots new held q)
      → among_places q.used held.pool row ≡ is_among (update_of row) (standing slots ++ g.extra)
  among {slots} g =
      ap₂ (λ n r. among_places n held.pool r) g.used (sym (written_same row h.written))
      ∙ kept-among g.kept (update_of row) (held_fits row h)
      ∙ ap (is_among (update_of row)) (standing-behind slots g.extra)

  -- nothing more is taken
  pub added_full : {m : List ℕ} → Memo d m → q.full ≡ true → Offered d (update_of row ∷ []) held q m held q
  added_full r f = record { grows = λ slots new g. grown-full g (update_of row) f; capacity = refl; memo = r; size = same_size }

  -- it is pending already
  pub added-same : {m : List ℕ} → Memo d m → among_places q.used held.pool row ≡ true → Offered d (update_of row ∷ []) held q m held q
  added-same r f =
      record { grows = λ slots new g. grown-same g (update_of row) (sym (among g) ∙ f); capacity = refl; memo = r; size = same_size }

  module _ (few : q.capacity ≤ 65535) (f : q.full ≡ false) (a : among_places q.used held.pool row ≡ false)
      {m : List ℕ} {c : ℕ} (p : PlaceGives d row m c) where
    -- its charge is too much
    pub added-over : {q' : Queue} → q.capacity < q.charge + c
        → (q'.used ≡ q.used) × (q'.charge ≡ q.charge) × (q'.capacity ≡ q.capacity) × (q'.full ≡ true)
        → Offered d (update_of row ∷ []) held q m held q'
    added-over {q'} l e =
        subst (Offered d (update_of row ∷ []) held q m held) (same_queue e)
        (record {
          grows = λ slots new g. grown-over g (update_of row) f (sym (among g) ∙ a) few p.value l;
          capacity = refl;
          memo = p.memo;
          size = same_size;
        })
      where
        same_queue : (q'.used ≡ q.used) × (q'.charge ≡ q.charge) × (q'.capacity ≡ q.capacity) × (q'.full ≡ true)
            → counted q.used q.charge q.capacity true ≡ q'
        same_queue e =
            ap (λ n. counted n q.charge q.capacity true) (sym e.0)
            ∙ ap (λ c. counted q'.used c q.capacity true) (sym e.1)
            ∙ ap (λ k. counted q'.used q'.charge k true) (sym e.2)
            ∙ ap (counted q'.used q'.charge q'.capacity) (sym e.3)

    -- it is written, and there is room for it
    module _ (l : q.charge + c ≤ q.capacity) {slots₀ : List Slot} (r : Room q.capacity (holes slots₀) held) {new : List Update}
        (g₀ : Grown d slots₀ new held q) where
      pub added-few : q.used < holes slots₀ + q.capacity
      added-few =
          omega (
            arith,
            g₀.used,
            used-counted slots₀ g₀.extra,
            one_less g₀ (update_of row) f (sym (among g₀) ∙ a) few p.value l,
          )

      pub added-room : 10 * q.used + 10 ≤ length held.pool
      added-room = omega (arith, added-few, r.places)

      -- its place can be entered where its way ends
      pub added-entering : {slot : ℕ} → Ends (heads_of held.index) held.index row 0 (bucket_of (heads_of held.index) row) slot
          → Entering q.used row slot held.index
      added-entering w =
          record {
            ks = places q.used held.pool;
            count = places-length q.used held.pool;
            indexed = subst (λ n. Indexed (places n held.pool) held.index) (sym g₀.used) (kept-indexed g₀.kept);
            ends = w;
            some = (roomy-heads r.index).0;
            room = omega (arith, added-few, r.index.links);
          }

      module _ {index : List ℕ} (e : Enters q.used row held.index index) where
        same_row : place (update_of row) ≡ row
        same_row = written_same row h.written

        enters : Enters q.used (place (update_of row)) held.index index
        enters = subst (λ x. Enters q.used x held.index index) (sym same_row) e

        pub added_more : Offered d (update_of row ∷ []) held q m (pushed_to held index q.used row)
            (counted (q.used + 1) (q.charge + c) q.capacity false)
        added_more =
            let w = update_of row in
            let there = ap (pushed_to held index q.used) same_row in
            record {
              grows = λ slots new g.
                  subst (λ x. Grown d slots (new ++ w ∷ []) x (counted (q.used + 1) (q.charge + c) q.capacity false)) there
                  (grown-more g w f (sym (among g) ∙ a) few p.value l added-room (held_fits row h) enters);
              capacity = refl;
              memo = p.memo;
              size = subst (SameSize held) there
                  (after-size g₀ w f (sym (among g₀) ∙ a) few p.value l added-room (held_fits row h) enters);
            }
