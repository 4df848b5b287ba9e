-- Moving the places together in one pass: what is moved so far, the next place, and the end. Assumes nothing.
use Rattle.std.specs.Prelude.{ℕ, suc, ◌+◌, ◌*◌, ◌-◌, ◌≤◌, ◌<◌, ◌≡◌, refl, true, get_or, ℤ, pos}
use Rattle.std.proofs.Math.Path.{sym, ap, ap₂}
use Rattle.std.proofs.Common.{subst, ◌∙◌, ⊎_elim, add-one, take-append-drop, length-drop, take_at, take-suc, get_or-drop}
use mathlib.Core.List.{List, [], ◌∷◌, ◌++◌, append-nil, append_assoc, flat_map}
use native.Mathlib.Omega.{arith}
use Rattle.std.proofs.Math.ListN.{length, take, drop, length-append, length-take, get_or-append}
use Rattle.std.proofs.Math.Seq.{drop_at, take-length, drop-drop, take-paste, length-paste}
use Rattle.std.proofs.lemmas.List.Edits.{drop-paste}
use Rattle.lists.specs.Lists.{lists, all_of}
use Rattle.lists.specs.Laws.Alls.{all_of-head, all_of-tail, all_of-drop, all_of-at}
use Rattle.lists.specs.Laws.Booleans.{and_both}
use Rattle.pool.specs.Updates.{Update}
use Rattle.pool.specs.Places.{zeros, place, pool_of}
use Rattle.pool.specs.Moves.{moved, Laid}
use Rattle.pool.proofs.Laws.Laid.{zeros-length, zeros-append, is-laid}
use Rattle.pool.specs.Fine.{short}
use Rattle.pool_holes.specs.Slots.{Slot, hole, holds, row, rows, standing, before, fits, slotted}
use Rattle.pool_holes.specs.Slots.{Spread, GathersPlace, Edges, Scattered, Gathers}
use Rattle.pool_holes.proofs.Laws.Standing.{standing-append, places-counted}
use Rattle.pool_holes.proofs.Laws.Spread.{fits-short, row-length, rows-length, take-rows, drop-rows, drop-row, hole-count, holds-count}

-- ---- what stands there has room

pub standing-short : (slots : List Slot) → all_of fits slots ≡ true → all_of short (standing slots) ≡ true
unfolding slotted lists
standing-short [] h = refl
standing-short (hole ∷ l) h = standing-short l h
standing-short (holds u ∷ l) h =
    and_both (fits-short u (all_of-head fits (holds u) l h)) (standing-short l (all_of-tail fits (holds u) l h))

-- the numbers of places without holes are those of their updates
pub rows-standing : (slots : List Slot) → length (standing slots) ≡ length slots → rows slots ≡ flat_map place (standing slots)
unfolding slotted lists
rows-standing [] h = refl
rows-standing (hole ∷ l) h = absurd (omega (arith, places-counted l))
rows-standing (holds u ∷ l) h = ap (λ a. place u ++ a) (rows-standing l (omega arith))

numbers-append : (us ws : List Update) → flat_map place (us ++ ws) ≡ flat_map place us ++ flat_map place ws
unfolding lists
numbers-append [] ws = refl
numbers-append (u ∷ us) ws =
    ap (λ l. place u ++ l) (numbers-append us ws) ∙ sym (append_assoc (place u) (flat_map place us) (flat_map place ws))

numbers_more : (us : List Update) (u : Update) → flat_map place (us ++ u ∷ []) ≡ flat_map place us ++ place u
unfolding lists
numbers_more us u = numbers-append us (u ∷ []) ∙ ap (λ l. flat_map place us ++ l) (append-nil (place u))

-- a pool with these numbers
-- a pool without holes holds its updates as the calls see them
pub spread-laid : {pool : List ℤ} {slots : List Slot} → Spread pool slots → length (standing slots) ≡ length slots
    → Laid pool (standing slots)
unfolding pool_of
spread-laid {pool} {slots} w e =
    is-laid (length pool) (standing slots) (standing-short slots w.fits) (omega (arith, e, w.room)) pool
    (w.is ∙ ap₂ (λ a n. a ++ zeros (length pool - 10 * n)) (rows-standing slots e) (sym e))

-- the next place
module _ (slots : List Slot) (n : ℕ) (l : n < length slots) where
  next : take (n + 1) slots ≡ take n slots ++ get_or slots n hole ∷ []
  next = ap (λ k. take k slots) (add-one n) ∙ take-suc slots n hole l

  pub next-hole : get_or slots n hole ≡ hole → standing (take (n + 1) slots) ≡ standing (take n slots)
  unfolding standing
  next-hole e =
      ap standing (next ∙ ap (λ s. take n slots ++ s ∷ []) e)
      ∙ standing-append (take n slots) (hole ∷ [])
      ∙ append-nil (standing (take n slots))

  pub next-holds : (u : Update) → get_or slots n hole ≡ holds u → standing (take (n + 1) slots) ≡ standing (take n slots) ++ u ∷ []
  unfolding standing
  next-holds u e =
      ap standing (next ∙ ap (λ s. take n slots ++ s ∷ []) e) ∙ standing-append (take n slots) (holds u ∷ [])

before-low : (n : ℕ) (slots : List Slot) → before n slots ≤ n
unfolding before
before-low n slots = omega (arith, places-counted (take n slots), length-take n slots)

-- ---- the pass

-- the places before `from` are looked at, and the updates that stood there are in the first `to` places
pub record Gathering (pool₀ : List ℤ) (slots : List Slot) (pool : List ℤ) (from to : ℕ) : Type 0 where
  pub low : from ≤ length slots
  pub count : to ≡ before from slots
  pub long : length pool ≡ length pool₀
  pub front : take (10 * to) pool ≡ flat_map place (standing (take from slots))
  pub rest : drop (10 * from) pool ≡ drop (10 * from) pool₀

module _ {pool₀ : List ℤ} {slots : List Slot} (w : Spread pool₀ slots) where
  abbrev z : List ℤ
  z = zeros (length pool₀ - 10 * length slots)

  pub gathering-starts : (first : ℕ) → first ≤ length slots → before first slots ≡ first → Gathering pool₀ slots pool₀ first first
  unfolding before
  gathering-starts first l e =
      record {
        low = l;
        count = sym e;
        long = refl;
        front = ap (take (10 * first)) w.is
            ∙ take-rows slots w.fits z first l
            ∙ rows-standing (take first slots) (omega (arith, e, length-take first slots));
        rest = refl;
      }

  module _ {pool : List ℤ} {from to : ℕ} (g : Gathering pool₀ slots pool from to) where
    pub gathering-low : to ≤ from
    gathering-low = omega (arith, g.count, before-low from slots)

    module _ (l : from < length slots) where
      abbrev s : Slot
      s = get_or slots from hole

      fits-here : fits s ≡ true
      fits-here = all_of-at fits slots from hole w.fits l

      here : drop (10 * from) pool ≡ row s ++ (rows (drop (suc from) slots) ++ z)
      here = g.rest ∙ ap (drop (10 * from)) w.is ∙ drop-row slots w.fits z from l

      -- its second number, as the code reads it
      count-here : get_or pool (10 * from + 1) (pos 0) ≡ get_or (row s) 1 (pos 0)
      count-here =
          sym (get_or-drop (10 * from) pool 1 (pos 0))
          ∙ ap (λ q. get_or q 1 (pos 0)) here
          ∙ get_or-append (row s) (rows (drop (suc from) slots) ++ z) (pos 0) 1 (omega (arith, row-length s fits-here))

      rest-next : drop (10 * (from + 1)) pool ≡ drop (10 * (from + 1)) pool₀
      rest-next =
          let e : 10 * from + 10 ≡ 10 * (from + 1) = omega arith in
          ap (λ k. drop k pool) (sym e)
          ∙ sym (drop-drop 10 (10 * from) pool)
          ∙ ap (drop 10) g.rest
          ∙ drop-drop 10 (10 * from) pool₀
          ∙ ap (λ k. drop k pool₀) e

      is-hole : get_or pool (10 * from + 1) (pos 0) ≡ pos 0 → get_or slots from hole ≡ hole
      is-hole e = go (get_or slots from hole) fits-here (sym count-here ∙ e)
        where
          go : (s : Slot) → fits s ≡ true → get_or (row s) 1 (pos 0) ≡ pos 0 → s ≡ hole
          go hole f e = refl
          go (holds u) f e = absurd (holds-count u f e)

      -- a hole is passed
      pub gathering-hole : get_or pool (10 * from + 1) (pos 0) ≡ pos 0 → Gathering pool₀ slots pool (from + 1) to
      unfolding before
      gathering-hole e =
          let same = next-hole slots from l (is-hole e) in
          record {
            low = omega arith;
            count = g.count ∙ ap length (sym same);
            long = g.long;
            front = g.front ∙ ap (flat_map place) (sym same);
            rest = rest-next;
          }

      abbrev after : List ℤ
      after = moved pool (10 * to) (10 * (from - to)) 10

      there : 10 * to + 10 * (from - to) ≡ 10 * from
      there = omega (arith, gathering-low)

      pub gathering-room : 10 * to + 10 * (from - to) + 10 ≤ length pool
      gathering-room = omega (arith, there, g.long, w.room)

      behind : 10 ≤ length (drop (10 * to + 10 * (from - to)) pool)
      behind = omega (arith, length-drop (10 * to + 10 * (from - to)) pool, gathering-room)

      -- an update is moved to the first free place
      module _ (u : Update) (e : get_or slots from hole ≡ holds u) where
        holds_row : row s ≡ place u
        unfolding row
        holds_row = ap row e

        front-next : take (10 * (to + 1)) after ≡ flat_map place (standing (take (from + 1) slots))
        front-next =
            let k : 10 * to + 10 ≡ 10 * (to + 1) = omega arith in
            let f : length (row s) ≡ 10 = row-length s fits-here in
            ap (λ n. take n after) (sym k)
            ∙ take-paste pool (10 * to) (drop (10 * to + 10 * (from - to)) pool) 10 (omega (arith, gathering-room)) behind
            ∙ ap₂ (λ a b. a ++ b) g.front
            (ap (λ n. take 10 (drop n pool)) there
            ∙ ap (take 10) here
            ∙ take_at (row s) (rows (drop (suc from) slots) ++ z) 10 f
            ∙ holds_row)
            ∙ sym (numbers_more (standing (take from slots)) u)
            ∙ ap (flat_map place) (sym (next-holds slots from l u e))

        rest-moved : drop (10 * (from + 1)) after ≡ drop (10 * (from + 1)) pool₀
        rest-moved =
            let k : 10 * to + 10 + 10 * (from - to) ≡ 10 * (from + 1) = omega (arith, there) in
            ap (λ n. drop n after) (sym k)
            ∙ sym (drop-drop (10 * (from - to)) (10 * to + 10) after)
            ∙ ap (drop (10 * (from - to)))
            (drop-paste pool (10 * to) (drop (10 * to + 10 * (from - to)) pool) 10 (omega (arith, gathering-room)) behind)
            ∙ drop-drop (10 * (from - to)) (10 * to + 10) pool
            ∙ ap (λ n. drop n pool) k
            ∙ rest-next

        gathering-holds : Gathering pool₀ slots after (from + 1) (to + 1)
        unfolding before
        gathering-holds =
            record {
              low = omega arith;
              count = omega (arith, g.count, ap length (next-holds slots from l u e), length-append (standing (take from slots)) (u ∷ []));
              long = length-paste pool (10 * to) (drop (10 * to + 10 * (from - to)) pool) 10 (omega (arith, gathering-room)) behind
                  ∙ g.long;
              front = front-next;
              rest = rest-moved;
            }

      pub gathering-moved : (get_or pool (10 * from + 1) (pos 0) ≡ pos 0 → ⊥)
          → Gathering pool₀ slots (moved pool (10 * to) (10 * (from - to)) 10) (from + 1) (to + 1)
      gathering-moved n = go (get_or slots from hole) refl
        where
          go : (s : Slot) → get_or slots from hole ≡ s
              → Gathering pool₀ slots (moved pool (10 * to) (10 * (from - to)) 10) (from + 1) (to + 1)
          go hole e = absurd (n (count-here ∙ ap (λ s. get_or (row s) 1 (pos 0)) e ∙ hole-count))
          go (holds u) e = gathering-holds u e

    -- the places behind have no hole among them, and are moved as one block
    module _ (back : length (standing (drop from slots)) ≡ length slots - from) where
      abbrev n : ℕ
      n = length slots - from

      abbrev D : ℕ
      D = 10 * (from - to)

      abbrev all_moved : List ℤ
      all_moved = moved pool (10 * to) D (10 * n)

      at_from : 10 * to + D ≡ 10 * from
      at_from = omega (arith, gathering-low)

      pub rest-room : 10 * to + D + 10 * n ≤ length pool
      rest-room = omega (arith, at_from, g.long, g.low, w.room)

      rest-long : 10 * n ≤ length (drop (10 * to + D) pool)
      rest-long = omega (arith, length-drop (10 * to + D) pool, rest-room)

      behind-is : drop (10 * from) pool ≡ rows (drop from slots) ++ z
      behind-is = g.rest ∙ ap (drop (10 * from)) w.is ∙ drop-rows slots w.fits z from g.low

      block-is : take (10 * n) (drop (10 * to + D) pool) ≡ flat_map place (standing (drop from slots))
      block-is =
          ap (λ k. take (10 * n) (drop k pool)) at_from
          ∙ ap (take (10 * n)) behind-is
          ∙ take_at (rows (drop from slots)) z (10 * n)
          (omega (arith, rows-length (drop from slots) (all_of-drop fits from slots w.fits), length-drop from slots))
          ∙ rows-standing (drop from slots) (omega (arith, back, length-drop from slots))

      whole-standing-is : standing (take (length slots) slots) ≡ standing (take from slots) ++ standing (drop from slots)
      whole-standing-is =
          ap standing (take-length slots ∙ sym (take-append-drop from slots)) ∙ standing-append (take from slots) (drop from slots)

      pub gathering-rest : Gathering pool₀ slots (moved pool (10 * to) (10 * (from - to)) (10 * (length slots - from))) (length slots)
          (to + (length slots - from))
      unfolding before
      gathering-rest =
          let k : 10 * to + 10 * n ≡ 10 * (to + n) = omega arith in
          let j : 10 * to + 10 * n + D ≡ 10 * from + 10 * n = omega (arith, at_from) in
          let e : 10 * from + 10 * n ≡ 10 * length slots = omega (arith, g.low) in
          let a = standing (take from slots) in
          let b = standing (drop from slots) in
          record {
            low = omega arith;
            count = omega (arith, g.count, ap length whole-standing-is, length-append a b, back);
            long = length-paste pool (10 * to) (drop (10 * to + D) pool) (10 * n) (omega (arith, rest-room)) rest-long ∙ g.long;
            front =
                ap (λ m. take m all_moved) (sym k)
                ∙ take-paste pool (10 * to) (drop (10 * to + D) pool) (10 * n) (omega (arith, rest-room)) rest-long
                ∙ ap₂ (λ a b. a ++ b) g.front block-is
                ∙ sym (numbers-append a b)
                ∙ ap (flat_map place) (sym whole-standing-is);
            rest =
                ap (λ m. drop m all_moved) (sym (j ∙ e))
                ∙ sym (drop-drop D (10 * to + 10 * n) all_moved)
                ∙ ap (drop D) (drop-paste pool (10 * to) (drop (10 * to + D) pool) (10 * n) (omega (arith, rest-room)) rest-long)
                ∙ drop-drop D (10 * to + 10 * n) pool
                ∙ ap (λ m. drop m pool) j
                ∙ sym (drop-drop (10 * n) (10 * from) pool)
                ∙ ap (drop (10 * n)) g.rest
                ∙ drop-drop (10 * n) (10 * from) pool₀
                ∙ ap (λ m. drop m pool₀) e;
          }

    -- all are moved, and zeros follow
    pub gathering-ends : from ≡ length slots
        → Laid (take (10 * to) pool ++ (zeros (10 * from - 10 * to) ++ drop (10 * from) pool)) (standing slots)
        × (to ≡ length (standing slots))
    unfolding before pool_of
    gathering-ends e =
        let all-of : take from slots ≡ slots = ap (λ n. take n slots) e ∙ take-length slots in
        let n : to ≡ length (standing slots) = g.count ∙ ap (λ l. length (standing l)) all-of in
        let sh = standing-short slots w.fits in
        let room : 10 * length (standing slots) ≤ length pool₀ = omega (arith, places-counted slots, w.room) in
        let left : 10 * from - 10 * to + (length pool₀ - 10 * length slots) ≡ length pool₀ - 10 * length (standing slots)
        = omega (arith, e, n, gathering-low, w.room) in
        let rest-is : drop (10 * from) pool ≡ z
        = g.rest ∙ ap (λ k. drop (10 * k) pool₀) e ∙ ap (drop (10 * length slots)) w.is
        ∙ drop_at (rows slots) z (10 * length slots) (rows-length slots w.fits) in
        let is : take (10 * to) pool ++ (zeros (10 * from - 10 * to) ++ drop (10 * from) pool) ≡ pool_of (length pool₀) (standing slots)
        = ap₂ (λ a b. a ++ (zeros (10 * from - 10 * to) ++ b)) (g.front ∙ ap (λ l. flat_map place (standing l)) all-of) rest-is
        ∙ ap (λ b. flat_map place (standing slots) ++ b)
        (zeros-append (10 * from - 10 * to) (length pool₀ - 10 * length slots) ∙ ap zeros left) in
        (is-laid (length pool₀) (standing slots) sh room _ is, n)

-- ---- as the code goes on

-- the same for all lists of places that the pool may stand for
pub record Passing (pool₀ : List ℤ) (first last used : ℕ) (pool : List ℤ) (from to : ℕ) : Type 0 where
  pub scattered : Scattered pool₀ first last used
  pub within : from ≤ last
  pub each : (slots : List Slot) → Spread pool₀ slots → used ≡ length slots → Edges slots first last → Gathering pool₀ slots pool from to

pub passing-starts : {pool : List ℤ} {first last used : ℕ} → Scattered pool first last used → Passing pool first last used pool first first
passing-starts {first = first} s =
    record { scattered = s; within = s.low; each = λ slots w n e. gathering-starts w first (omega (arith, s.low, s.high, n)) e.front }

module _ {pool₀ : List ℤ} {first last used : ℕ} {pool : List ℤ} {from to : ℕ} (w : Passing pool₀ first last used pool from to) where
  one : Gathering pool₀ w.scattered.slots pool from to
  one = let s = w.scattered in w.each s.slots s.spread s.count s.edges

  pub passing-low : (to ≤ from) × (last ≤ used) × (10 * used ≤ length pool) × (length pool ≡ length pool₀)
  passing-low =
      let s = w.scattered in (
        gathering-low s.spread one,
        s.high,
        omega (arith, s.count, s.spread.room, one.long),
        one.long,
      )

  pub passing-next : {pool₁ : List ℤ} {r : ℕ} → from < last → GathersPlace pool from to pool₁ r
      → Passing pool₀ first last used pool₁ (from + 1) r
  passing-next {pool₁} {r} l p =
      record {
        scattered = w.scattered;
        within = omega (arith, l);
        each = λ slots v n e.
            let g = w.each slots v n e in
            let m : from < length slots = omega (arith, l, n, w.scattered.high) in
            ⊎_elim
            (λ h. subst (Gathering pool₀ slots pool₁ (from + 1)) (sym h.2)
            (subst (λ q. Gathering pool₀ slots q (from + 1) to) (sym h.1) (gathering-hole v g m h.0)))
            (λ h. subst (Gathering pool₀ slots pool₁ (from + 1)) (sym h.2)
            (subst (λ q. Gathering pool₀ slots q (from + 1) (to + 1)) (sym h.1) (gathering-moved v g m h.0)))
            p;
      }

  -- the rest is moved, and the stale numbers behind are lent and come back as zeros
  module _ (stop : last ≤ from) where
    same : from ≡ last
    same = omega (arith, w.within, stop)

    pub passing-room : 10 * to + 10 * (last - to) + 10 * (used - last) ≤ length pool
    passing-room = omega (arith, passing-low.0, passing-low.1, passing-low.2, same)

    module _ {pool₁ : List ℤ} (e : pool₁ ≡ moved pool (10 * to) (10 * (last - to)) (10 * (used - last))) where
      each-moved : (slots : List Slot) → Spread pool₀ slots → used ≡ length slots → Edges slots first last
          → Gathering pool₀ slots pool₁ (length slots) (to + (used - last))
      each-moved slots v n f =
          subst (λ q. Gathering pool₀ slots q (length slots) (to + (used - last))) (sym e)
          (subst (λ k. Gathering pool₀ slots (moved pool (10 * to) (10 * (last - to)) (10 * (k - last))) (length slots) (to + (k - last)))
          (sym n)
          (subst (λ k. Gathering pool₀ slots (moved pool (10 * to) (10 * (k - to)) (10 * (length slots - k)))
          (length slots) (to + (length slots - k))) same
          (gathering-rest v (w.each slots v n f)
          (ap (λ k. length (standing (drop k slots))) same ∙ f.back ∙ ap (λ k. length slots - k) (sym same)))))

      abbrev left : ℕ
      left = to + (used - last)

      moved-one : Gathering pool₀ w.scattered.slots pool₁ (length w.scattered.slots) left
      moved-one = let s = w.scattered in each-moved s.slots s.spread s.count s.edges

      pub moved-low : (left ≤ used) × (10 * used ≤ length pool₁) × (length pool₁ ≡ length pool₀)
      moved-low =
          let s = w.scattered in (
            omega (arith, gathering-low s.spread moved-one, s.count),
            omega (arith, s.count, s.spread.room, moved-one.long),
            moved-one.long,
          )

      module _ (z : List ℤ) (f : z ≡ zeros (length (take (10 * used - 10 * left) (drop (10 * left) pool₁)))) where
        abbrev done : List ℤ
        done = take (10 * left) pool₁ ++ (z ++ drop (10 * used - 10 * left) (drop (10 * left) pool₁))

        done-is : (k : ℕ) → used ≡ k → done ≡ take (10 * left) pool₁ ++ (zeros (10 * k - 10 * left) ++ drop (10 * k) pool₁)
        done-is k n =
            let low = moved-low in
            let size : length (take (10 * used - 10 * left) (drop (10 * left) pool₁)) ≡ 10 * k - 10 * left
            = omega (
              arith,
              length-take (10 * used - 10 * left) (drop (10 * left) pool₁),
              length-drop (10 * left) pool₁,
              low.0,
              low.1,
              n,
            ) in
            let there : 10 * left + (10 * used - 10 * left) ≡ 10 * k = omega (arith, low.0, n) in
            ap₂ (λ a b. take (10 * left) pool₁ ++ (a ++ b)) (f ∙ ap zeros size)
            (drop-drop (10 * used - 10 * left) (10 * left) pool₁ ∙ ap (λ k. drop k pool₁) there)

        pub passing-ends : Gathers pool₀ first last used
            (take (10 * (to + (used - last))) pool₁
            ++ (z ++ drop (10 * used - 10 * (to + (used - last))) (drop (10 * (to + (used - last))) pool₁)))
            (to + (used - last))
        passing-ends =
            record {
              result = λ slots v n e.
                  let r = gathering-ends v (each-moved slots v n e) refl in
                  (subst (λ q. Laid q (standing slots)) (sym (done-is (length slots) n)) r.0, r.1);
              long = long;
            }
          where
            long : length done ≡ length pool₀
            long =
                let low = moved-low in
                ap length (done-is used refl)
                ∙ omega (
                  arith,
                  length-append (take (10 * left) pool₁) (zeros (10 * used - 10 * left) ++ drop (10 * used) pool₁),
                  length-append (zeros (10 * used - 10 * left)) (drop (10 * used) pool₁),
                  zeros-length (10 * used - 10 * left),
                  length-take (10 * left) pool₁,
                  length-drop (10 * used) pool₁,
                  low.0,
                  low.1,
                  low.2,
                )
