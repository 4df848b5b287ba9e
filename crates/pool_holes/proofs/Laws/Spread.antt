-- The numbers of a pool with holes: what writing a place makes of them, what is read there, and the pool when the places are moved
-- together. Assumes nothing.
use Prim.Native.Nat.{ℕ, suc, ◌+◌, ◌*◌, ◌-◌, ◌≤◌, ◌<◌}
use Rattle.std.specs.Prelude.{◌≡◌, Bool, true, false, not, ◌||◌, get_or, take, set, pos, nat_abs}
use Rattle.std.proofs.Math.Path.{refl, sym, ap, ap₂}
use Rattle.std.proofs.Common.{◌∙◌, take-append-drop, length-append, length-take, length-set, take_at, drop_at, drop-drop, drop-cons}
use mathlib.Core.List.{List, [], ◌∷◌, ◌++◌, map, append-nil, append_assoc, flat_map}
use native.Mathlib.Omega.{arith}
use Rattle.std.proofs.Math.ListN.{length, drop}
use Rattle.std.proofs.lemmas.List.{set_split}
use Rattle.std.proofs.Math.IntN.{ℤ}
use Rattle.lists.specs.Lists.{lists, all_of, any_of, is_empty, eq_z, eq_list}
use Rattle.lists.specs.Laws.Booleans.{and_both, and_left, and_right, not-true→false, contradiction}
use Rattle.lists.specs.Laws.Equalities.{eq_z-true, eq_list-true}
use Rattle.lists.specs.Laws.Alls.{all_of-head, all_of-tail, all_of-cons, all_of-none, all_of-append, all_of-take, all_of-drop, all_of-at}
use Rattle.pool.specs.Updates.{Pair, Update, is_among}
use Rattle.pool.specs.Places.{zeros, place, pool_of, places, pools}
use Rattle.pool.specs.Moves.{written, Laid}
use Rattle.pool.proofs.Laws.Laid.{zeros-length, zeros-append}
use Rattle.pool.proofs.Laws.Places.{update-back, place-length, place-well, map_back}
use Rattle.pool.specs.Fine.{short}
use Rattle.pool.proofs.Laws.Good.{all-well}
use Rattle.pool.proofs.Laws.Equal.{numbers-among}
use Rattle.pool_holes.specs.Slots.{Slot, hole, holds, row, rows, standing, whole, fits, Spread, slotted}
use Rattle.pool_holes.proofs.Laws.Standing.{whole_length}

-- ---- the numbers of used places, cut at one of them

pub fits-short : (u : Update) → fits (holds u) ≡ true → short u ≡ true
unfolding fits
fits-short u h = and_left (short u) _ h

pub row-length : (s : Slot) → fits s ≡ true → length (row s) ≡ 10
unfolding row
row-length hole h = zeros-length 10
row-length (holds u) h = place-length u (fits-short u h)

rows_append : (a b : List Slot) → rows (a ++ b) ≡ rows a ++ rows b
unfolding rows lists
rows_append [] b = refl
rows_append (s ∷ a) b = ap (λ l. row s ++ l) (rows_append a b) ∙ sym (append_assoc (row s) (rows a) (rows b))

pub rows-length : (slots : List Slot) → all_of fits slots ≡ true → length (rows slots) ≡ 10 * length slots
unfolding rows lists
rows-length [] h = refl
rows-length (s ∷ l) h =
    omega (arith, length-append (row s) (rows l), row-length s (all_of-head fits s l h), rows-length l (all_of-tail fits s l h))

module _ (slots : List Slot) (h : all_of fits slots ≡ true) (z : List ℤ) where
  module _ (p : ℕ) (l : p ≤ length slots) where
    cut : rows slots ++ z ≡ rows (take p slots) ++ (rows (drop p slots) ++ z)
    cut =
        ap (λ s. rows s ++ z) (sym (take-append-drop p slots))
        ∙ ap (λ s. s ++ z) (rows_append (take p slots) (drop p slots))
        ∙ append_assoc (rows (take p slots)) (rows (drop p slots)) z

    front_length : length (rows (take p slots)) ≡ 10 * p
    front_length = omega (arith, rows-length (take p slots) (all_of-take fits p slots h), length-take p slots)

    pub take-rows : take (10 * p) (rows slots ++ z) ≡ rows (take p slots)
    take-rows = ap (take (10 * p)) cut ∙ take_at (rows (take p slots)) (rows (drop p slots) ++ z) (10 * p) front_length

    pub drop-rows : drop (10 * p) (rows slots ++ z) ≡ rows (drop p slots) ++ z
    drop-rows = ap (drop (10 * p)) cut ∙ drop_at (rows (take p slots)) (rows (drop p slots) ++ z) (10 * p) front_length

  -- from place p on: its numbers, and the places behind
  pub drop-row : (p : ℕ) → p < length slots → drop (10 * p) (rows slots ++ z) ≡ row (get_or slots p hole) ++ (rows (drop (suc p) slots) ++ z)
  unfolding rows lists
  drop-row p l =
      drop-rows p (omega arith)
      ∙ ap (λ s. rows s ++ z) (drop-cons slots p hole l)
      ∙ append_assoc (row (get_or slots p hole)) (rows (drop (suc p) slots)) z

  -- a place written anew
  row_written : (p : ℕ) (s : Slot) → p < length slots → written (rows slots ++ z) (10 * p) (row s) ≡ rows (set slots p s) ++ z
  unfolding rows lists
  row_written p s l =
      let e : 10 * p + 10 ≡ 10 * suc p = omega arith in
      ap₂ (λ a b. a ++ (row s ++ b)) (take-rows p (omega arith)) (ap (λ i. drop i (rows slots ++ z)) e ∙ drop-rows (suc p) l)
      ∙ ap (λ b. rows (take p slots) ++ b) (sym (append_assoc (row s) (rows (drop (suc p) slots)) z))
      ∙ sym (append_assoc (rows (take p slots)) (row s ++ rows (drop (suc p) slots)) z)
      ∙ ap (λ a. a ++ z) (sym (rows_append (take p slots) (s ∷ drop (suc p) slots)) ∙ ap rows (sym (set_split slots p s l)))

-- ---- the laws

module _ (n : ℕ) (slots : List Slot) (h : all_of fits slots ≡ true) (r : 10 * length slots ≤ n) (pool : List ℤ)
    (e : pool ≡ rows slots ++ zeros (n - 10 * length slots)) where
  same_length : length pool ≡ n
  same_length =
      let z = zeros (n - 10 * length slots) in
      ap length e ∙ omega (arith, length-append (rows slots) z, rows-length slots h, zeros-length (n - 10 * length slots))

  is-spread : Spread pool slots
  is-spread =
      record {
        is = e ∙ ap (λ k. rows slots ++ zeros (k - 10 * length slots)) (sym same_length);
        fits = h;
        room = omega (arith, same_length, r);
      }

module _ {pool : List ℤ} {slots : List Slot} (w : Spread pool slots) where
  abbrev z : List ℤ
  z = zeros (length pool - 10 * length slots)

  -- what is read at a place
  pub spread_at : (p : ℕ) → p < length slots → take 10 (drop (10 * p) pool) ≡ row (get_or slots p hole)
  spread_at p l =
      let s = get_or slots p hole in
      ap (λ q. take 10 (drop (10 * p) q)) w.is
      ∙ ap (take 10) (drop-row slots w.fits z p l)
      ∙ take_at (row s) (rows (drop (suc p) slots) ++ z) 10 (row-length s (all_of-at fits slots p hole w.fits l))

  -- place p is taken out
  module _ (p : ℕ) (l : p < length slots) where
    all_set : all_of fits (set slots p hole) ≡ true
    unfolding fits
    all_set =
        ap (all_of fits) (set_split slots p hole l)
        ∙ all_of-append fits (take p slots) (hole ∷ drop (suc p) slots) (all_of-take fits p slots w.fits)
        (all_of-cons fits hole (drop (suc p) slots) refl (all_of-drop fits (suc p) slots w.fits))

    emptied : written pool (10 * p) (zeros 10) ≡ rows (set slots p hole) ++ zeros (length pool - 10 * length (set slots p hole))
    unfolding row
    emptied =
        ap (λ q. written q (10 * p) (zeros 10)) w.is
        ∙ row_written slots w.fits z p hole l
        ∙ ap (λ k. rows (set slots p hole) ++ zeros (length pool - 10 * k)) (sym (length-set slots p hole))

    emptied-room : 10 * length (set slots p hole) ≤ length pool
    emptied-room = omega (arith, w.room, length-set slots p hole)

    pub spread-emptied : Spread (written pool (10 * p) (zeros 10)) (set slots p hole)
    spread-emptied = is-spread (length pool) (set slots p hole) all_set emptied-room (written pool (10 * p) (zeros 10)) emptied

    pub emptied-length : length (written pool (10 * p) (zeros 10)) ≡ length pool
    emptied-length = same_length (length pool) (set slots p hole) all_set emptied-room (written pool (10 * p) (zeros 10)) emptied

  -- an update is written behind
  module _ (u : Update) (f : fits (holds u) ≡ true) (r : 10 * length slots + 10 ≤ length pool) where
    abbrev after : List Slot
    after = slots ++ holds u ∷ []

    more : length after ≡ length slots + 1
    more = length-append slots (holds u ∷ [])

    all_more : all_of fits after ≡ true
    all_more = all_of-append fits slots (holds u ∷ []) w.fits (all_of-cons fits (holds u) [] f (all_of-none fits))

    pushed : written pool (10 * length slots) (place u) ≡ rows after ++ zeros (length pool - 10 * length after)
    unfolding rows row lists
    pushed =
        ap (λ q. written q (10 * length slots) (place u)) w.is
        ∙ ap₂ (λ a b. a ++ (place u ++ b)) front behind
        ∙ sym (append_assoc (rows slots) (place u) rest)
        ∙ ap (λ a. a ++ rest) (sym together)
        ∙ ap (λ k. rows after ++ zeros k) (omega (arith, more))
      where
        rest : List ℤ
        rest = zeros (length pool - 10 * length slots - 10)

        front : take (10 * length slots) (rows slots ++ z) ≡ rows slots
        front = take_at (rows slots) z (10 * length slots) (rows-length slots w.fits)

        ten-less : z ≡ zeros 10 ++ rest
        ten-less = ap zeros (omega (arith, r)) ∙ sym (zeros-append 10 (length pool - 10 * length slots - 10))

        behind : drop (10 * length slots + 10) (rows slots ++ z) ≡ rest
        behind =
            sym (drop-drop 10 (10 * length slots) (rows slots ++ z))
            ∙ ap (drop 10) (drop_at (rows slots) z (10 * length slots) (rows-length slots w.fits) ∙ ten-less)
            ∙ drop_at (zeros 10) rest 10 (zeros-length 10)

        together : rows after ≡ rows slots ++ place u
        together = rows_append slots (holds u ∷ []) ∙ ap (λ x. rows slots ++ x) (append-nil (place u))

    pushed_room : 10 * length after ≤ length pool
    pushed_room = omega (arith, r, more)

    pub spread-pushed : Spread (written pool (10 * length slots) (place u)) (slots ++ holds u ∷ [])
    spread-pushed = is-spread (length pool) after all_more pushed_room (written pool (10 * length slots) (place u)) pushed

    pub pushed-length : length (written pool (10 * length slots) (place u)) ≡ length pool
    pushed-length = same_length (length pool) after all_more pushed_room (written pool (10 * length slots) (place u)) pushed

-- ---- places without holes

rows_whole : (us : List Update) → rows (whole us) ≡ flat_map place us
unfolding slotted lists
rows_whole [] = refl
rows_whole (u ∷ us) = ap (λ l. place u ++ l) (rows_whole us)

all_whole : (us : List Update) → all_of short us ≡ true → all_of (λ u. not (is_empty u.pairs)) us ≡ true → all_of fits (whole us) ≡ true
unfolding slotted lists
all_whole [] s o = refl
all_whole (u ∷ us) s o =
    let some : Update → Bool = λ u. not (is_empty u.pairs) in
    and_both (and_both (all_of-head short u us s) (all_of-head some u us o)) (all_whole us (all_of-tail short u us s) (all_of-tail some u us o))

pub spread-whole : {pool : List ℤ} {us : List Update} → Laid pool us → all_of (λ u. not (is_empty u.pairs)) us ≡ true
    → Spread pool (whole us)
unfolding pool_of
spread-whole {pool} {us} h o =
    record {
      is = h.is ∙ ap₂ (λ a n. a ++ zeros (length pool - 10 * n)) (sym (rows_whole us)) (sym (whole_length us));
      fits = all_whole us h.short o;
      room = omega (arith, h.room, whole_length us);
    }

-- ---- a place is a hole exactly if its second number is 0

pub hole-count : get_or (row hole) 1 (pos 0) ≡ pos 0
unfolding row zeros
hole-count = refl

pairs-count : (p : ℕ) (l : List Pair) → not (is_empty l) ≡ true → get_or (place (record { part = p; pairs = l })) 1 (pos 0) ≡ pos 0 → ⊥
unfolding lists pools
pairs-count p [] h e = contradiction h refl
pairs-count p (a ∷ l) h e = omega (arith, ap nat_abs e)

pub holds-count : (u : Update) → fits (holds u) ≡ true → get_or (row (holds u)) 1 (pos 0) ≡ pos 0 → ⊥
unfolding row fits
holds-count u h e = pairs-count u.part u.pairs (and_right (short u) (not (is_empty u.pairs)) h) e

-- ---- equal updates

pub places-rows : (slots : List Slot) (z : List ℤ) → all_of fits slots ≡ true → places (length slots) (rows slots ++ z) ≡ map row slots
unfolding rows lists places
places-rows [] z h = refl
places-rows (s ∷ l) z h =
    let n = row-length s (all_of-head fits s l h) in
    let e = append_assoc (row s) (rows l) z in
    ap₂ (λ a b. a ∷ b)
    (ap (take 10) e ∙ take_at (row s) (rows l ++ z) 10 n)
    (ap (λ q. places (length l) (drop 10 q)) e
    ∙ ap (places (length l)) (drop_at (row s) (rows l ++ z) 10 n)
    ∙ places-rows l z (all_of-tail fits s l h))

-- a test that zeros do not pass
any-standing : (f : List ℤ → Bool) → f (zeros 10) ≡ false → (slots : List Slot)
    → any_of f (map row slots) ≡ any_of f (map place (standing slots))
unfolding slotted lists
any-standing f e [] = refl
any-standing f e (hole ∷ l) = ap (λ b. b || any_of f (map row l)) e ∙ any-standing f e l
any-standing f e (holds u ∷ l) = ap (λ b. f (place u) || b) (any-standing f e l)

-- zeros equal no update
zeros-other : (u : Update) → fits (holds u) ≡ true → eq_list eq_z (zeros 10) (place u) ≡ false
unfolding row
zeros-other u h =
    not-true→false (eq_list eq_z (zeros 10) (place u))
    (λ t. holds-count u h (ap (λ l. get_or l 1 (pos 0)) (sym (eq_list-true eq_z eq_z-true (zeros 10) (place u) t)) ∙ hole-count))

pub spread-pending : {pool : List ℤ} {slots : List Slot} → Spread pool slots → (u : Update) → fits (holds u) ≡ true
    → any_of (λ w. eq_list eq_z w (place u)) (places (length slots) pool) ≡ is_among u (standing slots)
spread-pending {pool} {slots} w u h =
    let f : List ℤ → Bool = λ w. eq_list eq_z w (place u) in
    ap (λ q. any_of f (places (length slots) q)) w.is
    ∙ ap (any_of f) (places-rows slots (zeros (length pool - 10 * length slots)) w.fits)
    ∙ any-standing f (zeros-other u h) slots
    ∙ numbers-among (place u) (place-well u) (map place (standing slots)) (all-well (standing slots))
    ∙ ap₂ is_among (update-back u) (map_back (standing slots))
