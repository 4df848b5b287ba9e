-- A pool with holes and the index of its used places stand for the pending updates: at the beginning of a call, when one is taken
-- out, when one is written behind, and when the places are moved together. Assumes nothing.
use Rattle.std.specs.Prelude.{ℕ, zero, suc, ◌+◌, ◌*◌, ◌-◌, ◌≤◌, ◌<◌, ◌≡◌, refl, true, false, not, List, [], ◌∷◌, ◌++◌, map, length, set, ℤ}
use Rattle.std.proofs.Common.{sym, ap, ◌∙◌, arith, length-append}
use Rattle.std.proofs.Math.Path.{subst}
use Rattle.lists.specs.Lists.{all_of, any_of, eq_z, eq_list, is_empty}
use Rattle.pool.specs.Updates.{Update, is_among}
use Rattle.pool.specs.Places.{zeros, is_zero, place, places}
use Rattle.pool.specs.Moves.{written, Laid}
use Rattle.pool.proofs.Laws.Laid.{laid-places}
use Rattle.pool_index.specs.Index.{lives, Indexed, Enters}
use Rattle.pool_index.specs.Laws.Indexed.{indexed-taken}
use Rattle.pool_holes.specs.Slots.{Slot, hole, holds, row, standing, holes, whole, fits}
use Rattle.pool_holes.proofs.Laws.Standing.{standing-append, whole-standing, whole_length, places-counted}
use Rattle.pool_holes.proofs.Laws.Spread.{spread-whole, spread-emptied, spread-pushed, pushed-length, spread-pending, places-rows}
use Rattle.pool_holes.proofs.Laws.Gathering.{spread-laid}
use Rattle.firing_queue.specs.Queue.{Held, held_of, Kept}

-- ---- lists of slots

map-set : (slots : List Slot) (p : ℕ) (s : Slot) → map row (set slots p s) ≡ set (map row slots) p (row s)
map-set [] zero s = refl
map-set [] (suc p) s = refl
map-set (x ∷ l) zero s = refl
map-set (x ∷ l) (suc p) s = ap (λ m. row x ∷ m) (map-set l p s)

map-append : (a b : List Slot) → map row (a ++ b) ≡ map row a ++ map row b
map-append [] b = refl
map-append (s ∷ a) b = ap (λ l. row s ∷ l) (map-append a b)

rows-count : (slots : List Slot) → length (map row slots) ≡ length slots
rows-count [] = refl
rows-count (s ∷ l) = ap suc (rows-count l)

map_whole : (us : List Update) → map row (whole us) ≡ map place us
unfolding whole row
map_whole [] = refl
map_whole (u ∷ us) = ap (λ l. place u ∷ l) (map_whole us)

dead : lives (row hole) ≡ false
unfolding lives row zeros is_zero eq_z
dead = refl

-- what stands in some places, and behind them in places of their own
pub standing-behind : (slots : List Slot) (us : List Update) → standing (slots ++ whole us) ≡ standing slots ++ us
standing-behind slots us = standing-append slots (whole us) ∙ ap (λ l. standing slots ++ l) (whole-standing us)

-- places used: the holes, and the updates pending
pub used-counted : (slots : List Slot) (us : List Update) → length (slots ++ whole us) ≡ holes slots + length (standing slots ++ us)
used-counted slots us =
    omega (
      arith,
      length-append slots (whole us),
      whole_length us,
      places-counted slots,
      length-append (standing slots) us,
    )

-- ---- the beginning: the pool of a good state, and the index that its test leaves

pub kept_whole : {index : List ℕ} {pool : List ℤ} {us : List Update} → Laid pool us → all_of (λ u. not (is_empty u.pairs)) us ≡ true
    → Indexed (places (length us) pool) index → Kept (whole us) (held_of index pool)
kept_whole {index} {us = us} h some ix =
    record { spread = spread-whole h some; indexed = subst (λ ks. Indexed ks index) (laid-places h ∙ sym (map_whole us)) ix }

module _ {slots : List Slot} {h : Held} (k : Kept slots h) where
  kept-places : places (length slots) h.pool ≡ map row slots
  kept-places =
      ap (places (length slots)) k.spread.is
      ∙ places-rows slots (zeros (length h.pool - 10 * length slots)) k.spread.fits

  -- the index of the used places, as a search sees it
  pub kept-indexed : Indexed (places (length slots) h.pool) h.index
  kept-indexed = subst (λ ks. Indexed ks h.index) (sym kept-places) k.indexed

  -- a search finds exactly the pending updates
  pub kept-among : (u : Update) → fits (holds u) ≡ true
      → any_of (λ w. eq_list eq_z w (place u)) (places (length slots) h.pool) ≡ is_among u (standing slots)
  kept-among u f = spread-pending k.spread u f

  -- a place is taken out, and the index stays as it is
  pub kept-emptied : (p : ℕ) → p < length slots → Kept (set slots p hole) (held_of h.index (written h.pool (10 * p) (zeros 10)))
  kept-emptied p l =
      record {
        spread = spread-emptied k.spread p l;
        indexed = subst (λ ks. Indexed ks h.index) (sym (map-set slots p hole)) (indexed-taken p (row hole) dead k.indexed);
      }

  module _ (u : Update) (f : fits (holds u) ≡ true) (r : 10 * length slots + 10 ≤ length h.pool) where
    -- one more is written behind and entered
    pub kept-pushed : {index : List ℕ} → Enters (length slots) (place u) h.index index
        → Kept (slots ++ holds u ∷ []) (held_of index (written h.pool (10 * length slots) (place u)))
    unfolding row
    kept-pushed {index} e =
        record {
          spread = spread-pushed k.spread u f r;
          indexed =
              subst (λ ks. Indexed ks index) (sym (map-append slots (holds u ∷ [])))
              (e.indexed (map row slots) (rows-count slots) k.indexed);
        }

    pub kept-long : length (written h.pool (10 * length slots) (place u)) ≡ length h.pool
    kept-long = pushed-length k.spread u f r

-- where nothing was taken out, as in an input, the pool is as the calls see it
pub kept-laid : {us : List Update} {h : Held} → Kept (whole us) h → Laid h.pool us
kept-laid {us} {h} k =
    subst (Laid h.pool) (whole-standing us)
    (spread-laid k.spread (ap length (whole-standing us) ∙ sym (whole_length us)))
