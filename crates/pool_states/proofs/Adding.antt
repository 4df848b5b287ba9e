-- What the loop over the pending updates keeps that tests their places, adds up their charges, and enters them into an index.
-- Assumes nothing.
use Prim.Native.Nat.{ℕ, ◌+◌, ◌*◌, ◌-◌, ◌<◌, ◌≤◌}
use mathlib.Core.Path.{◌≡◌, refl, sym, ap, subst, ◌∙◌}
use mathlib.Core.Bool.{Bool, true, false, not, ◌&&◌, cond, and-false}
use mathlib.Core.List.{List, [], ◌∷◌}
use native.Mathlib.Omega.{arith}
use lib.ListN.{length, get_or, take, drop, replicate, length-take, length-drop}
use lib.IntN.{ℤ, pos, nat_abs}
use Rattle.std.specs.Prelude.{None, Some}
use Rattle.lists.specs.Lists.{lists, all_of, any_of, eq_z, eq_list}
use Rattle.lists.specs.Laws.Alls.{all_of-append, all_of-at, all_of-cons, all_of-map, all_of-none}
use Rattle.lists.specs.Laws.Booleans.{and_both, and_left, and_right, contradiction, not-true→false}
use Rattle.lists.specs.Laws.Sums.{sum_of-append}
use Rattle.lists.specs.Bits.{mask_of}
use Rattle.deck.specs.Deck.{Deck}
use Rattle.deck.specs.declared.Deck as Counted
use Rattle.deck.specs.Shape.{shape, bits_of}
use Rattle.deck.proofs.Laws.Shape.{counted-R, counted-N}
use Rattle.charge.specs.Charge.{update_charge}
use Rattle.charge.specs.Memo.{Memo, Answered, capped}
use Rattle.pool.specs.Updates.{Update, channels, all_different, charge}
use Rattle.pool.specs.Places.{update_of, well_written, places, updates_of}
use Rattle.pool.specs.States.{known}
use Rattle.pool_index.specs.Hash.{bucket_of}
use Rattle.pool_index.specs.Index.{heads_of, Ends, Indexed, Roomy, Entering, Enters}
use Rattle.pool_index.specs.Laws.Entering.{entered-none, entered-next, roomy-heads}
use Rattle.pool_index.specs.Laws.Front.{places-length, places-at, places-end}
use Rattle.pool_index.specs.Laws.Indexed.{heads-same}
use Rattle.pool_states.specs.Fits.{within, IsNatural}
use Rattle.pool_states.specs.Laws.Charges.{holds-natural, holds-number, holds-part, holds-charge}
use Rattle.pool_states.specs.Answer.{HoldsKnown, PlaceGives, FitsPlace, all_fit, weight_of, Weighs}
use Rattle.pool_states.specs.Laws.Indexing.{index-none}
use Rattle.pool_states.specs.Laws.Shape.{fit-holds}
use Rattle.pool_states.proofs.Different.{here, updates-end, different-next, different-stop}

-- ---- the place as it is lent, from one index to another

abbrev pub lent : ℕ → List ℤ → List ℤ
lent k pool = take (10 * k + 10 - 10 * k) (drop (10 * k) pool)

pub lent_length : (n k : ℕ) (pool : List ℤ) → k < n → 10 * n ≤ length pool → length (lent k pool) ≡ 10
lent_length n k pool h room = omega (arith, length-take (10 * k + 10 - 10 * k) (drop (10 * k) pool), length-drop (10 * k) pool)

pub lent_same : (k : ℕ) (pool : List ℤ) → lent k pool ≡ here pool k
lent_same k pool = let ten : 10 * k + 10 - 10 * k ≡ 10 = omega arith in ap (λ j. take j (drop (10 * k) pool)) ten

-- ---- one place more

module _ (d : Deck) (pool : List ℤ) (k : ℕ) where
  abbrev fits : List ℤ → Bool
  fits l = well_written l && known d (update_of l)

  fit-more : all_fit d k pool ≡ true → fits (here pool k) ≡ true → all_fit d (k + 1) pool ≡ true
  unfolding all_fit
  fit-more a f =
      let l = here pool k in
      let us = updates_of k pool in
      and_both
      (ap (all_of well_written) (places-end k pool)
      ∙ all_of-append well_written (places k pool) (l ∷ []) (and_left (all_of well_written (places k pool)) (all_of (known d) us) a)
      (all_of-cons well_written l [] (and_left (well_written l) (known d (update_of l)) f) (all_of-none well_written)))
      (ap (all_of (known d)) (updates-end pool k)
      ∙ all_of-append (known d) us (update_of l ∷ []) (and_right (all_of well_written (places k pool)) (all_of (known d) us) a)
      (all_of-cons (known d) (update_of l) [] (and_right (well_written l) (known d (update_of l)) f) (all_of-none (known d))))

  fit-stop : (n : ℕ) → k < n → fits (here pool k) ≡ false → all_fit d n pool ≡ false
  unfolding all_fit updates_of
  fit-stop n h f =
      not-true→false (all_fit d n pool) λ t.
      let ls = places n pool in
      let at = places-at n k pool h in
      let low : k < length ls = omega (arith, places-length n pool) in
      let first = all_of-at well_written ls k [] (and_left (all_of well_written ls) (all_of (known d) (updates_of n pool)) t) low in
      let second = all_of-at (λ l. known d (update_of l)) ls k []
      (sym (all_of-map (known d) update_of ls) ∙ and_right (all_of well_written ls) (all_of (known d) (updates_of n pool)) t) low in
      contradiction (and_both (ap well_written (sym at) ∙ first) (ap (λ l. known d (update_of l)) (sym at) ∙ second)) f

  charge-more : let u = update_of (here pool k) in
      charge d (updates_of (k + 1) pool) ≡ charge d (updates_of k pool) + update_charge d u.part (channels u)
  unfolding charge lists
  charge-more =
      let f : Update → ℕ = λ u. update_charge d u.part (channels u) in
      ap (charge d) (updates-end pool k) ∙ sum_of-append f (updates_of k pool) (update_of (here pool k) ∷ []) ∙ omega arith

-- ---- the loop

-- the first k places fit and are different, the total is the charge of their updates, and the index has them
pub record Adding (d : Deck) (n : ℕ) (pool : List ℤ) (index₀ m index : List ℕ) (total k : ℕ) : Type 0 where
  pub reached : k ≤ n
  pub memo : Memo d m
  pub fit : all_fit d k pool ≡ true
  pub different : all_different (updates_of k pool) ≡ true
  pub same : total ≡ capped (charge d (updates_of k pool))
  pub long : length index ≡ length index₀
  pub indexed : Indexed (places k pool) index

module _ (d : Deck) (n : ℕ) (pool : List ℤ) where
  answer : (b : Bool) → (all_fit d n pool && all_different (updates_of n pool)) ≡ b
      → cond b (Some (capped (charge d (updates_of n pool)))) None ≡ weight_of d n pool
  answer b e = ap (λ b. cond b (Some (capped (charge d (updates_of n pool)))) None) (sym e)

  pub adding-none : {m index : List ℕ} → Memo d m → Roomy n index → index ≡ replicate (length index) 0
      → Adding d n pool index m index 0 0
  unfolding all_fit updates_of places all_different charge lists
  adding-none a r z =
      record {
        reached = omega arith;
        memo = a;
        fit = refl;
        different = refl;
        same = omega arith;
        long = refl;
        indexed = entered-none pool r z;
      }

  pub adding-heads : {index₀ m index : List ℕ} {total k : ℕ} → Adding d n pool index₀ m index total k → heads_of index ≡ heads_of index₀
  adding-heads {index₀} {m} {index} a = heads-same index index₀ a.long

  pub adding-all : {index₀ m index : List ℕ} {total k : ℕ} → Adding d n pool index₀ m index total k → n ≤ k
      → Weighs d n pool m index₀ index (Some total)
  adding-all {index₀} {m} {index} {total} {k} a h =
      let e : k ≡ n = omega (arith, a.reached) in
      let both = and_both (ap (λ j. all_fit d j pool) (sym e) ∙ a.fit) (ap (λ j. all_different (updates_of j pool)) (sym e) ∙ a.different) in
      record {
        answer = ap Some (a.same ∙ ap (λ j. capped (charge d (updates_of j pool))) e) ∙ answer true both;
        memo = a.memo;
        indexes = record { indexed = λ _. rw e at a.indexed; long = a.long };
      }

  module _ {index₀ m index : List ℕ} {total k : ℕ} (a : Adding d n pool index₀ m index total k) (h : k < n) where
    abbrev l : List ℤ
    l = lent k pool

    abbrev found : Bool
    found = any_of (λ w. eq_list eq_z w l) (places k pool)

    -- it can be entered where its way ends
    pub adding-entering : {slot : ℕ} → Roomy n index₀ → Ends (heads_of index) index l 0 (bucket_of (heads_of index) l) slot
        → Entering k l slot index
    adding-entering r w =
        record {
          ks = places k pool;
          count = places-length k pool;
          indexed = a.indexed;
          ends = w;
          some = omega (arith, adding-heads a, (roomy-heads r).0);
          room = omega (arith, adding-heads a, a.long, r.links);
        }

    -- a place that does not fit
    pub adding-unfit : fits d pool k l ≡ false → Weighs d n pool m index₀ index None
    adding-unfit f =
        let none = fit-stop d pool k n h (ap (fits d pool k) (sym (lent_same k pool)) ∙ f) in
        record {
          answer = answer false (ap (λ b. b && all_different (updates_of n pool)) none);
          memo = a.memo;
          indexes = index-none a.long;
        }

    module _ {m' : List ℕ} {c : ℕ} (f : fits d pool k l ≡ true) (g : PlaceGives d l m' c) where
      fit-here : fits d pool k (here pool k) ≡ true
      fit-here = ap (fits d pool k) (sym (lent_same k pool)) ∙ f

      different : all_different (updates_of (k + 1) pool) ≡ (all_different (updates_of k pool) && not found)
      unfolding all_fit
      different =
          different-next pool k (and_left (all_of well_written (places k pool)) (all_of (known d) (updates_of k pool)) a.fit)
          (and_left (well_written (here pool k)) (known d (update_of (here pool k))) fit-here)
          ∙ ap (λ x. all_different (updates_of k pool) && not (any_of (λ w. eq_list eq_z w x) (places k pool))) (sym (lent_same k pool))

      -- a place with the numbers of an earlier one
      pub adding-twice : found ≡ true → Weighs d n pool m' index₀ index None
      adding-twice b =
          let twice = different ∙ ap (λ x. all_different (updates_of k pool) && not x) b ∙ and-false (all_different (updates_of k pool)) in
          record {
            answer = answer false (ap (λ x. all_fit d n pool && x) (different-stop pool n k h twice) ∙ and-false (all_fit d n pool));
            memo = g.memo;
            indexes = index-none a.long;
          }

      pub adding-more : {t : ℕ} {index' : List ℕ} → t ≡ capped (total + c) → found ≡ false → Enters k l index index'
          → Adding d n pool index₀ m' index' t (k + 1)
      adding-more {t} {index'} e none w =
          let value = g.value ∙ ap (λ x. capped (update_charge d (update_of x).part (channels (update_of x)))) (lent_same k pool) in
          record {
            reached = omega arith;
            memo = g.memo;
            fit = fit-more d pool k a.fit fit-here;
            different = different ∙ and_both a.different (ap not none);
            same = omega (arith, e, value, a.same, charge-more d pool k);
            long = w.long ∙ a.long;
            indexed = entered-next pool k a.indexed (subst (λ x. Enters k x index index') (lent_same k pool) w);
          }

-- the place at hand holds a known update, and the set has its channels
pub record HeldHere (d : Deck) (l : List ℤ) (mask : ℕ) : Type 0 where
  pub fit : (well_written l && known d (update_of l)) ≡ true
  pub set : mask ≡ mask_of (channels (update_of l))
  pub holds : HoldsKnown d l

-- the test passed it, for the deck by its tables
module _ (rules parts : List ℕ) (counts : Counted.Deck) (n : ℕ) (pool : List ℤ) {k mask : ℕ} (h : k < n) (room : 10 * n ≤ length pool)
    (f : FitsPlace counts.channels counts.parts (lent k pool) (Some mask)) where
  abbrev deck : Deck
  deck = shape rules parts counts

  pub place-held : HeldHere deck (lent k pool) mask
  place-held =
      let g = f deck (counted-R rules parts counts) (counted-N rules parts counts) in
      record { fit = g.0; set = g.1; holds = fit-holds deck (lent k pool) (lent_length n k pool h room) g.0 }

  pub place-natural : IsNatural (get_or (lent k pool) 0 (pos 0))
  place-natural = holds-natural deck counts.parts (counted-N rules parts counts) (lent k pool) place-held.holds

  module _ {p : ℕ} (q : p ≡ nat_abs (get_or (lent k pool) 0 (pos 0))) where
    part-is : p ≡ within counts.parts (get_or (lent k pool) 0 (pos 0))
    part-is = q ∙ holds-number deck counts.parts (counted-N rules parts counts) (lent k pool) place-held.holds

    pub place-part : p < counts.parts
    place-part = holds-part deck counts.parts (counted-N rules parts counts) (lent k pool) place-held.holds part-is

    pub place-charged : counts.channels ≤ 32 → {m : List ℕ} {c : ℕ} → Answered deck (update_charge deck p (bits_of 32 mask)) m c
        → PlaceGives deck (lent k pool) m c
    place-charged few a =
        holds-charge deck counts.parts (counted-N rules parts counts) (lent k pool) place-held.holds
        (omega (arith, few, counted-R rules parts counts)) part-is place-held.set a
