-- Pairs as numbers, and channels set or compared pair by pair, as a loop over the numbers does it. Assumes nothing.
use Rattle.std.specs.Prelude.{ℕ, zero, suc, ◌+◌, ◌*◌, ◌/◌, ◌%◌, ◌^◌, ◌≤◌, ◌<◌, ◌≡◌, Bool, length, set, drop, ℤ, pos, nat_abs}
use Rattle.std.proofs.Math.Path.{refl, sym, ap, subst}
use Rattle.std.proofs.Common.{ap₂, ◌∙◌, arith, length-set, drop-cons, take-suc-set, ltb-true, lt-ltb}
use Rattle.std.proofs.Math.Bool.{true, false, not}
use mathlib.Core.List.{List, [], ◌∷◌, ◌++◌, map, append_assoc, append-nil, flat_map}
use Rattle.std.specs.Int.Bits.{bit_or}
use Rattle.std.proofs.Math.Dec.{ltb}
use Rattle.std.proofs.Math.ListN.{get_or, take, length-drop}
use Rattle.lists.specs.Lists.{lists, all_of, keep, select, eq_z}
use Rattle.lists.specs.Bits.{mask_from, mask_of}
use Rattle.lists.specs.Laws.Booleans.{not-true→false}
use Rattle.lists.specs.Laws.Equalities.{eq_z-true, eq_z-refl}
use Rattle.lists.specs.Laws.Alls.{all_of-head, all_of-tail, all_of-cons, all_of-none}
use Rattle.pool.specs.Updates.{Pair, value_at, assign, updates}
use Rattle.pool.specs.Places.{pairs_of}
use Rattle.pool.proofs.Laws.Values.{channels_in}
use Rattle.firing.specs.Evaluated.{Assignable, held_pairs, channels_set, Compared}

-- the numbers of a pair
abbrev pub numbers : Pair → List ℤ
numbers a = pos a.channel ∷ a.value ∷ []

pub pairs-numbers : (l : List Pair) → pairs_of (flat_map numbers l) ≡ l
unfolding lists pairs_of
pairs-numbers [] = refl
pairs-numbers (a ∷ l) = ap (λ m. a ∷ m) (pairs-numbers l)

pub numbers-assignable : (l : List Pair) → all_of (λ c. ltb c 32) (channels_in l) ≡ true → Assignable (flat_map numbers l)
unfolding lists
numbers-assignable [] h i k = absurd (omega arith)
numbers-assignable (a ∷ l) h zero k =
    (a.channel, refl, ltb-true a.channel 32 (all_of-head (λ c. ltb c 32) a.channel (channels_in l) h))
numbers-assignable (a ∷ l) h (suc i) k =
    let e : 2 * suc i ≡ suc (suc (2 * i)) = omega arith in
    let x = numbers-assignable l (all_of-tail (λ c. ltb c 32) a.channel (channels_in l) h) i (omega arith) in
    (x.0, ap (λ j. get_or (pos a.channel ∷ a.value ∷ flat_map numbers l) j (pos 0)) e ∙ x.1, x.2)

-- the channels of assignable pairs are below 32
pub assignable-low : (l : List ℤ) → Assignable l → all_of (λ c. ltb c 32) (channels_in (pairs_of l)) ≡ true
unfolding pairs_of
assignable-low [] h = all_of-none (λ c. ltb c 32)
assignable-low (x ∷ []) h = all_of-none (λ c. ltb c 32)
assignable-low (x ∷ y ∷ l) h =
    let first = h 0 (omega arith) in
    all_of-cons (λ c. ltb c 32) (nat_abs x) (channels_in (pairs_of l))
    (lt-ltb (nat_abs x) 32 (omega (arith, ap nat_abs first.1, first.2)))
    (assignable-low l (λ i k.
    let e : 2 * (suc i) ≡ suc (suc (2 * i)) = omega arith in
    let r = h (suc i) (omega arith) in
    (r.0, sym (ap (λ j. get_or (x ∷ y ∷ l) j (pos 0)) e) ∙ r.1, r.2)))

-- pair i, and those behind it
pub pairs_next : (l : List ℤ) (i c : ℕ) → 2 * i + 1 < length l → get_or l (2 * i) (pos 0) ≡ pos c
    → pairs_of (drop (2 * i) l) ≡ record { channel = c; value = get_or l (2 * i + 1) (pos 0) } ∷ pairs_of (drop (2 * (i + 1)) l)
unfolding pairs_of
pairs_next l i c h e =
    let two : suc (suc (2 * i)) ≡ 2 * (i + 1) = omega arith in
    let one : suc (2 * i) ≡ 2 * i + 1 = omega arith in
    ap pairs_of (drop-cons l (2 * i) (pos 0) (omega arith)
    ∙ ap₂ (λ x m. x ∷ m) e (drop-cons l (suc (2 * i)) (pos 0) (omega arith)))
    ∙ ap₂ (λ j k. record { channel = c; value = get_or l j (pos 0) } ∷ pairs_of (drop k l)) one two

pub assign-next : (p : ℕ) (l values : List ℤ) (i c : ℕ) → 2 * i + 1 < length l → get_or l (2 * i) (pos 0) ≡ pos c
    → assign p (pairs_of (drop (2 * (i + 1)) l)) (set values (32 * p + c) (get_or l (2 * i + 1) (pos 0)))
    ≡ assign p (pairs_of (drop (2 * i) l)) values
unfolding updates
assign-next p l values i c h e = sym (ap (λ m. assign p m values) (pairs_next l i c h e))

few : (l : List ℤ) → length l ≤ 1 → pairs_of l ≡ []
unfolding pairs_of
few [] h = refl
few (x ∷ []) h = refl
few (x ∷ y ∷ l) h = absurd (omega arith)

-- no pair is left
pub assign_end : (p : ℕ) (l values : List ℤ) (i : ℕ) → length l / 2 ≤ i → values ≡ assign p (pairs_of (drop (2 * i) l)) values
unfolding assign
assign_end p l values i h =
    let size = length-drop (2 * i) l in
    sym (ap (λ m. assign p m values) (few (drop (2 * i) l) (omega arith)))

-- ---- pairs compared with a table

pub unequal : (x y : ℤ) → (x ≡ y → ⊥) → not (eq_z x y) ≡ true
unequal x y h = ap not (not-true→false (eq_z x y) (λ t. h (eq_z-true x y t)))

pub equal : (x y : ℤ) → x ≡ y → not (eq_z x y) ≡ false
equal x y e = ap not (ap (λ z. eq_z z y) e ∙ eq_z-refl y)

held-channels : (p : ℕ) (values : List ℤ) (l : List Pair) → channels_in (held_pairs p values l) ≡ channels_in l
unfolding held_pairs
held-channels p values [] = refl
held-channels p values (a ∷ l) = ap (λ m. a.channel ∷ m) (held-channels p values l)

-- i pairs are compared: `back` begins with what sets them back, and `mask` has the channels that they change
pub record Comparing (p : ℕ) (pairs values back : List ℤ) (mask i : ℕ) : Type 0 where
  pub held : take (2 * i) back ++ flat_map numbers (held_pairs p values (pairs_of (drop (2 * i) pairs)))
      ≡ flat_map numbers (held_pairs p values (pairs_of pairs))
  pub found : mask_from mask (channels_set p values (pairs_of (drop (2 * i) pairs))) ≡ mask_of (channels_set p values (pairs_of pairs))

module _ (p : ℕ) (pairs values : List ℤ) where
  pub comparing-none : (back : List ℤ) → Comparing p pairs values back 0 0
  unfolding mask_of
  comparing-none back = record { held = refl; found = refl }

  -- two numbers more
  two-more : (back : List ℤ) (i : ℕ) (x y : ℤ) → 2 * i + 1 < length back
      → take (2 * (i + 1)) (set (set back (2 * i) x) (2 * i + 1) y) ≡ take (2 * i) back ++ (x ∷ y ∷ [])
  two-more back i x y h =
      let one : 2 * i + 1 ≡ suc (2 * i) = omega arith in
      let two : 2 * (i + 1) ≡ suc (suc (2 * i)) = omega arith in
      let first = set back (2 * i) x in
      ap₂ (λ j k. take j (set first k y)) two one
      ∙ take-suc-set first (suc (2 * i)) y (omega (arith, length-set back (2 * i) x))
      ∙ ap (λ l. l ++ (y ∷ [])) (take-suc-set back (2 * i) x (omega arith))
      ∙ append_assoc (take (2 * i) back) (x ∷ []) (y ∷ [])

  module _ {back : List ℤ} {mask i c : ℕ} (h : 2 * i + 1 < length pairs) (b : length pairs ≤ length back)
      (e : get_or pairs (2 * i) (pos 0) ≡ pos c) (w : Comparing p pairs values back mask i) where
    abbrev next : List ℤ
    next = set (set back (2 * i) (pos c)) (2 * i + 1) (value_at values p c)

    abbrev rest : List Pair
    rest = pairs_of (drop (2 * (i + 1)) pairs)

    abbrev test : Bool
    test = not (eq_z (value_at values p c) (get_or pairs (2 * i + 1) (pos 0)))

    next-held : take (2 * (i + 1)) next ++ flat_map numbers (held_pairs p values rest) ≡ flat_map numbers (held_pairs p values (pairs_of pairs))
    unfolding held_pairs lists
    next-held =
        ap (λ l. l ++ flat_map numbers (held_pairs p values rest)) (two-more back i (pos c) (value_at values p c) (omega (arith, h, b)))
        ∙ append_assoc (take (2 * i) back) (pos c ∷ value_at values p c ∷ []) (flat_map numbers (held_pairs p values rest))
        ∙ ap (λ l. take (2 * i) back ++ flat_map numbers (held_pairs p values l)) (sym (pairs_next pairs i c h e))
        ∙ w.held

    next-found : (t : Bool) → test ≡ t
        → mask_from mask
        (map (λ a. a.channel)
        (keep t (record { channel = c; value = get_or pairs (2 * i + 1) (pos 0) })
        (select (λ a. not (eq_z (value_at values p a.channel) a.value)) rest)))
        ≡ mask_of (channels_set p values (pairs_of pairs))
    unfolding channels_set lists
    next-found t f =
        ap (λ b. mask_from mask
        (map (λ a. a.channel)
        (keep b (record { channel = c; value = get_or pairs (2 * i + 1) (pos 0) })
        (select (λ a. not (eq_z (value_at values p a.channel) a.value)) rest)))) (sym f)
        ∙ ap (λ l. mask_from mask (channels_set p values l)) (sym (pairs_next pairs i c h e))
        ∙ w.found

    -- the pair holds another value, or the same
    pub comparing-other : test ≡ true → Comparing p pairs values next (bit_or mask (2 ^ c)) (i + 1)
    unfolding channels_set keep mask_from
    comparing-other f = record { held = next-held; found = next-found true f }

    pub comparing-same : test ≡ false → Comparing p pairs values next mask (i + 1)
    unfolding channels_set keep
    comparing-same f = record { held = next-held; found = next-found false f }

  pub compared : (back : List ℤ) (mask i : ℕ) → length pairs % 2 ≡ 0 → 2 * i ≡ length pairs → Assignable pairs
      → Comparing p pairs values back mask i → Compared p pairs values back mask
  unfolding channels_set held_pairs mask_from lists
  compared back mask i even end low w =
      let none = few (drop (2 * i) pairs) (omega (arith, length-drop (2 * i) pairs)) in
      let written : take (length pairs) back ≡ flat_map numbers (held_pairs p values (pairs_of pairs)) =
      ap (λ n. take n back) (sym end)
      ∙ sym (append-nil (take (2 * i) back))
      ∙ ap (λ l. take (2 * i) back ++ flat_map numbers (held_pairs p values l)) (sym none)
      ∙ w.held in
      record {
        held = ap pairs_of written ∙ pairs-numbers (held_pairs p values (pairs_of pairs));
        assignable =
            subst Assignable (sym written)
            (numbers-assignable (held_pairs p values (pairs_of pairs)) (held_low (pairs_of pairs) (assignable-low pairs low)));
        mask = ap (λ l. mask_from mask (channels_set p values l)) (sym none) ∙ w.found;
      }
    where
      held_low : (l : List Pair) → all_of (λ c. ltb c 32) (channels_in l) ≡ true → all_of (λ c. ltb c 32) (channels_in (held_pairs p values l))
          ≡ true
      held_low l h = ap (all_of (λ c. ltb c 32)) (held-channels p values l) ∙ h
