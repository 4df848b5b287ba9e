-- Setting channels of a part: what changes in the value table, and what stays. Assumes nothing.
use Rattle.std.specs.Prelude.{ℕ, zero, suc, ◌+◌, ◌*◌, ◌/◌, ◌%◌, ◌<◌, ◌≤◌, ◌≡◌, refl, Bool, true, false, ◌&&◌, ◌||◌, List, [], ◌∷◌, map, ltb, eqb, length, set, ℤ, pos}
use Rattle.std.proofs.Common.{sym, ◌∙◌, ap, arith, add-zero, length-set, get_or-set_other, ltb-true, lt-ltb}
use Rattle.lists.specs.Lists.{lists, all_of, member}
use Rattle.lists.specs.Laws.Booleans.{and_both, and_left, and_right, or_left, or-false-right, contradiction}
use Rattle.lists.specs.Laws.Alls.{all_of-head, all_of-tail}
use Rattle.lists.specs.Laws.Members.{member-head}
use Rattle.deck.specs.Deck.{Deck, R, N}
use Rattle.pool.specs.Updates.{Pair, index_of, value_at, assign, updates}
use Rattle.pool.specs.Places.{is_zero}
use Rattle.pool.specs.States.{unused_zero}

-- the channels of a list of pairs
abbrev pub channels_in : List Pair → List ℕ
channels_in l = map (λ a. a.channel) l

pub assign-length : (p : ℕ) (l : List Pair) (values : List ℤ) → length (assign p l values) ≡ length values
unfolding assign
assign-length p [] values = refl
assign-length p (a ∷ l) values = assign-length p l (set values (index_of p a.channel) a.value)
    ∙ length-set values (index_of p a.channel) a.value

-- a channel that is not among the pairs keeps its value
pub assign_other : (p c : ℕ) (l : List Pair) (values : List ℤ) → member c (channels_in l) ≡ false
    → value_at (assign p l values) p c ≡ value_at values p c
unfolding updates lists
assign_other p c [] values h = refl
assign_other p c (a ∷ l) values h =
    assign_other p c l (set values (index_of p a.channel) a.value) (or-false-right (eqb c a.channel) (member c (channels_in l)) h)
    ∙ set_other
  where
    differs : index_of p c ≡ index_of p a.channel → ⊥
    differs e =
        let same : c ≡ a.channel = omega arith in
        contradiction (ap (λ x. member x (a.channel ∷ channels_in l)) same ∙ member-head a.channel (channels_in l)) h

    set_other : value_at (set values (index_of p a.channel) a.value) p c ≡ value_at values p c
    set_other = get_or-set_other values (index_of p a.channel) (index_of p c) a.value (pos 0) differs

-- ---- the numbers that belong to no channel stay 0

-- index k belongs to a channel of a part
abbrev pub used : Deck → ℕ → Bool
used d k = ltb (k / 32) (N d) && ltb (k % 32) (R d)

pub used-index : (d : Deck) (p c : ℕ) → p < N d → c < R d → R d ≤ 32 → used d (index_of p c) ≡ true
unfolding index_of
used-index d p c lp lc few =
    and_both
    (lt-ltb ((32 * p + c) / 32) (N d) (omega arith))
    (lt-ltb ((32 * p + c) % 32) (R d) (omega arith))

unused-set : (d : Deck) (i j : ℕ) (values : List ℤ) (z : ℤ) → used d (i + j) ≡ true → unused_zero d i values ≡ true
    → unused_zero d i (set values j z) ≡ true
unfolding unused_zero
unused-set d i j [] z u h = refl
unused-set d i zero (v ∷ values) z u h =
    and_both (or_left (is_zero z) (ap (used d) (sym (add-zero i)) ∙ u)) (and_right (used d i || is_zero v) (unused_zero d (suc i) values) h)
unused-set d i (suc j) (v ∷ values) z u h =
    and_both (and_left (used d i || is_zero v) (unused_zero d (suc i) values) h)
    (unused-set d (suc i) j values z (ap (used d) shifted ∙ u) (and_right (used d i || is_zero v) (unused_zero d (suc i) values) h))
  where
    shifted : suc i + j ≡ i + suc j
    shifted = omega arith

pub unused-assign : (d : Deck) (p : ℕ) (l : List Pair) (values : List ℤ) → p < N d → R d ≤ 32
    → all_of (λ c. ltb c (R d)) (channels_in l) ≡ true → unused_zero d 0 values ≡ true → unused_zero d 0 (assign p l values) ≡ true
unfolding assign
unused-assign d p [] values lp few k h = h
unused-assign d p (a ∷ l) values lp few k h =
    let c = a.channel in
    let lc = ltb-true c (R d) (all_of-head (λ c. ltb c (R d)) c (channels_in l) k) in
    unused-assign d p l (set values (index_of p c) a.value) lp few (all_of-tail (λ c. ltb c (R d)) c (channels_in l) k)
    (unused-set d 0 (index_of p c) values a.value (ap (used d) zero-first ∙ used-index d p c lp lc few) h)
  where
    zero-first : 0 + index_of p a.channel ≡ index_of p a.channel
    zero-first = omega arith
