-- A way down a tree, step by step: what a search for equal numbers keeps. Assumes nothing.
use Prim.Native.Nat.{ℕ, zero, suc, ◌+◌, ◌-◌, ◌*◌, ◌/◌, ◌≤◌, ◌<◌}
use mathlib.Core.Path.{◌≡◌, refl, sym, ap, subst, ◌∙◌}
use mathlib.Core.Logic.{◌⊎◌, ⊎_elim, inl, inr}
use mathlib.Core.Bool.{Bool, true, false}
use mathlib.Core.List.{List, [], ◌∷◌}
use native.Mathlib.Omega.{arith}
use lib.ListN.{length, get_or, take, drop}
use lib.IntN.{ℤ}
use Rattle.lists.specs.Lists.{any_of, eq_z, eq_list}
use Rattle.lists.specs.Laws.Booleans.{or_left, or_right, or-false-both, not-true→false, contradiction}
use Rattle.lists.specs.Laws.Equalities.{eq_z-true, eq_list-true, eq_z-refl, eq_list-refl}
use Rattle.pool.specs.Places.{places}
use Rattle.pool_index.specs.Hash.{bucket_of, side_of}
use Rattle.pool_index.specs.Index.{heads_of, slot_of, owner_of, Leads, here, down, Ends, free, past, lives, Ordered, Seeking, FreeAt}
use Rattle.pool_index.specs.Laws.Ways.{side-low, slot-inside, slot-owner}
use Rattle.pool_index.specs.Laws.Front.{places-length, places-at}

-- the steps that are left at most
unfoldable pub steps : ℕ → ℕ
steps zero = 0
steps (suc i) = 65536 - suc i

steps-less : (i n : ℕ) → 0 < i → i ≤ 65535 → (n ≡ 0) ⊎ (i < n) → steps n < steps i
unfolding steps
steps-less zero n h m l = absurd (omega arith)
steps-less (suc i) zero h m l = omega arith
steps-less (suc i) (suc n) h m l = ⊎_elim (λ e. absurd (omega arith)) (λ k. omega arith) l

-- ---- one step down, from the place with number i

slot-suc : (heads i side : ℕ) → 0 < i → slot_of heads (suc (i - 1)) side ≡ slot_of heads i side
slot-suc heads i side h = let e : suc (i - 1) ≡ i = omega arith in ap (λ n. slot_of heads n side) e

module _ {heads top : ℕ} {index : List ℕ} (o : Ordered heads top index) (i side : ℕ) (some : 0 < i) (most : i ≤ top) (low : side < 2) where
  abbrev next : ℕ
  next = get_or index (slot_of heads i side) 0

  pub next-inside : slot_of heads i side < length index
  next-inside = subst (λ s. s < length index) (slot-suc heads i side some) (slot-inside o (i - 1) side (omega arith) low)

  pub next-later : (next ≡ 0) ⊎ ((i < next) × (next ≤ top))
  next-later =
      let owner = ap (owner_of heads) (sym (slot-suc heads i side some)) ∙ slot-owner heads (i - 1) side low in
      ⊎_elim (λ e. inl e) (λ r. inr (omega (arith, owner, r.0), r.1)) (o.slots (slot_of heads i side) next-inside)

  pub next-less : top ≤ 65535 → steps next < steps i
  next-less few = steps-less i next some (omega arith) (⊎_elim (λ e. inl e) (λ r. inr r.0) next-later)

  pub next-most : next ≤ top
  next-most = ⊎_elim (λ e. omega (arith, e)) (λ r. r.1) next-later

  pub next-deep : (d : ℕ) → d < i → 0 < next → d + 1 < next
  next-deep d l n = ⊎_elim (λ e. absurd (omega (arith, e))) (λ r. omega (arith, r.0)) next-later

-- ---- the search

-- from the place with number i at a depth the way comes to number n
abbrev From : List ℕ → List ℤ → ℕ → ℕ → ℕ → Type 0
From index row d i n = (i ≡ n) ⊎ ((0 < i) × Leads (heads_of index) index row (suc d) (slot_of (heads_of index) i (side_of row d)) n)

from-slot : {index : List ℕ} {row : List ℤ} {d s n : ℕ} → Leads (heads_of index) index row d s n → From index row d (get_or index s 0) n
from-slot (here h) = inl h
from-slot {index} {row} {d} {n = n} (down {i = i} h w) =
    inr (omega (arith, h), subst (λ j. Leads (heads_of index) index row (suc d) (slot_of (heads_of index) j (side_of row d)) n) (sym h) w)

-- the slot s at a depth holds the number i, the way ends where that from s on does, and it comes to each place that has these numbers
pub record Searching (used : ℕ) (pool row : List ℤ) (index : List ℕ) (s i d : ℕ) : Type 0 where
  pub seeking : Seeking used pool row index
  pub inside : s < length index
  pub value : i ≡ get_or index s 0
  pub most : i ≤ length (places used pool)
  pub deep : 0 < i → d < i
  pub back : (e : ℕ) → Ends (heads_of index) index row d s e → Ends (heads_of index) index row 0 (bucket_of (heads_of index) row) e
  pub way : (p : ℕ) → p < used → take 10 (drop (10 * p) pool) ≡ row → From index row d i (suc p)

any_at : {A : Type 0} (f : A → Bool) (l : List A) (j : ℕ) (x : A) → j < length l → f (get_or l j x) ≡ true → any_of f l ≡ true
unfolding any_of
any_at f [] j x h t = absurd (omega arith)
any_at f (y ∷ l) zero x h t = or_left (any_of f l) t
any_at f (y ∷ l) (suc j) x h t = or_right (f y) (any_at f l j x (omega arith) t)

any_of-none : {A : Type 0} (f : A → Bool) (l : List A) (x : A) → ((j : ℕ) → j < length l → f (get_or l j x) ≡ false) → any_of f l ≡ false
unfolding any_of
any_of-none f [] x h = refl
any_of-none f (y ∷ l) x h = or-false-both (h 0 (omega arith)) (any_of-none f l x (λ j m. h (suc j) (omega arith)))

pub searching-starts : {used : ℕ} {pool row : List ℤ} {index : List ℕ} (b : ℕ) → Seeking used pool row index
    → b ≡ bucket_of (heads_of index) row → b < heads_of index → Searching used pool row index b (get_or index b 0) 0
searching-starts {used} {pool} {row} {index} b k e l =
    record {
      seeking = k;
      inside = omega (arith, o.inside);
      value = refl;
      most = ⊎_elim (λ e. omega (arith, e)) (λ r. r.1) (o.slots b (omega (arith, o.inside)));
      deep = λ h. h;
      back = λ n w. subst (λ s. Ends (heads_of index) index row 0 s n) e w;
      way = way;
    }
  where
    o : Ordered (heads_of index) (length (places used pool)) index
    o = k.indexed.ordered

    way : (p : ℕ) → p < used → take 10 (drop (10 * p) pool) ≡ row → From index row 0 (get_or index b 0) (suc p)
    way p m q =
        let there = places-at used p pool m ∙ q in
        from-slot
        (subst (λ s. Leads (heads_of index) index row 0 s (suc p)) (sym e)
        (subst (λ r. Leads (heads_of index) index r 0 (bucket_of (heads_of index) r) (suc p)) there
        (k.indexed.leads p (omega (arith, places-length used pool)) (ap lives there ∙ k.live))))

module _ {used : ℕ} {pool row : List ℤ} {index : List ℕ} {s i d : ℕ} (w : Searching used pool row index s i d) where
  pub searching-ends : i ≡ 0 → FreeAt used pool row index s
  searching-ends e =
      record {
        none = any_of-none (λ w. eq_list eq_z w row) (places used pool) [] none;
        ends = w.back s (free (sym w.value ∙ e));
      }
    where
      nowhere : (p : ℕ) → p < used → take 10 (drop (10 * p) pool) ≡ row → ⊥
      nowhere p l q =
          ⊎_elim (λ n. omega (arith, e, n)) (λ r. omega (arith, e, r.0)) (w.way p l q)

      none : (p : ℕ) → p < length (places used pool) → eq_list eq_z (get_or (places used pool) p []) row ≡ false
      none p l =
          let m : p < used = omega (arith, places-length used pool) in
          not-true→false (eq_list eq_z (get_or (places used pool) p []) row)
          (λ t. nowhere p m (sym (places-at used p pool m) ∙ eq_list-true eq_z eq_z-true (get_or (places used pool) p []) row t))

  module _ (some : 0 < i) where
    abbrev search_step : ℕ
    search_step = slot_of (heads_of index) i (side_of row d)

    searching-inside : search_step < length index
    searching-inside = next-inside w.seeking.indexed.ordered i (side_of row d) some w.most (side-low row d)

    -- the slot as the code computes it
    pub step_is : {b : ℕ} → b ≡ side_of row d → length index / 3 + 2 * (i - 1) + b ≡ slot_of (heads_of index) i (side_of row d)
    unfolding slot_of heads_of
    step_is e = ap (λ x. length index / 3 + 2 * (i - 1) + x) e

    pub step-inside : {b : ℕ} → b ≡ side_of row d → length index / 3 + 2 * (i - 1) + b < length index
    step-inside e = subst (λ s. s < length index) (sym (step_is e)) searching-inside

    -- numbers are at most 65,535
    few : length (places used pool) ≤ 65535
    few = omega (arith, places-length used pool, w.seeking.few)

    pub searching-less : steps (get_or index search_step 0) < steps i
    searching-less = next-less w.seeking.indexed.ordered i (side_of row d) some w.most (side-low row d) few

    pub searching-few : d < 65535
    searching-few = omega (arith, w.deep some, w.most, few)

    pub searching-low : i - 1 < used
    searching-low = omega (arith, w.most, some, places-length used pool)

    module _ {r : Bool} (is : r ≡ eq_list eq_z (take 10 (drop (10 * (i - 1)) pool)) row) where
      pub searching-found : r ≡ true → any_of (λ w. eq_list eq_z w row) (places used pool) ≡ true
      searching-found t =
          any_at (λ w. eq_list eq_z w row) (places used pool) (i - 1) [] (omega (arith, searching-low, places-length used pool))
          (ap (λ w. eq_list eq_z w row) (places-at used (i - 1) pool searching-low) ∙ sym is ∙ t)

      pub searching-next : r ≡ false → Searching used pool row index search_step (get_or index search_step 0) (d + 1)
      searching-next f =
          record {
            seeking = w.seeking;
            inside = searching-inside;
            value = refl;
            most = next-most w.seeking.indexed.ordered i (side_of row d) some w.most (side-low row d);
            deep = next-deep w.seeking.indexed.ordered i (side_of row d) some w.most (side-low row d) d (w.deep some);
            back = back;
            way = way;
          }
        where
          back : (e : ℕ) → Ends (heads_of index) index row (d + 1) search_step e
              → Ends (heads_of index) index row 0 (bucket_of (heads_of index) row) e
          back e v =
              let n : d + 1 ≡ suc d = omega arith in
              let one : i ≡ suc (i - 1) = omega arith in
              w.back e
              (past (sym w.value ∙ one)
              (subst (λ k. Ends (heads_of index) index row (suc d) k e) (sym (slot-suc (heads_of index) i (side_of row d) some))
              (subst (λ k. Ends (heads_of index) index row k search_step e) n v)))

          here-not : (q : ℕ) → q < used → take 10 (drop (10 * q) pool) ≡ row → i ≡ suc q → ⊥
          here-not q l e n =
              let same : i - 1 ≡ q = omega (arith, n) in
              contradiction (ap (λ w. eq_list eq_z w row) (ap (λ j. take 10 (drop (10 * j) pool)) same ∙ e)
              ∙ eq_list-refl eq_z eq_z-refl row) (sym is ∙ f)

          way : (q : ℕ) → q < used → take 10 (drop (10 * q) pool) ≡ row → From index row (d + 1) (get_or index search_step 0) (suc q)
          way q l e =
              let n : suc d ≡ d + 1 = omega arith in
              subst (λ k. From index row k (get_or index search_step 0) (suc q)) n
              (⊎_elim (λ m. absurd (here-not q l e m)) (λ v. from-slot v.1) (w.way q l e))
