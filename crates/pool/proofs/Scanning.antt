-- Scans of numbers and of places: the answer for the rest is the answer for the whole. Assumes nothing.
use Prim.Native.Nat.{ℕ, zero, suc, ◌+◌, ◌-◌, ◌*◌, ◌^◌, ◌≤◌, ◌<◌}
use mathlib.Core.Path.{◌≡◌, refl, sym, ap, ◌∙◌}
use mathlib.Core.Bool.{Bool, true, false, ◌&&◌, and-true, and-false}
use mathlib.Core.Logic.{⊎_elim}
use mathlib.Core.List.{List, [], ◌∷◌}
use native.Mathlib.Numerals.{add-one}
use native.Mathlib.Omega.{arith}
use lib.Bits.{bit_or, or_zero_l, or_zero_r, or_add_and, and_le_l}
use lib.Dec.{eqb}
use lib.ListN.{length, take, drop, get_or, length-take, length-drop, drop_of_length-le}
use lib.Seq.{drop-cons, drop-drop, get_or-drop, get_or-take}
use lib.IntN.{ℤ, pos}
use lib.Signed.{mag}
use mir.Syntax.{w32}
use mir.Val.{of_z, to_z}
use mir.ValLaws.{to_z-of_z}
use borrow.Author.Tests.{eqb-true, eqb-false, ne_eqb}
use Rattle.lists.specs.Lists.{lists, all_of, eq_z, eq_list}
use Rattle.lists.specs.Laws.Booleans.{not-true→false, true-or-false}
use Rattle.lists.specs.Laws.Equalities.{eq_z-true, eq_z-refl}
use Rattle.pool.specs.Places.{is_zero}

-- equal bits, equal numbers
pub bits-same : (x y : ℤ) → mag x < 2 ^ 31 → mag y < 2 ^ 31 → of_z w32 x ≡ of_z w32 y → x ≡ y
bits-same x y hx hy e = sym (to_z-of_z w32 x (record { sfits = hx })) ∙ ap (to_z w32) e ∙ to_z-of_z w32 y (record { sfits = hy })

eq_z-false : (x y : ℤ) → (x ≡ y → ⊥) → eq_z x y ≡ false
eq_z-false x y h = not-true→false (eq_z x y) (λ t. h (eq_z-true x y t))

-- ---- zeros, with a flag that is set if there was no other number before

module _ (l : List ℤ) (i : ℕ) (clear : Bool) (h : i < length l) where
  pub zero-next : get_or l i (pos 0) ≡ pos 0 → (clear && all_of is_zero (drop (i + 1) l)) ≡ (clear && all_of is_zero (drop i l))
  unfolding lists is_zero
  zero-next e = rw (drop-cons l i (pos 0) h, e, add-one) refl

  pub zero-not : (get_or l i (pos 0) ≡ pos 0 → ⊥) → false ≡ (clear && all_of is_zero (drop i l))
  unfolding all_of is_zero
  zero-not n = rw (drop-cons l i (pos 0) h, eq_z-false (get_or l i (pos 0)) (pos 0) n, and-false) refl

pub zero-end : (l : List ℤ) (i : ℕ) (clear : Bool) → length l ≤ i → clear ≡ (clear && all_of is_zero (drop i l))
unfolding all_of
zero-end l i clear h = rw (drop_of_length-le l h, and-true) refl

-- ---- zeros, by the bits of all numbers together

some : (a b : ℕ) → (b ≡ 0 → ⊥) → eqb (bit_or a b) 0 ≡ false
some a b n = ne_eqb (bit_or a b) 0 (λ (e : bit_or a b ≡ 0). n (omega (arith, e, or_add_and a b, and_le_l a b)))

none : (a b : ℕ) → b ≡ 0 → eqb (bit_or a b) 0 ≡ eqb a 0
none a b e = ap (λ x. eqb x 0) (ap (bit_or a) e ∙ or_zero_r a)

-- of two numbers no bit is set
pub or-none : (a b : ℕ) → eqb (bit_or a b) 0 ≡ (eqb a 0 && eqb b 0)
or-none a b =
    ⊎_elim
    (λ w. none a b (eqb-true b 0 w) ∙ sym (and-true (eqb a 0)) ∙ ap (λ x. eqb a 0 && x) (sym w))
    (λ w. some a b (eqb-false b 0 w) ∙ sym (and-false (eqb a 0)) ∙ ap (λ x. eqb a 0 && x) (sym w))
    (true-or-false (eqb b 0))

-- the bits of one number more
pub zero_turn : (l : List ℤ) (i bits : ℕ) → i < length l → mag (get_or l i (pos 0)) < 2 ^ 31
    → (eqb (bit_or bits (of_z w32 (get_or l i (pos 0)))) 0 && all_of is_zero (drop (i + 1) l)) ≡ (eqb bits 0 && all_of is_zero (drop i l))
zero_turn l i bits h fits =
    let x = of_z w32 (get_or l i (pos 0)) in
    let same = bits-same (get_or l i (pos 0)) (pos 0) fits (omega arith) in
    ⊎_elim
    (λ w. let e = eqb-true x 0 w in ap (λ b. b && all_of is_zero (drop (i + 1) l)) (none bits x e) ∙ zero-next l i (eqb bits 0) h (same e))
    (λ w. let e = eqb-false x 0 w in ap (λ b. b && all_of is_zero (drop (i + 1) l)) (some bits x e)
    ∙ zero-not l i (eqb bits 0) h (λ q. e (ap (of_z w32) q)))
    (true-or-false (eqb x 0))

-- cut at an index
zero-cut : (n : ℕ) (l : List ℤ) → (all_of is_zero (take n l) && all_of is_zero (drop n l)) ≡ all_of is_zero l
unfolding all_of
zero-cut zero l = refl
zero-cut (suc n) [] = refl
zero-cut (suc n) (x ∷ l) = behind (is_zero x) (all_of is_zero (take n l)) (all_of is_zero (drop n l)) (zero-cut n l)
  where
    behind : (b p q : Bool) {r : Bool} → (p && q) ≡ r → ((b && p) && q) ≡ (b && r)
    behind true p q e = e
    behind false p q e = refl

-- two halves, behind which only zeros stand
pub zero-halves : (l : List ℤ) (half : ℕ) → all_of is_zero (drop (2 * half) l) ≡ true
    → (all_of is_zero (take half l) && all_of is_zero (take (2 * half - half) (drop half l))) ≡ all_of is_zero l
zero-halves l half h =
    let n : 2 * half - half ≡ half = omega arith in
    let m : half + half ≡ 2 * half = omega arith in
    let rest = ap (all_of is_zero) (drop-drop half half l ∙ ap (λ k. drop k l) m) ∙ h in
    let second = sym (and-true (all_of is_zero (take half (drop half l))))
    ∙ ap (λ b. all_of is_zero (take half (drop half l)) && b) (sym rest) ∙ zero-cut half (drop half l) in
    ap (λ k. all_of is_zero (take half l) && all_of is_zero (take k (drop half l))) n ∙ ap (λ b. all_of is_zero (take half l) && b) second
    ∙ zero-cut half l

-- another number stands behind them
pub zero-behind : (l : List ℤ) (n : ℕ) → all_of is_zero (drop n l) ≡ false → false ≡ all_of is_zero l
zero-behind l n h = sym (and-false (all_of is_zero (take n l))) ∙ ap (λ b. all_of is_zero (take n l) && b) (sym h) ∙ zero-cut n l

-- the last number
pub zero-last : (l : List ℤ) (i : ℕ) → i < length l → length l ≤ i + 1 → mag (get_or l i (pos 0)) < 2 ^ 31
    → eqb (of_z w32 (get_or l i (pos 0))) 0 ≡ all_of is_zero (drop i l)
zero-last l i h m fits =
    zero-end l (i + 1) (eqb (of_z w32 (get_or l i (pos 0))) 0) m
    ∙ ap (λ x. eqb x 0 && all_of is_zero (drop (i + 1) l)) (sym (or_zero_l (of_z w32 (get_or l i (pos 0)))))
    ∙ zero_turn l i 0 h fits

-- ---- equal numbers

module _ (l m : List ℤ) (i : ℕ) (hl : i < length l) (hm : i < length m) where
  pub same_next : get_or l i (pos 0) ≡ get_or m i (pos 0)
      → eq_list eq_z (drop (i + 1) l) (drop (i + 1) m) ≡ eq_list eq_z (drop i l) (drop i m)
  unfolding eq_list
  same_next e = rw (drop-cons l i (pos 0) hl, drop-cons m i (pos 0) hm, e, eq_z-refl, add-one) refl

  pub same_stop : (get_or l i (pos 0) ≡ get_or m i (pos 0) → ⊥) → false ≡ eq_list eq_z (drop i l) (drop i m)
  unfolding eq_list
  same_stop n =
      rw (drop-cons l i (pos 0) hl, drop-cons m i (pos 0) hm, eq_z-false (get_or l i (pos 0)) (get_or m i (pos 0)) n) refl

pub same_end : (l m : List ℤ) (i : ℕ) → length l ≤ i → length m ≤ i → true ≡ eq_list eq_z (drop i l) (drop i m)
unfolding eq_list
same_end l m i hl hm = rw (drop_of_length-le l hl, drop_of_length-le m hm) refl

-- ---- places

pub place-size : (p : List ℤ) (at : ℕ) → at + 10 ≤ length p → length (take 10 (drop at p)) ≡ 10
place-size p at h = simp (length-take, length-drop) (omega arith)

pub place_at : (p : List ℤ) (at i : ℕ) → i < 10 → get_or (take 10 (drop at p)) i (pos 0) ≡ get_or p (at + i) (pos 0)
place_at p at i h = get_or-take 10 (drop at p) i (pos 0) h ∙ get_or-drop at p i (pos 0)
