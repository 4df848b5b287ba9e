-- Laws of what stands at a place of a deck. Assumes nothing.
use Rattle.std.specs.Prelude.{ℕ, ◌+◌, ◌-◌, ◌≤◌, ◌<◌, ◌≡◌, refl, get_or, take}
use Rattle.std.proofs.Math.Path.{sym, ap}
use Rattle.std.proofs.Common.{ap₂, ◌∙◌, subst, arith, add-zero, add-one, length-append, length-drop, drop-drop, drop-cons, get_or-drop}
use mathlib.Core.List.{List, [], ◌∷◌, ◌++◌, append_assoc, flat_map}
use Rattle.std.proofs.Math.ListN.{length, drop, drop_of_length-le}
use Rattle.std.proofs.Math.Seq.{take-append_seam, drop-append_seam}
use Rattle.conversion_bytes.specs.Stands.{stretch, Stands, Listed, Walked}

-- ---- stretches

module _ (s : List ℕ) (at : ℕ) where
  pub stands-long : (x : List ℕ) → Stands s at x → length x ≤ length s - at
  stands-long x p =
      omega (arith, ap length p.1, length-append x p.0, length-drop at s)

  -- one stretch after the other
  pub stands-first : (x y : List ℕ) → Stands s at (x ++ y) → Stands s at x
  stands-first x y p = (y ++ p.0, p.1 ∙ append_assoc x y p.0)

  pub stands-second : (x y : List ℕ) → Stands s at (x ++ y) → Stands s (at + length x) y
  stands-second x y p = (
    p.0,
    sym (drop-drop (length x) at s) ∙ ap (drop (length x)) (p.1 ∙ append_assoc x y p.0) ∙ drop-append_seam x (y ++ p.0),
  )

  stands-take : (x : List ℕ) → Stands s at x → take (length x) (drop at s) ≡ x
  stands-take x p = ap (take (length x)) p.1 ∙ take-append_seam x p.0

  pub stands-head : (b : ℕ) (x : List ℕ) → Stands s at (b ∷ x) → get_or s at 0 ≡ b
  stands-head b x p =
      ap (λ n. get_or s n 0) (sym (add-zero at)) ∙ sym (get_or-drop at s 0 0) ∙ ap (λ l. get_or l 0 0) p.1

  pub stretch-is : (from to : ℕ) (x : List ℕ) → from ≡ at → to ≡ at + length x → Stands s at x → stretch s from to ≡ x
  stretch-is from to x e f p =
      let n : to - from ≡ length x = omega (arith, e, f) in
      ap₂ (λ j k. take j (drop k s)) n e ∙ stands-take x p

-- ---- one thing of a list after the other

module _ {A : Type 0} (f : A → List ℕ) (s : List ℕ) (at n : ℕ) (l : List A) where
  pub walked_none : Listed f s at n l → Walked f s at n l at 0
  walked_none w = record { count = w.count; stands = w.stands; ends = refl }

  module _ (place i : ℕ) (z : A) (w : Walked f s at n l place i) where
    cut : i < n → flat_map f (drop i l) ≡ f (get_or l i z) ++ flat_map f (drop (i + 1) l)
    unfolding flat_map
    cut h =
        ap (flat_map f) (drop-cons l i z (omega (arith, w.count))) ∙ ap (λ k. f (get_or l i z) ++ flat_map f (drop k l)) (sym (add-one i))

    -- the next thing, and what is left behind it
    pub walked_here : i < n → Stands s place (f (get_or l i z))
    walked_here h = stands-first s place (f (get_or l i z)) (flat_map f (drop (i + 1) l)) (subst (Stands s place) (cut h) w.stands)

    pub walked_next : (next : ℕ) → next ≡ place + length (f (get_or l i z)) → i < n → Walked f s at n l next (i + 1)
    walked_next next e h =
        let later : List ℕ = flat_map f (drop (i + 1) l) in
        let behind = stands-second s place (f (get_or l i z)) later (subst (Stands s place) (cut h) w.stands) in
        record {
          count = w.count;
          stands = subst (λ k. Stands s k later) (sym e) behind;
          ends = omega (arith, e, length-append (f (get_or l i z)) later, ap length (cut h), w.ends);
        }

    pub walked_end : n ≤ i → place ≡ at + length (flat_map f l)
    unfolding flat_map
    walked_end h =
        let none : drop i l ≡ [] = drop_of_length-le l {i = i} (omega (arith, w.count)) in
        sym (add-zero place) ∙ ap (λ l. place + length (flat_map f l)) (sym none) ∙ w.ends
