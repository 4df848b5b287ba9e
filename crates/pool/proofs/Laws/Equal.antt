-- Equal updates: the test holds exactly for equal ones, and for the numbers of places that are well written. Assumes nothing.
use Rattle.std.specs.Prelude.{◌≡◌, true, ◌||◌, eqb, ℤ}
use Rattle.std.proofs.Math.Path.{refl, ap₂}
use Rattle.std.proofs.Common.{sym, ◌∙◌, ap, eqb-true, eq-eqb}
use mathlib.Core.List.{List, [], ◌∷◌, map}
use Rattle.lists.specs.Lists.{lists, all_of, any_of, eq_z, eq_list}
use Rattle.lists.specs.Laws.Booleans.{and_both, and_left, and_right}
use Rattle.lists.specs.Laws.Alls.{all_of-head, all_of-tail}
use Rattle.lists.specs.Laws.Equalities.{eq_z-true, eq_z-refl, eq_list-true, eq_list-refl}
use Rattle.lists.specs.Laws.Statements.{same_test}
use Rattle.pool.specs.Updates.{Pair, Update, eq_pair, eq_update, is_among}
use Rattle.pool.specs.Places.{place, update_of, well_written}
use Rattle.pool.proofs.Laws.Good.{written_same}

pair-true : (a b : Pair) → eq_pair a b ≡ true → a ≡ b
unfolding eq_pair
pair-true a b h =
    let same = eqb a.channel b.channel in
    ap₂ (λ c v. record { channel = c; value = v })
    (eqb-true a.channel b.channel (and_left same _ h))
    (eq_z-true a.value b.value (and_right same _ h))

pair-refl : (a : Pair) → eq_pair a a ≡ true
unfolding eq_pair
pair-refl a = and_both (eq-eqb a.channel a.channel refl) (eq_z-refl a.value)

pub update-true : (u w : Update) → eq_update u w ≡ true → u ≡ w
unfolding eq_update
update-true u w h =
    let same = eqb u.part w.part in
    ap₂ (λ p l. record { part = p; pairs = l })
    (eqb-true u.part w.part (and_left same (eq_list eq_pair u.pairs w.pairs) h))
    (eq_list-true eq_pair pair-true u.pairs w.pairs (and_right same (eq_list eq_pair u.pairs w.pairs) h))

pub update-refl : (u : Update) → eq_update u u ≡ true
unfolding eq_update
update-refl u = and_both (eq-eqb u.part u.part refl) (eq_list-refl eq_pair pair-refl u.pairs)

-- ---- numbers

module _ (l : List ℤ) (h : well_written l ≡ true) where
  equal-numbers : (w : List ℤ) → well_written w ≡ true → eq_list eq_z w l ≡ eq_update (update_of l) (update_of w)
  equal-numbers w g =
      same_test (eq_list eq_z w l) (eq_update (update_of l) (update_of w))
      (λ t. ap (λ x. eq_update (update_of l) (update_of x)) (eq_list-true eq_z eq_z-true w l t) ∙ update-refl (update_of l))
      (λ t. ap (λ x. eq_list eq_z x l) (numbers w g (update-true (update_of l) (update_of w) t)) ∙ eq_list-refl eq_z eq_z-refl l)
    where
      numbers : (w : List ℤ) → well_written w ≡ true → update_of l ≡ update_of w → w ≡ l
      numbers w g e = sym (written_same w g) ∙ ap place (sym e) ∙ written_same l h

  -- a place with these numbers is a place with this update
  pub numbers-among : (ls : List (List ℤ)) → all_of well_written ls ≡ true
      → any_of (λ w. eq_list eq_z w l) ls ≡ is_among (update_of l) (map update_of ls)
  unfolding is_among lists
  numbers-among [] g = refl
  numbers-among (w ∷ ls) g =
      ap₂ (λ a b. a || b) (equal-numbers w (all_of-head well_written w ls g)) (numbers-among ls (all_of-tail well_written w ls g))
