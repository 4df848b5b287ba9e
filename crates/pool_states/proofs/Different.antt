-- Different updates, one more at the end: a pool's, place by place. Assumes nothing.
use Prim.Native.Nat.{ℕ, ◌+◌, ◌*◌, ◌<◌}
use mathlib.Core.Path.{◌≡◌, refl, sym, ap, ap₂, ◌∙◌}
use mathlib.Core.Bool.{Bool, true, false, not, ◌&&◌, ◌||◌}
use mathlib.Core.List.{List, [], ◌∷◌, ◌++◌, map, map-append}
use native.Mathlib.Omega.{arith}
use lib.ListN.{take, drop, take-append-drop}
use lib.IntN.{ℤ}
use borrow.Author.Tests.{not-true}
use Rattle.lists.specs.Lists.{all_of, any_of, eq_z, eq_list}
use Rattle.lists.specs.Laws.Booleans.{and_both, and_left, and_right, or-false-left, not-true→false, contradiction}
use Rattle.lists.specs.Laws.Anys.{any_of-append}
use Rattle.lists.specs.Laws.Statements.{same_test}
use Rattle.pool.specs.Updates.{Update, eq_update, is_among, all_different}
use Rattle.pool.specs.Places.{update_of, well_written, places, updates_of}
use Rattle.pool.proofs.Laws.Equal.{update-true, update-refl, numbers-among}
use Rattle.pool_index.specs.Laws.Front.{take-map, places-take, places-end}

equal-sym : (u w : Update) → eq_update u w ≡ eq_update w u
equal-sym u w = same_test (eq_update u w) (eq_update w u) (turned u w) (turned w u)
  where
    turned : (u w : Update) → eq_update u w ≡ true → eq_update w u ≡ true
    turned u w t = ap (λ x. eq_update w x) (update-true u w t) ∙ update-refl w

-- one more at the end
different-end : (us : List Update) (u : Update) → all_different (us ++ u ∷ []) ≡ (all_different us && not (is_among u us))
unfolding all_different is_among any_of
different-end [] u = refl
different-end (w ∷ us) u =
    ap₂ (λ a d. not a && d) (any_of-append (eq_update w) us (u ∷ [])) (different-end us u)
    ∙ ap (λ e. not (is_among w us || (e || false)) && (all_different us && not (is_among u us))) (equal-sym w u)
    ∙ go (is_among w us) (eq_update u w) (all_different us)
  where
    go : (a e d : Bool) → (not (a || (e || false)) && (d && not (is_among u us))) ≡ (not a && d && not (e || is_among u us))
    go true e d = refl
    go false true true = refl
    go false true false = refl
    go false false d = refl

different-front : (us ws : List Update) → all_different (us ++ ws) ≡ true → all_different us ≡ true
unfolding all_different is_among
different-front [] ws h = refl
different-front (u ∷ us) ws h =
    let other = not-true (is_among u (us ++ ws)) (and_left (not (is_among u (us ++ ws))) (all_different (us ++ ws)) h) in
    and_both
    (ap not (or-false-left (is_among u us) (is_among u ws) (sym (any_of-append (eq_update u) us ws) ∙ other)))
    (different-front us ws (and_right (not (is_among u (us ++ ws))) (all_different (us ++ ws)) h))

-- ---- the updates of a pool

module _ (pool : List ℤ) (k : ℕ) where
  abbrev pub here : List ℤ
  here = take 10 (drop (10 * k) pool)

  abbrev before : Bool
  before = any_of (λ w. eq_list eq_z w here) (places k pool)

  pub updates-end : updates_of (k + 1) pool ≡ updates_of k pool ++ update_of here ∷ []
  unfolding updates_of
  updates-end = ap (map update_of) (places-end k pool) ∙ map-append update_of (places k pool) (here ∷ [])

  pub different-next : all_of well_written (places k pool) ≡ true → well_written here ≡ true
      → all_different (updates_of (k + 1) pool) ≡ (all_different (updates_of k pool) && not before)
  unfolding updates_of
  different-next front w =
      ap all_different updates-end
      ∙ different-end (updates_of k pool) (update_of here)
      ∙ ap (λ b. all_different (updates_of k pool) && not b) (sym (numbers-among here w (places k pool) front))

-- the first updates of all
module _ (pool : List ℤ) (n k : ℕ) (l : k < n) where
  updates-front : updates_of n pool ≡ updates_of (k + 1) pool ++ drop (k + 1) (updates_of n pool)
  unfolding updates_of
  updates-front =
      sym (take-append-drop (k + 1) (updates_of n pool))
      ∙ ap (λ us. us ++ drop (k + 1) (updates_of n pool))
      (take-map update_of (k + 1) (places n pool) ∙ ap (map update_of) (places-take (k + 1) n pool (omega arith)))

  pub different-stop : all_different (updates_of (k + 1) pool) ≡ false → all_different (updates_of n pool) ≡ false
  different-stop f = not-true→false (all_different (updates_of n pool)) stops
    where
      stops : all_different (updates_of n pool) ≡ true → ⊥
      stops t =
          let front =
          different-front (updates_of (k + 1) pool) (drop (k + 1) (updates_of n pool)) (ap all_different (sym updates-front) ∙ t) in
          contradiction front f
