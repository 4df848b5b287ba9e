-- Updates that are written into places are read back as they were. Assumes nothing.
use Rattle.std.specs.Prelude.{ℕ, ◌*◌, ◌-◌, ◌≤◌, ◌≡◌, true, length, take, drop, replicate, ℤ, pos}
use Rattle.std.proofs.Math.Path.{refl, ap, ap₂}
use Rattle.std.proofs.Common.{◌∙◌, arith, length-append, drop_at, leb-true}
use mathlib.Core.List.{List, [], ◌∷◌, ◌++◌, map, append_assoc, flat_map}
use Rattle.std.proofs.lemmas.List.{length-replicate}
use Rattle.std.proofs.Math.Seq.{take_at}
use Rattle.lists.specs.Lists.{lists, all_of, eq_z, eq_list}
use Rattle.lists.specs.Laws.Alls.{all_of-head, all_of-tail}
use Rattle.lists.specs.Laws.Equalities.{eq_z-refl, eq_list-refl}
use Rattle.pool.specs.Updates.{Pair, Update}
use Rattle.pool.specs.Places.{zeros, place, pool_of, pairs_of, update_of, well_written, places, updates_of, pools}
use Rattle.pool.specs.Fine.{short}

-- a pair as it is written
abbrev numbers : Pair → List ℤ
numbers a = pos a.channel ∷ a.value ∷ []

pairs-back : (l : List Pair) (z : List ℤ) → take (length l) (pairs_of (flat_map numbers l ++ z)) ≡ l
unfolding lists pools
pairs-back [] z = refl
pairs-back (a ∷ l) z = ap (λ m. a ∷ m) (pairs-back l z)

pub update-back : (u : Update) → update_of (place u) ≡ u
unfolding pools
update-back u = ap (λ l. record { part = u.part; pairs = l }) (pairs-back u.pairs (zeros (2 * (4 - length u.pairs))))

pub numbers-length : (l : List Pair) → length (flat_map numbers l) ≡ 2 * length l
unfolding lists
numbers-length [] = refl
numbers-length (a ∷ l) = let e = numbers-length l in omega arith

pub place-length : (u : Update) → short u ≡ true → length (place u) ≡ 10
unfolding pools short
place-length u h =
    let m = leb-true (length u.pairs) 4 h in
    let a = length-append (flat_map numbers u.pairs) (replicate (2 * (4 - length u.pairs)) (pos 0)) in
    let b = numbers-length u.pairs in
    let c = length-replicate (2 * (4 - length u.pairs)) (pos 0) in
    omega arith

-- a place that was written is well written
pub place-well : (u : Update) → well_written (place u) ≡ true
unfolding well_written
place-well u = ap (λ w. eq_list eq_z (place w) (place u)) (update-back u) ∙ eq_list-refl eq_z eq_z-refl (place u)

pub map_back : (us : List Update) → map update_of (map place us) ≡ us
map_back [] = refl
map_back (u ∷ us) = ap₂ (λ a b. a ∷ b) (update-back u) (map_back us)

module _ (z : List ℤ) where
  pub places-back : (us : List Update) → all_of short us ≡ true → places (length us) (flat_map place us ++ z) ≡ map place us
  unfolding lists places
  places-back [] h = refl
  places-back (u ∷ us) h =
      let l = place-length u (all_of-head short u us h) in
      let e = append_assoc (place u) (flat_map place us) z in
      ap₂ (λ a b. a ∷ b)
      (ap (take 10) e ∙ take_at (place u) (flat_map place us ++ z) 10 l)
      (ap (λ s. places (length us) (drop 10 s)) e
      ∙ ap (places (length us)) (drop_at (place u) (flat_map place us ++ z) 10 l)
      ∙ places-back us (all_of-tail short u us h))

  pub updates-back : (us : List Update) → all_of short us ≡ true → updates_of (length us) (flat_map place us ++ z) ≡ us
  unfolding updates_of
  updates-back us h = ap (map update_of) (places-back us h) ∙ map_back us

pub places-length : (us : List Update) → all_of short us ≡ true → length (flat_map place us) ≡ 10 * length us
unfolding lists
places-length [] h = refl
places-length (u ∷ us) h =
    let a = length-append (place u) (flat_map place us) in
    let b = place-length u (all_of-head short u us h) in
    let c = places-length us (all_of-tail short u us h) in
    omega arith

pub pool-length : (n : ℕ) (us : List Update) → all_of short us ≡ true → 10 * length us ≤ n → length (pool_of n us) ≡ n
unfolding pool_of zeros
pool-length n us h m =
    let a = length-append (flat_map place us) (replicate (n - 10 * length us) (pos 0)) in
    let b = places-length us h in
    let c = length-replicate (n - 10 * length us) (pos 0) in
    omega arith
