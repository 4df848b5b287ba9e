-- The first places of a pool, cut at a place. Assumes nothing.
use Rattle.std.specs.Prelude.{ℕ, zero, suc, ◌+◌, ◌*◌, ◌≤◌, ◌<◌, ◌≡◌, refl, List, [], ◌∷◌, ◌++◌, map, length, take, drop, get_or, ℤ}
use Rattle.std.proofs.Common.{ap, ◌∙◌, le_of_suc-le-suc, add-one, arith, drop-drop}
use Rattle.pool.specs.Places.{places}

pub take-map : {A B : Type 0} (f : A → B) (n : ℕ) (l : List A) → take n (map f l) ≡ map f (take n l)
take-map f zero l = refl
take-map f (suc n) [] = refl
take-map f (suc n) (x ∷ l) = ap (λ m. f x ∷ m) (take-map f n l)

pub places-length : (n : ℕ) (pool : List ℤ) → length (places n pool) ≡ n
unfolding places
places-length zero pool = refl
places-length (suc n) pool = ap suc (places-length n (drop 10 pool))

pub places-take : (j n : ℕ) (pool : List ℤ) → j ≤ n → take j (places n pool) ≡ places j pool
unfolding places
places-take zero n pool h = refl
places-take (suc j) zero pool h = absurd (omega arith)
places-take (suc j) (suc n) pool h = ap (λ l. take 10 pool ∷ l) (places-take j n (drop 10 pool) (le_of_suc-le-suc h))

place-behind : (j : ℕ) (pool : List ℤ) → drop (10 * j) (drop 10 pool) ≡ drop (10 * suc j) pool
place-behind j pool =
    let e : 10 + 10 * j ≡ 10 * suc j = omega arith in
    drop-drop (10 * j) 10 pool ∙ ap (λ i. drop i pool) e

pub places-at : (n j : ℕ) (pool : List ℤ) → j < n → get_or (places n pool) j [] ≡ take 10 (drop (10 * j) pool)
unfolding places
places-at zero j pool h = absurd (omega arith)
places-at (suc n) zero pool h = refl
places-at (suc n) (suc j) pool h =
    places-at n j (drop 10 pool) (le_of_suc-le-suc h) ∙ ap (take 10) (place-behind j pool)

-- one more at the end
places-more : (n : ℕ) (pool : List ℤ) → places (suc n) pool ≡ places n pool ++ take 10 (drop (10 * n) pool) ∷ []
unfolding places
places-more zero pool = refl
places-more (suc n) pool =
    ap (λ l. take 10 pool ∷ l) (places-more n (drop 10 pool))
    ∙ ap (λ l. take 10 pool ∷ (places n (drop 10 pool) ++ l ∷ [])) (ap (take 10) (place-behind n pool))

pub places-end : (n : ℕ) (pool : List ℤ) → places (n + 1) pool ≡ places n pool ++ take 10 (drop (10 * n) pool) ∷ []
places-end n pool = ap (λ m. places m pool) (add-one n) ∙ places-more n pool
