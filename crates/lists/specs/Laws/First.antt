-- Laws of the first number of a list: how a search finds the lowest number that passes a test. Assumes nothing.
use Rattle.std.specs.Prelude.{ℕ, ◌≤◌, ◌<◌, ◌≡◌, refl, Bool, true, false, List, [], ◌∷◌}
use Rattle.std.proofs.Common.{ap, arith}
use Rattle.std.proofs.Math.Decide.{dec_lt}
use Rattle.lists.specs.Lists.{select, below, first_or}
use Rattle.lists.specs.Laws.Booleans.{contradiction}
use Rattle.lists.specs.Laws.Below.{none_below, select-first}

-- a number that passes, with none below it; n where none passes
pub first-is : (f : ℕ → Bool) (n r : ℕ) → r ≤ n → (r < n → f r ≡ true) → ((k : ℕ) → k < r → f k ≡ false)
    → r ≡ first_or n (select f (below n))
unfolding first_or
first-is f n r le found before = go (select f (below n)) refl
  where
    -- c is the first that passes
    same : (c : ℕ) (cs : List ℕ) → select f (below n) ≡ c ∷ cs → Dec (r < c) → Dec (c < r) → r ≡ c
    same c cs e (yes l) m = let first = select-first f n c cs e in contradiction (found (omega arith)) (first.2 r l)
    same c cs e (no l) (yes m) = contradiction (select-first f n c cs e).0 (before c m)
    same c cs e (no l) (no m) = omega arith

    none : select f (below n) ≡ [] → Dec (r < n) → r ≡ n
    none e (yes l) = contradiction (found l) ((none_below f n).0 e r l)
    none e (no l) = omega arith

    go : (l : List ℕ) → select f (below n) ≡ l → r ≡ first_or n l
    go [] e = none e (dec_lt r n)
    go (c ∷ cs) e = same c cs e (dec_lt r c) (dec_lt c r)

-- the search found none
pub first-none : (f : ℕ → Bool) (n : ℕ) → first_or n (select f (below n)) ≡ n → select f (below n) ≡ []
unfolding first_or
first-none f n h = go (select f (below n)) refl h
  where
    go : (l : List ℕ) → select f (below n) ≡ l → first_or n l ≡ n → select f (below n) ≡ []
    go [] e h = e
    go (c ∷ cs) e h = absurd (omega (arith, (select-first f n c cs e).1))

-- the search found one, which begins the list
pub first_found : (n p : ℕ) (l : List ℕ) → first_or n l ≡ p → p < n → (ps : List ℕ) × (l ≡ p ∷ ps)
unfolding first_or
first_found n p [] e h = absurd (omega arith)
first_found n p (x ∷ xs) e h = (xs, ap (λ y. y ∷ xs) e)
