-- Helpers on lists and numbers that the definitions use. Every test is a Bool, so that it computes. Assumes nothing.
use Rattle.std.specs.Prelude.{ℕ, zero, suc, ◌+◌, max, Bool, true, false, not, ◌&&◌, ◌||◌, eqb, ℤ, pos, negsuc}
use mathlib.Core.List.{List, [], ◌∷◌, flat_map}

-- the test holds for every element; for some element
unfoldable pub all_of : {A : Type 0} → (A → Bool) → List A → Bool
all_of f [] = true
all_of f (x ∷ xs) = f x && all_of f xs

unfoldable pub any_of : {A : Type 0} → (A → Bool) → List A → Bool
any_of f [] = false
any_of f (x ∷ xs) = f x || any_of f xs

-- the elements that pass the test, in their order. One recursive call, since both arms of a test are computed
unfoldable pub keep : {A : Type 0} → Bool → A → List A → List A
keep true x xs = x ∷ xs
keep false x xs = xs

unfoldable pub select : {A : Type 0} → (A → Bool) → List A → List A
select f [] = []
select f (x ∷ xs) = keep (f x) x (select f xs)

-- the sum, and the largest, of f over a list; 0 for the empty one
unfoldable pub sum_of : {A : Type 0} → (A → ℕ) → List A → ℕ
sum_of f [] = 0
sum_of f (x ∷ xs) = f x + sum_of f xs

unfoldable pub largest : {A : Type 0} → (A → ℕ) → List A → ℕ
largest f [] = 0
largest f (x ∷ xs) = max (f x) (largest f xs)

-- the first number of a list, or n where it has none
unfoldable pub first_or : ℕ → List ℕ → ℕ
first_or n [] = n
first_or n (x ∷ xs) = x

unfoldable pub is_empty : {A : Type 0} → List A → Bool
is_empty [] = true
is_empty (x ∷ xs) = false

-- n numbers, rising by one from a on; the numbers below n
unfoldable pub from : ℕ → ℕ → List ℕ
from a zero = []
from a (suc n) = a ∷ from (suc a) n

unfoldable pub below : ℕ → List ℕ
below n = from 0 n

unfoldable pub member : ℕ → List ℕ → Bool
member x xs = any_of (eqb x) xs

-- no number stands twice
unfoldable pub distinct : List ℕ → Bool
distinct [] = true
distinct (x ∷ xs) = not (member x xs) && distinct xs

-- two whole numbers are equal; two lists are, by a test of their elements
unfoldable pub eq_z : ℤ → ℤ → Bool
eq_z (pos a) (pos b) = eqb a b
eq_z (pos a) (negsuc b) = false
eq_z (negsuc a) (pos b) = false
eq_z (negsuc a) (negsuc b) = eqb a b

unfoldable pub eq_list : {A : Type 0} → (A → A → Bool) → List A → List A → Bool
eq_list f [] [] = true
eq_list f [] (y ∷ ys) = false
eq_list f (x ∷ xs) [] = false
eq_list f (x ∷ xs) (y ∷ ys) = f x y && eq_list f xs ys

-- to open all definitions of this file, on an `unfolding` line
unfoldable pub lists : Unit {0}
unfolding all_of any_of keep select flat_map sum_of largest first_or is_empty from below member distinct eq_z eq_list
lists = tt
