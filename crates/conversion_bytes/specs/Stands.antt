-- What stands at a place of a deck. Assumes nothing.
use Rattle.std.specs.Prelude.{ℕ, ◌+◌, ◌-◌, ◌≡◌, length, take, drop}
use mathlib.Core.List.{List, ◌++◌, flat_map}

-- the bytes from one place to another
abbrev pub stretch : List ℕ → ℕ → ℕ → List ℕ
stretch s from to = take (to - from) (drop from s)

-- these bytes stand at a place, and others behind them
abbrev pub Stands : List ℕ → ℕ → List ℕ → Type 0
Stands s at bytes = (rest : List ℕ) × (drop at s ≡ bytes ++ rest)

-- a list of n things stands at a place, each as its bytes
pub record Listed {A : Type 0} (f : A → List ℕ) (s : List ℕ) (at n : ℕ) (l : List A) : Type 0 where
  pub count : n ≡ length l
  pub stands : Stands s at (flat_map f l)

-- i of them end at a second place, and the others stand there
pub record Walked {A : Type 0} (f : A → List ℕ) (s : List ℕ) (at n : ℕ) (l : List A) (place i : ℕ) : Type 0 where
  pub count : n ≡ length l
  pub stands : Stands s place (flat_map f (drop i l))
  pub ends : place + length (flat_map f (drop i l)) ≡ at + length (flat_map f l)
