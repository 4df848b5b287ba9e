-- A capped sum that a loop adds up, over a memo that stays right. Assumes nothing.
use Prim.Native.Nat.{ℕ, ◌+◌, ◌≤◌}
use mathlib.Core.Path.{◌≡◌, ap, ◌∙◌}
use mathlib.Core.List.{List}
use native.Mathlib.Omega.{arith}
use Rattle.lists.specs.Lists.{sum_of, below}
use Rattle.lists.specs.Laws.Steps.{sum_of-start, sum_of-next}
use Rattle.deck.specs.Deck.{Deck}
use Rattle.charge.specs.Memo.{Answered, capped}

pub same : {d : Deck} {x y : ℕ} {m : List ℕ} {s : ℕ} → Answered d x m s → x ≡ y → Answered d y m s
same h e = record { value = h.value ∙ ap capped e; memo = h.memo }

pub small : {d : Deck} {x : ℕ} {m : List ℕ} {s : ℕ} → Answered d x m s → s ≤ 65536
small h = omega (arith, h.value)

pub plus : {d : Deck} {x y : ℕ} {m n : List ℕ} {s z t : ℕ} → Answered d x m s → Answered d y n z → t ≡ capped (s + z)
    → Answered d (x + y) n t
plus h c e = record { value = e ∙ (let a = h.value in let b = c.value in omega arith); memo = c.memo }

-- to x the terms of f below k are added
pub record Summing (d : Deck) (x : ℕ) (f : ℕ → ℕ) (m : List ℕ) (s k : ℕ) : Type 0 where
  pub so_far : Answered d (x + sum_of f (below k)) m s

module _ {d : Deck} {x : ℕ} {f : ℕ → ℕ} {m : List ℕ} {s : ℕ} where
  pub none_yet : Answered d x m s → Summing d x f m s 0
  none_yet h = record { so_far = same h (omega (arith, sum_of-start f)) }

  module _ {k : ℕ} (h : Summing d x f m s k) where
    pub skip : f k ≡ 0 → Summing d x f m s (k + 1)
    skip e = record { so_far = same h.so_far (omega (arith, sum_of-next f k, e)) }

    pub more : {y z t : ℕ} {n : List ℕ} → f k ≡ y → Answered d y n z → t ≡ capped (s + z) → Summing d x f n t (k + 1)
    more q c e = record { so_far = same (plus h.so_far c e) (omega (arith, sum_of-next f k, q)) }
