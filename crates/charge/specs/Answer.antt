-- What the search over the carried rules answers (8). Assumes nothing.
use Rattle.std.specs.Prelude.{ℕ, ◌+◌, ◌*◌, ◌≤◌, ◌<◌, ◌≡◌, true, List, [], ◌∷◌, Result, Ok, Err}
use Rattle.deck.specs.Deck.{Deck, M, N, carries}
use Rattle.charge.specs.Charge.{rule_charge, carried_charges, largest_charge, above_bound}
use Rattle.charge.specs.Memo.{capped}

-- the largest charge, if no place is above the bound; or the first that is, 64 times part + rule
unfoldable pub bound_by : List ℕ → ℕ → Result ℕ ℕ
bound_by [] n = Ok n
bound_by (x ∷ xs) n = Err x

unfoldable pub bound_of : Deck → Result ℕ ℕ
bound_of d = bound_by (above_bound (carried_charges d)) (largest_charge d)

-- best is the largest charge at the places below k
pub record LargestBelow (d : Deck) (k best : ℕ) : Type 0 where
  pub most : (q s : ℕ) → q < N d → s < M d → carries d q s ≡ true → 64 * q + s < k → rule_charge d q s ≤ best
  pub least : best ≤ largest_charge d
  pub fits : best ≤ 65535

-- the search through part p, when the parts before it were passed
abbrev pub PartBound : Deck → ℕ → Result ℕ ℕ → Type 0
PartBound d p (Ok n) = LargestBelow d (64 * (p + 1)) n
PartBound d p (Err k) = Err k ≡ bound_of d

-- best is, up to the cap, the largest charge of the rules below k
pub record LargestOfRules (d : Deck) (k best : ℕ) : Type 0 where
  pub most : (q s : ℕ) → q < N d → s < M d → carries d q s ≡ true → s < k → capped (rule_charge d q s) ≤ best
  pub least : best ≤ capped (largest_charge d)
