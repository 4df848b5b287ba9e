-- The flat tables of a deck, with sets as numbers: rows of eight numbers for the rules, rows of four for the parts. What
-- else a row holds plays no role here. Assumes nothing.
use Rattle.std.specs.Prelude.{ℕ, ◌+◌, ◌*◌, ◌<◌, ◌≤◌, ◌≡◌, true, List, get_or}
use Rattle.lists.specs.Lists.{member}
use Rattle.lists.specs.Bits.{mask_of}
use Rattle.deck.specs.Deck.{Deck, R, M, rule_at, part_at, targets}
use Rattle.deck.specs.Encoding.{kind_byte}

pub record TablesOf (d : Deck) (rules parts : List ℕ) : Type 0 where
  pub events : (r : ℕ) → get_or rules (8 * r) 0 ≡ mask_of (rule_at d r).events
  pub default : (r : ℕ) → get_or rules (8 * r + 1) 0 ≡ mask_of (targets (rule_at d r).default)
  pub action : (r : ℕ) → get_or rules (8 * r + 2) 0 ≡ mask_of (targets (rule_at d r).action)
  pub kind : (r : ℕ) → get_or rules (8 * r + 3) 0 ≡ kind_byte (rule_at d r).everywhere
  pub carried : (p : ℕ) → get_or parts (4 * p) 0 ≡ mask_of (part_at d p).carried

-- channels and rules are known, and few enough for the bits of a mask
pub record Ranged (d : Deck) : Type 0 where
  pub channels : R d ≤ 32
  pub rules : M d ≤ 64
  pub events : (r c : ℕ) → member c (rule_at d r).events ≡ true → c < R d
  pub default : (r c : ℕ) → member c (targets (rule_at d r).default) ≡ true → c < R d
  pub action : (r c : ℕ) → member c (targets (rule_at d r).action) ≡ true → c < R d
  pub carried : (p r : ℕ) → member r (part_at d p).carried ≡ true → r < M d
