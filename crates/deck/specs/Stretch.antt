-- Document 01, "hands back the stretch of the caller's deck": where a stretch lies in memory. Assumes nothing.
use Rattle.std.specs.Prelude.{ℕ, ◌+◌, ◌≡◌}

-- the stretch is in the deck's own block of memory and begins n bytes behind the deck's first; each of the two is given by
-- its block and the offset in it
pub record LiesAt (deck stretch : ℕ × ℕ) (from : ℕ) : Type 0 where
  pub block : stretch.0 ≡ deck.0
  pub offset : stretch.1 ≡ deck.1 + from
