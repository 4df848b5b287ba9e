-- Text put into a buffer. Assumes nothing.
use Rattle.std.specs.Prelude.{ℕ, ◌+◌, ◌≡◌, List, ◌++◌, length, take}

-- a text put at a place: up to the place after it the buffer has what stood before it, and then the text
pub record Put (before : List ℕ) (at : ℕ) (text after : List ℕ) (end : ℕ) : Type 0 where
  pub has : take end after ≡ take at before ++ text
  pub ends : end ≡ at + length text
