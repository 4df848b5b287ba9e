-- Lists of bytes: every element is below 256. Assumes nothing.
use Rattle.std.specs.Prelude.{ℕ, ◌≡◌, true, List, ltb}
use Rattle.lists.specs.Lists.{all_of}

abbrev pub Bytes : List ℕ → Type 0
Bytes s = all_of (λ b. ltb b 256) s ≡ true
