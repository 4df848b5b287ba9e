-- Lists of bytes: every element is below 256. Assumes nothing.
use Rattle.std.specs.Prelude.{ℕ, ◌<◌, List, ltb, length, get_or}
use Rattle.std.proofs.Common.{ltb-true}
use Rattle.lists.specs.Laws.Alls.{all_of-at}
use Rattle.expression.specs.Bytes.{Bytes}

pub byte-below : (n : ℕ) (s : List ℕ) → n < length s → Bytes s → get_or s n 0 < 256
byte-below n s l h = ltb-true _ 256 (all_of-at (λ b. ltb b 256) s n 0 h l)
