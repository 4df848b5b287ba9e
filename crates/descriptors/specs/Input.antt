-- What is known of a read: how many bytes it put at the start of the buffer, and, where it is known what the reader has left, which bytes
-- they are. Assumes nothing.
use Rattle.std.specs.Prelude.{List, ℕ, ◌≤◌, ◌<◌, ◌≡◌, length, take, Option, Ok, Err}
use Rattle.std.specs.Io.KnownBytes.{Consumes, IsAtEnd, Keeps}
use Rattle.std.specs.declared.result.Result.{Result}
use Rattle.descriptors.specs.Counts.{IsPrefixLen}

abbrev pub Within : {E : Type 0} → Result ℕ E → List ℕ → Type 0
Within (Ok n) bytes = IsPrefixLen n bytes
Within (Err why) bytes = Unit {0}

-- one read: the reader gave the bytes at the start of the buffer, none only at its end or into an empty buffer; where it failed, none
abbrev pub Gives : {E : Type 0} → Option (List ℕ) → Option (List ℕ) → Result ℕ E → List ℕ → Type 0
Gives before after (Ok n) bytes = Consumes before after (take n bytes) × (n ≡ 0 → 0 < length bytes → IsAtEnd after)
Gives before after (Err why) bytes = Keeps before after

-- reads until the buffer is full: fewer bytes than it holds only where the reader has no more; where it failed, some of them
abbrev pub GivesAll : {E : Type 0} → Option (List ℕ) → Option (List ℕ) → Result ℕ E → List ℕ → Type 0
GivesAll before after (Ok n) bytes = Consumes before after (take n bytes) × (n < length bytes → IsAtEnd after)
GivesAll before after (Err why) bytes = (n : ℕ) × (n ≤ length bytes) × Consumes before after (take n bytes)
