-- What a report wrote, where it is known what the reader has left and what the writer holds. Assumes nothing.
use Rattle.std.specs.Prelude.{List, ℕ, ◌+◌, take, Option, IfSome}
use Rattle.std.specs.Io.KnownBytes.{Appends}
use Rattle.deck.specs.Limits.{limits}
use Rattle.calls.specs.Calls.{check}
use Rattle.calls.specs.Line.{line}

-- the line of the deck that the reader gave, of which one byte more than the longest deck that can pass is read
abbrev pub Reports : Option (List ℕ) → Option (List ℕ) → Option (List ℕ) → Type 0
Reports given before after = IfSome given (λ deck. Appends before after (line (check (take (limits.deck + 1) deck))))
