-- What the program writes to standard output. Assumes nothing.
use Rattle.std.specs.Prelude.{ℕ, ◌+◌, ◌≡◌, List, [], take, Option, IfSome, Result, Ok, Err}
use Rattle.std.specs.Io.KnownBytes.{Appends}
use Rattle.refusals.specs.Outcome.{Outcome, refused, accepted}
use Rattle.refusals.specs.declared.Declined.{Declined}
use Rattle.deck.specs.Limits.{limits}
use Rattle.conversion.specs.Conversion.{conversion}

-- the new deck's bytes, or nothing where there is none
abbrev pub bytes_of : Outcome (List ℕ) → List ℕ
bytes_of (refused number place) = []
bytes_of (accepted new) = new

-- for an old deck, with as much room as the longest new deck needs
abbrev pub written : List ℕ → List ℕ
written deck = bytes_of (conversion deck limits.deck)

-- where it is known what the reader has left and what the writer holds: of a deck one byte more than the longest old deck is read
abbrev pub Writes : Option (List ℕ) → Option (List ℕ) → Option (List ℕ) → Type 0
Writes given before after = IfSome given (λ deck. Appends before after (written (take (limits.old + 1) deck)))

-- the code's answer, with what the buffer holds then: its front is what is to be written
abbrev pub Holds : Result ℕ Declined → List ℕ → Outcome (List ℕ) → Type 0
Holds (Ok length) buffer made = take length buffer ≡ bytes_of made
Holds (Err why) buffer made = bytes_of made ≡ []
