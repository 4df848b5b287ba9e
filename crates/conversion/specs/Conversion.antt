-- Document 02, Req 03: the seventh call. It is given an old deck and a buffer, and hands back its answer and what the buffer then
-- holds. Assumes nothing.
use Rattle.std.specs.Prelude.{ℕ, List, ◌++◌, leb, length, drop, Result, Ok, Err}
use Rattle.refusals.specs.Outcome.{Outcome, refused, accepted, ◌>>=◌, ◌>>◌, require}
use Rattle.refusals.specs.Numbers.{too_many_rules, buffer_too_short}
use Rattle.refusals.specs.Declined.{decline_outcome}
use Rattle.refusals.specs.declared.Declined.{Declined}
use Rattle.deck.specs.declared.Form.TheVariants.{Old}
use Rattle.deck.specs.Limits.{limits}
use Rattle.deck.specs.Deck.{M}
use Rattle.deck.specs.Encoding.{encode}
use Rattle.passing.specs.Check.{passing}
use Rattle.conversion.specs.Converted.{converted}

-- the new deck's bytes, for a buffer of as many as `room`: "takes only decks the old check passed, refuses others with that check's
-- number and place", then "with 21 when more than 64 rules result and then with 22 when the buffer is too short"
unfoldable pub conversion : List ℕ → ℕ → Outcome (List ℕ)
conversion bytes room = do
  l ← passing Old bytes
  let new = converted l.deck
  require (leb (M new) limits.rules) too_many_rules 0
  require (leb (length (encode new)) room) buffer_too_short 0
  accepted (encode new)

-- the length, or a refusal; and what the buffer then holds
pub record Reply : Type 0 where
  pub answer : Outcome ℕ
  pub buffer : List ℕ

-- "writes to the front of a lent buffer, the rest unchanged, and returns the length"; a refusal changes no lent memory
unfoldable pub reply : List ℕ → Outcome (List ℕ) → Reply
reply buffer (refused n p) = record { answer = refused n p; buffer = buffer }
reply buffer (accepted new) = record { answer = accepted (length new); buffer = new ++ drop (length new) buffer }

unfoldable pub convert : List ℕ → List ℕ → Reply
convert bytes buffer = reply buffer (conversion bytes (length buffer))

-- what the code's answer stands for, with the buffer: the new deck's length, or why the call declines
abbrev pub convert_outcome : Result ℕ Declined → Outcome ℕ
convert_outcome (Ok length) = accepted length
convert_outcome (Err d) = decline_outcome d

abbrev pub reply_of : Outcome ℕ → List ℕ → Reply
reply_of answer buffer = record { answer = answer; buffer = buffer }

-- to open all definitions of this file, on an `unfolding` line
unfoldable pub conversions : Unit {0}
unfolding conversion reply convert
conversions = tt
