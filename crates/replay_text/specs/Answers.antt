-- The text of each answer, without its newline: docs/FORMAT.md, "The text of calls". Assumes nothing.
use Rattle.std.specs.Prelude.{ℕ, ℤ, List, ◌++◌, codes}
use Rattle.std.specs.Fmt.{decimal, signed_decimal}
use Rattle.refusals.specs.Declined.{number_of}
use Rattle.refusals.specs.declared.Declined.{Declined}
use Rattle.replay_text.specs.declared.answers.Answer.{Answer}
use Rattle.replay_text.specs.declared.answers.Answer.TheVariants as Of

-- a number, and two of them, with a space between
abbrev pub two : ℕ → ℕ → List ℕ
two n m = decimal n ++ codes " " ++ decimal m

abbrev pub entry : ℕ → ℤ → List ℕ
entry index value = decimal index ++ codes " " ++ signed_decimal value

abbrev pub text_of : Answer → List ℕ
text_of Of.Unreadable = codes "unreadable"
text_of Of.Started = codes "started"
text_of (Of.Added charge) = codes "added " ++ decimal charge
text_of (Of.Applied charge) = codes "applied " ++ decimal charge
text_of (Of.Discarded charge) = codes "discarded " ++ decimal charge
text_of (Of.Settled commits) = codes "settled " ++ decimal commits
text_of (Of.Spent commits) = codes "spent " ++ decimal commits
text_of (Of.Section from to) = codes "section " ++ two from to
text_of (Of.Converted length) = codes "converted " ++ decimal length
text_of (Of.Refused number place) = codes "refused " ++ two number place
text_of (Of.Buffer index byte) = codes "buffer " ++ two index byte
text_of (Of.Pending pending) = codes "pending " ++ decimal pending
text_of (Of.Value index value) = codes "value " ++ entry index value
text_of (Of.Pool index value) = codes "pool " ++ entry index value

-- with its newline
abbrev pub line_of : Answer → List ℕ
line_of a = text_of a ++ codes "\n"

-- what a call that declines answers
abbrev pub refusal_of : Declined → Answer
refusal_of why = Of.Refused (number_of why.refusal) why.place
