-- A refusal's number is one of the list in the converter too. Assumes nothing.
use Rattle.std.specs.Prelude.{ℕ, refl, List, length}
use Rattle.refusals.specs.Outcome.{Outcome, refused, accepted}
use Rattle.refusals.specs.Numbers.{too_many_rules, buffer_too_short}
use Rattle.deck.specs.declared.Form.TheVariants.{Old}
use Rattle.passing.specs.Check.{passing}
use Rattle.calls.proofs.Laws.Numbered.{Numbered, answers, refuses, listed, then-numbered, after-numbered, require-numbered, passing-numbered}
use Rattle.conversion.specs.Conversion.{conversion, reply, convert}

conversion-numbered : (bytes : List ℕ) (room : ℕ) → Numbered (conversion bytes room)
unfolding conversion
conversion-numbered bytes room =
    then-numbered (passing Old bytes) _ (passing-numbered Old bytes) (λ l.
    after-numbered _ _ (require-numbered _ too_many_rules 0 (listed _ refl))
    (after-numbered _ _ (require-numbered _ buffer_too_short 0 (listed _ refl)) (answers _)))

reply-numbered : (buffer : List ℕ) (o : Outcome (List ℕ)) → Numbered o → Numbered (reply buffer o).answer
unfolding reply
reply-numbered buffer (accepted new) x = answers (length new)
reply-numbered buffer (refused n p) (refuses l) = refuses l

pub convert-numbered : (bytes buffer : List ℕ) → Numbered (convert bytes buffer).answer
unfolding convert
convert-numbered bytes buffer = reply-numbered buffer _ (conversion-numbered bytes (length buffer))
