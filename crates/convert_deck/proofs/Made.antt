-- The front of the buffer that a conversion leaves is the new deck. Assumes nothing.
use Rattle.std.proofs.Common.{◌≡◌, ℕ, List, refl, sym, ap, ◌∙◌, length, take, drop}
use lib.Seq.{take-append_seam}
use Rattle.std.specs.Prelude.{Result, Ok, Err}
use Rattle.refusals.specs.Outcome.{Outcome, refused, accepted}
use Rattle.refusals.specs.declared.Declined.{Declined}
use Rattle.refusals.specs.Laws.Outcomes.{refused≢accepted, accepted-inj}
use Rattle.conversion.specs.Conversion.{conversion, reply, convert, convert_outcome, reply_of}
use Rattle.convert_deck.specs.Written.{Holds}

of-outcome : (r : Result ℕ Declined) (buffer after : List ℕ) (made : Outcome (List ℕ))
    → reply_of (convert_outcome r) after ≡ reply buffer made → Holds r after made
unfolding reply
of-outcome (Ok n) buffer after (refused k p) e = refused≢accepted (sym (ap (λ r. r.answer) e))
of-outcome (Ok n) buffer after (accepted new) e =
    ap (λ k. take k after) (accepted-inj (ap (λ r. r.answer) e))
    ∙ ap (take (length new)) (ap (λ r. r.buffer) e)
    ∙ take-append_seam new (drop (length new) buffer)
of-outcome (Err d) buffer after (refused l q) e = refl
of-outcome (Err d) buffer after (accepted new) e = refused≢accepted (ap (λ r. r.answer) e)

pub answer-holds : (bytes buffer after : List ℕ) (r : Result ℕ Declined) → reply_of (convert_outcome r) after ≡ convert bytes buffer
    → Holds r after (conversion bytes (length buffer))
unfolding convert
answer-holds bytes buffer after r e = of-outcome r buffer after (conversion bytes (length buffer)) e
