-- `check_line::put_line` meets its contract: word, numbers and newline one after the other are the line. Assumes nothing.
use mathlib.Core.Path.{◌∙◌, ap, sym}
use Rattle.refusals.specs.Outcome.{refused}
use Rattle.calls.specs.Answers.{check_outcome}
use Rattle.calls.specs.Line.{ascii, line}
use Rattle.decimal.specs.Laws.{put-more}
use Rattle.check_line.specs.Laws.{line-passed, line_refused}
use Rattle.check_line.proofs.put_line.Goals as goal

pub returns-in-Ok-clause-out_after : goal.returns-in-Ok-clause-out_after
unfolding ascii
returns-in-Ok-clause-out_after c =
    let numbers =
    put-more
    (put-more (put-more (put-more c.put_text-a.ensures c.put_number-b.ensures.put) c.put_number-c.ensures.put) c.put_number-d.ensures.put)
    c.put_number-e.ensures.put in
    let whole = put-more numbers c.put_byte.ensures in
    whole.has ∙ line-passed _ _ _ _ ∙ ap (λ a. line (check_outcome a)) (sym c.in-Ok.is)

pub returns-in-Err-clause-out_after : goal.returns-in-Err-clause-out_after
unfolding ascii
returns-in-Err-clause-out_after c =
    let numbers =
    put-more (put-more c.put_text-a-in-Err.ensures c.put_number-b-in-Err.ensures.put) c.put_number-c-in-Err.ensures.put in
    let whole = put-more numbers c.put_byte-in-Err.ensures in
    whole.has ∙ line_refused _ _ ∙ ap (λ n. line (refused n c.in-Err.why.place)) c.number.ensures
    ∙ ap (λ a. line (check_outcome a)) (sym c.in-Err.is)
