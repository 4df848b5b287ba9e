-- `engine::input` meets its contract: an input answers in its own words. Assumes nothing.
use mathlib.Core.Path.{sym, ap, subst}
use Rattle.calls.specs.Requests.{Accepts, IsOfInput}
use Rattle.calls.proofs.Laws.Kinds.{input-suits}
use Rattle.engine.proofs.input.Goals as goal

pub input_answer-requires : goal.input_answer-requires
input_answer-requires c =
    subst (Accepts IsOfInput) (sym (ap (λ r. r.answer) c.call_lent-told.ensures)) (input-suits _ _ c.args.part c.args.pairs.now)
