-- `engine::settle` meets its contract: a settle answers in its own words. Assumes nothing.
use mathlib.Core.Path.{sym, ap, subst}
use Rattle.calls.specs.Requests.{Accepts, IsOfSettle}
use Rattle.calls.proofs.Laws.Kinds.{settle-suits}
use Rattle.engine.proofs.settle.Goals as goal

pub settle_answer-requires : goal.settle_answer-requires
settle_answer-requires c =
    subst (Accepts IsOfSettle) (sym (ap (λ r. r.answer) c.call_lent-told.ensures)) (settle-suits _ _ c.args.budget)
