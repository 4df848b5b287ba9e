-- `engine::commit` meets its contract: a commit answers in its own words. Assumes nothing.
use mathlib.Core.Path.{sym, ap, subst}
use Rattle.calls.specs.Requests.{Accepts, IsOfCommit}
use Rattle.calls.proofs.Laws.Kinds.{commit-suits}
use Rattle.engine.proofs.commit.Goals as goal

pub commit_answer-requires : goal.commit_answer-requires
commit_answer-requires c =
    subst (Accepts IsOfCommit) (sym (ap (λ r. r.answer) c.call_lent-told.ensures)) (commit-suits _ _ c.args.place)
