-- `calls_lent::call_on` meets its contract: the tests, and what the call answers behind them. Assumes nothing.
use Rattle.refusals.specs.Laws.HandedOn.{handed_on}
use Rattle.calls.proofs.Laws.Requests.{requested-declined}
use Rattle.calls_lent.proofs.call_on.Goals as goal

pub returns-in_err-found : goal.returns-in_err-found
returns-in_err-found c = rw (handed_on c.from_residual.ensures.1) (requested-declined _ _ _ _ _ _ c.in_err-found.ensures)
