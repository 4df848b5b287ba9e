-- `charge_listeners::active` meets its contract: of the listeners those that the part carries. Assumes nothing.
use Rattle.charge_listeners.specs.Laws.Listening.{is-active}
use Rattle.charge_listeners.proofs.active.Goals as goal

pub returns : goal.returns
returns c =
    record { each = λ r l. is-active c.requires.0 r l c.args.mask c.listeners.ensures c.args.p c.requires.1 }
