-- `firing_rules::fire_to` meets its contract: the rule adds nothing, or the one update that is made is offered. Assumes nothing.
use mathlib.Core.Path.{sym, ◌∙◌}
use Rattle.firing_queue.specs.Laws.Queue.{offered-none, offered-as}
use Rattle.firing_rules.specs.Laws.Sent.{tasked, adds-false, made-known}
use Rattle.firing_rules.proofs.fire_to.Goals as goal

pub sends-requires : goal.sends-requires
sends-requires c = let r = c.requires in tasked r.0 r.2 r.3 r.4 r.5

pub returns-then-not-sends : goal.returns-then-not-sends
returns-then-not-sends c = offered-as (adds-false _ _ _ _ (sym c.sends.ensures ∙ c.if-not-sends.true))
    (offered-none _ c.requires.1.ready.memo)

pub made-row-requires : goal.made-row-requires
made-row-requires c = let r = c.requires in (tasked r.0 r.2 r.3 r.4 r.5, sym c.sends.ensures ∙ c.if-not-sends.false)

pub add-requires : goal.add-requires
add-requires c = (c.requires.1, made-known c.requires.0 c.made-row.ensures.known)

pub returns : goal.returns
returns c = offered-as c.made-row.ensures.one c.add.ensures
