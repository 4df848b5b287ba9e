-- `conversion_bytes::put_new_rule` meets its contract: one stretch after the other. Assumes nothing.
use mathlib.Core.List.{◌++◌}
use lib.ListN.{length}
use Rattle.conversion_bytes.specs.Laws.Written.{written-more, room-first, room-behind}
use Rattle.conversion_bytes.proofs.put_new_rule.Goals as goal

pub put-first-requires : goal.put-first-requires
put-first-requires c =
    let a = c.args in
    room-first (length a.out.now) a.at a.events.now (a.middle.now ++ a.last.now) c.requires

pub put-second-requires : goal.put-second-requires
put-second-requires c =
    let a = c.args in
    room-first _ c.put-first.result a.middle.now a.last.now
    (room-behind a.events.now (a.middle.now ++ a.last.now) c.put-first.ensures c.requires)

pub put-requires : goal.put-requires
put-requires c =
    let a = c.args in
    room-behind a.middle.now a.last.now c.put-second.ensures
    (room-behind a.events.now (a.middle.now ++ a.last.now) c.put-first.ensures c.requires)

pub returns : goal.returns
returns c =
    written-more c.put-first.ensures (written-more c.put-second.ensures c.put.ensures)
