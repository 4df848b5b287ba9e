-- `convert_deck::convert_from` writes what becomes of what it read, which is the front of what the reader had. Assumes nothing.
use Rattle.std.proofs.Common.{◌+◌}
use Rattle.std.specs.Io.KnownBytes.{Appends}
use Rattle.deck.specs.Limits.{limits}
use Rattle.descriptors.specs.Laws.{of-the-front}
use Rattle.convert_deck.specs.Written.{written}
use Rattle.convert_deck.proofs.convert_from.Goals as goal

pub returns-in-Ok : goal.returns-in-Ok
returns-in-Ok g c made =
    let read = c.in-Ok.ensures in
    of-the-front
    (λ deck. Appends (g.W.Write.contents c.args.out.now) (g.W.Write.contents c.convert.new.out) (written deck))
    _
    _
    c.in-Ok.n
    (limits.old + 1)
    c.read_all.new.buf
    read.within.0
    c.read_all.auto.buf
    read.given.0
    read.given.1
    (c.convert.ensures made)
