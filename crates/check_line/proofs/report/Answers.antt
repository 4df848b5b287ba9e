-- `check_line::report` writes the line of what it read, which is the front of what the reader had. Assumes nothing.
use Rattle.std.proofs.Common.{◌+◌}
use Rattle.std.specs.Io.KnownBytes.{Appends}
use Rattle.deck.specs.Limits.{limits}
use Rattle.descriptors.specs.Laws.{of-the-front}
use Rattle.calls.specs.Calls.{check}
use Rattle.calls.specs.Line.{line}
use Rattle.check_line.proofs.report.Goals as goal

pub returns : goal.returns
returns g c printed =
    let read = c.in-Ok.ensures in
    of-the-front
    (λ deck. Appends (g.W.Write.contents c.args.out.now) (g.W.Write.contents c.print.new.out) (line (check deck)))
    _
    _
    c.in-Ok.n
    (limits.deck + 1)
    c.read_all.new.buf
    read.within.0
    c.read_all.auto.buf
    read.given.0
    read.given.1
    c.in_default.ensures
