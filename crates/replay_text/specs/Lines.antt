-- Two kinds of line, as far as it is read. Assumes nothing.
use Rattle.std.specs.Prelude.{◌≡◌}
use Rattle.replay_text.specs.declared.lines.Line.{Line}
use Rattle.replay_text.specs.declared.lines.Line.TheVariants as Of

-- nothing of it is read
abbrev pub IsEmpty : Line → Type 0
IsEmpty (Of.Word letters) = letters.count ≡ 0
IsEmpty (Of.Fields fields) = ⊥
IsEmpty Of.Unreadable = ⊥

-- it is no line, whatever follows
abbrev pub IsBroken : Line → Type 0
IsBroken (Of.Word letters) = ⊥
IsBroken (Of.Fields fields) = ⊥
IsBroken Of.Unreadable = Unit {0}
