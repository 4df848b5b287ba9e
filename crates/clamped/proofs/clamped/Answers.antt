-- `clamped::clamped` meets its contract: the library's clamping is to the nearest number. Assumes nothing.
use mathlib.Core.Path.{◌∙◌}
use mir.Syntax.{w32, w64}
use mir.Val.{SFits}
use mir.Facts.{to_z-of_z}
use borrow.Author.Rules.{rules}
use Rattle.clamped.proofs.Saturating.{nearest}
use Rattle.clamped.proofs.clamped.Goals as goal

pub returns : goal.returns
returns c =
    let f : SFits w32 c.clamp.result = search rules in
    rw (to_z-of_z {w = w64} (record { sfits = c.clamp.type_inv }), to_z-of_z f)
    (rw (to_z-of_z {w = w64} c.ranges.x) at c.clamp.ensures.value ∙ nearest c.args.x)
