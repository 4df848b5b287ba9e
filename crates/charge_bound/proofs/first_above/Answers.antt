-- `charge_bound::first_above` meets its contract: the largest charge is within the bound, or the search finds the first place
-- above it. Assumes nothing.
use mathlib.Core.Path.{refl}
use Rattle.charge_bound.proofs.ByRules.{rules-within}
use Rattle.charge_bound.proofs.first_above.Goals as goal

pub returns-then-most-lt-CAP : goal.returns-then-most-lt-CAP
returns-then-most-lt-CAP c =
    let g = c.largest-most.ensures in
    (rules-within c.requires.tables g.0 refl c.if-most-lt-CAP.true, g.1)
