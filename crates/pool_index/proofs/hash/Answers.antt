-- `pool_index::hash` meets its contract: the first four numbers, and the others where there are more pairs. The factors together are
-- below 2^32, so that no sum leaves 64 bits. Assumes nothing.
use Prim.Native.Nat.{◌+◌}
use mathlib.Core.Path.{◌≡◌, ap₂, ◌∙◌}
use Rattle.std.proofs.Common.{rules}
use Rattle.pool_index.specs.Hash.{factored}
use Rattle.pool_index.proofs.Hashing.{one-pair, more-pairs}
use Rattle.pool_index.proofs.hash.Goals as goal

-- the first four
four : (c : goal.After-factors-fifth)
    → let l = c.args.place.now in
    c.factors-first.result + c.factors.result ≡ factored l 0 748982257 374761393 + factored l 2 668265263 1640531527
four c = ap₂ (λ x y. x + y) c.factors-first.ensures.0 c.factors.ensures.0

-- the first four
four-2 : (c : goal.Then-count-eq1)
    → let l = c.args.place.now in
    c.factors-first.result + c.factors.result ≡ factored l 0 748982257 374761393 + factored l 2 668265263 1640531527
four-2 c = ap₂ (λ x y. x + y) c.factors-first.ensures.0 c.factors.ensures.0

pub returns-then-count-eq1 : goal.returns-then-count-eq1
returns-then-count-eq1 c =
    four-2 c ∙ one-pair c.args.place.now (record { sfits = search rules }) c.if-count-eq1.true

pub returns : goal.returns
returns c =
    ap₂ (λ x y. x + y) (four c)
    (ap₂ (λ x y. x + y) (ap₂ (λ x y. x + y) c.factors-third.ensures.0 c.factors-fourth.ensures.0)
    c.factors-fifth.ensures.0)
    ∙ more-pairs c.args.place.now c.if-count-eq1.false
