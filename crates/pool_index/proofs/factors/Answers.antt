-- `pool_index::factors` meets its contract: each product is less than half of what fits. Assumes nothing.
use Prim.Native.Nat.{◌+◌, ◌*◌, ◌≤◌}
use mathlib.Core.Path.{ap₂}
use native.Mathlib.Omega.{arith}
use Rattle.pool_index.specs.Hash.{factored}
use Rattle.pool_index.proofs.Hashing.{product-low}
use Rattle.pool_index.proofs.factors.Goals as goal

-- the products
lows : (c : goal.After-raise-y)
    → let a = c.args in
    (c.raise-x.result * a.j ≤ 4294967295 * a.j) × (c.raise-y.result * a.k ≤ 4294967295 * a.k)
lows c =
    let a = c.args in
    (product-low _ a.j c.raise-x.ensures.1, product-low _ a.k c.raise-y.ensures.1)

pub returns : goal.returns
unfolding factored
returns c =
    let a = c.args in (
      ap₂ (λ x y. x * a.j + y * a.k) c.raise-x.ensures.0 c.raise-y.ensures.0,
      omega (arith, (lows c).0, (lows c).1),
    )
