-- `pool_index::side` meets its contract. Assumes nothing.
use Prim.Native.Nat.{ℕ, ◌+◌, ◌/◌, ◌%◌, ◌^◌, ◌<◌}
use mathlib.Core.Path.{◌≡◌, sym, ap, ◌∙◌}
use mathlib.Core.List.{List}
use native.Mathlib.Omega.{arith}
use lib.ListN.{get_or}
use lib.IntN.{ℤ, pos}
use Rattle.pool_index.specs.Hash.{raised, side_of}
use Rattle.pool_index.specs.Laws.Ways.{modulo-two}
use Rattle.pool_index.proofs.side.Goals as goal

-- the first 32 bits are those of the first value
side-first : (row : List ℤ) (d : ℕ) → d < 32 → raised (get_or row 3 (pos 0)) / 2 ^ d % 2 ≡ side_of row d
unfolding side_of
side-first row d h =
    let number : (d / 32 + 3) % 10 ≡ 3 = omega arith in
    let bit : d % 32 ≡ d = omega arith in
    ap (λ i. raised (get_or row i (pos 0)) / 2 ^ d % 2) (sym number)
    ∙ ap (λ k. raised (get_or row ((d / 32 + 3) % 10) (pos 0)) / 2 ^ k % 2) (sym bit)

pub returns-then-d-lt32 : goal.returns-then-d-lt32
returns-then-d-lt32 c =
    let a = c.args in
    (ap (λ x. x / 2 ^ a.d % 2) c.raise-x.ensures.0 ∙ side-first a.row.now a.d c.if-d-lt32.true, modulo-two _)

pub returns : goal.returns
unfolding side_of
returns c = (ap (λ x. x / 2 ^ (c.args.d % 32) % 2) c.raise-y.ensures.0, modulo-two _)
