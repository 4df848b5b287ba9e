-- `charge_tables::put_row` meets its contract: the entries passed are written, the others as before. Assumes nothing.
use Prim.Native.Nat.{ℕ, ◌-◌, ◌<◌, ◌≤◌}
use mathlib.Core.Path.{◌≡◌, ap, ◌∙◌}
use mathlib.Core.Bool.{cond}
use mathlib.Core.List.{List}
use native.Mathlib.Omega.{arith}
use lib.Dec.{eqb}
use lib.ListN.{get_or}
use borrow.Author.Tests.{eq-eqb}
use Rattle.lists.specs.Lists.{sum_of, below}
use Rattle.charge_tables.proofs.Rows.{share-most, share-only, sum-parted, row-most}
use Rattle.charge_tables.proofs.put_row.Goals as goal

-- the charges of the second row at the first n parts, added up
abbrev sum : List ℕ → ℕ → ℕ
sum row n = sum_of (λ q. get_or row q 0) (below n)

has : (row : List ℕ) (n p : ℕ) → p < n → get_or row p 0 ≤ sum row n
has row n p l = omega (arith, sum-parted (λ q. get_or row q 0) n p l)

-- what the action adds: the total is needed for the others alone
rest : (kind total own t r : ℕ) → t ≡ cond (eqb kind 1) total 0 → r ≡ cond (eqb kind 1) (t - own) own
    → r ≡ cond (eqb kind 1) (total - own) own
rest kind total own t r e h = h ∙ ap (λ x. cond (eqb kind 1) (x - own) own) e ∙ share-only (eqb kind 1) total own

pub share-rest-requires : goal.share-rest-requires
share-rest-requires c e =
    let total = sum c.args.second.now c.args.parts_count in
    let t = c.total_for-total.ensures ∙ ap (λ b. cond b total 0) (eq-eqb c.args.kind 1 e) in
    omega (arith, t, has c.args.second.now c.args.parts_count c.loop-p.p c.loop-p-test.true)

pub capped_sum-charge-requires : goal.capped_sum-charge-requires
capped_sum-charge-requires c =
    let p = c.loop-p.p in
    let row = c.args.second.now in
    let total = sum row c.args.parts_count in
    let low = share-most (eqb c.args.kind 1) total (get_or row p 0) (has row c.args.parts_count p c.loop-p-test.true) in
    let same = rest c.args.kind total (get_or row p 0) _ _ c.total_for-total.ensures c.share-rest.ensures in (
      omega (arith, c.requires.3.each p),
      omega (arith, same, low, row-most c.requires.4 c.requires.1),
    )
