-- `pool::same_at` meets its contract. The loop's invariant: the numbers from i on are equal exactly if all are. Assumes
-- nothing.
use mathlib.Core.Path.{sym, ap, ◌∙◌}
use native.Mathlib.Omega.{arith}
use Rattle.std.proofs.Common.{rules}
use lib.ListN.{take, drop}
use mir.Syntax.{w32}
use mir.Val.{of_z}
use Rattle.pool.proofs.Scanning.{bits-same, same_next, same_stop, same_end, place-size, place_at}
use Rattle.pool.proofs.same_at.Goals as goal

pub returns-then-pool-at : goal.returns-then-pool-at
returns-then-pool-at c =
    let a = c.args in
    let i = c.loop-i.i in
    let size = place-size a.pool.now a.at c.requires.1 in
    same_stop (take 10 (drop a.at a.pool.now)) a.update.now i (omega arith) (omega arith)
    (λ e. c.if-pool-at.true (ap (of_z w32) (sym (place_at a.pool.now a.at i (omega arith)) ∙ e)))
    ∙ c.loop-i.invariant

pub loop-i-preserved : goal.loop-i-preserved
loop-i-preserved c =
    let a = c.args in
    let i = c.loop-i.i in
    let size = place-size a.pool.now a.at c.requires.1 in
    same_next (take 10 (drop a.at a.pool.now)) a.update.now i (omega arith) (omega arith)
    (place_at a.pool.now a.at i (omega arith)
    ∙ bits-same _ _ (search rules) (search rules) c.if-pool-at.false)
    ∙ c.loop-i.invariant

pub returns : goal.returns
returns c =
    let a = c.args in
    let size = place-size a.pool.now a.at c.requires.1 in
    same_end (take 10 (drop a.at a.pool.now)) a.update.now c.loop-i.i (omega arith) (omega arith)
    ∙ c.loop-i.invariant
