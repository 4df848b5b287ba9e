-- `expression_faults::expression_fault` meets its contract: a part of the bytes is lent, and its places are moved. Assumes nothing.
use Prim.Native.Nat.{◌-◌, ◌≤◌}
use mathlib.Core.List.{[], ◌∷◌}
use native.Mathlib.Omega.{arith}
use lib.ListN.{take, drop, length, length-take}
use Rattle.expression.specs.Answers.{scope}
use Rattle.expression.specs.Searching.{awaited_for}
use Rattle.expression_faults.proofs.Operators.{part_sound, part-faulty, part-within}
use Rattle.expression_faults.proofs.expression_fault.Goals as goal

pub returns-in-Ok : goal.returns-in-Ok
returns-in-Ok c =
    let a = c.args in
    let t = take (a.to - a.from) (drop a.from a.s.now) in
    part_sound (scope a.own a.far) (awaited_for a.truth ∷ []) t a.from a.to (rw c.in-Ok.is at c.whole_fault.ensures)

pub returns-in-Err : goal.returns-in-Err
returns-in-Err c =
    let a = c.args in
    let t = take (a.to - a.from) (drop a.from a.s.now) in
    rw c.fault.ensures (part-faulty (scope a.own a.far) (awaited_for a.truth ∷ []) t a.from a.to (rw c.in-Err.is at c.whole_fault.ensures))

pub overflow_add-from : goal.overflow_add-from
overflow_add-from c =
    let a = c.args in
    let t = take (a.to - a.from) (drop a.from a.s.now) in
    let l : length t ≤ a.to - a.from = omega (arith, length-take (a.to - a.from) (drop a.from a.s.now)) in
    let p = part-within (scope a.own a.far) (awaited_for a.truth ∷ []) t a.from a.to (rw c.in-Err.is at c.whole_fault.ensures) in
    omega (arith, p, l, c.requires)
