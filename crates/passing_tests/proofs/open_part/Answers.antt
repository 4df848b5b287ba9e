-- `passing_tests::open_part` meets its contract. The loop's invariant: the first c numbers are the values, and the others are as they
-- were. Assumes nothing.
use Prim.Native.Nat.{◌+◌, ◌*◌, ◌<◌}
use mathlib.Core.Path.{◌≡◌, sym, ap, ◌∙◌}
use mathlib.Core.List.{List, ◌++◌}
use native.Mathlib.Nat.{zero-add}
use native.Mathlib.Numerals.{add-one}
use native.Mathlib.Omega.{arith}
use lib.IntN.{ℤ, pos}
use lib.ListN.{length, take, drop, get_or}
use lib.Seq.{take-length, paste-suc}
use mir.Syntax.{w32}
use mir.ValLaws.{to_z-of_z}
use Rattle.passing.specs.Stands.{values_from}
use Rattle.passing.proofs.Laws.Stands.{values_length, values-at, value-is}
use Rattle.passing_tests.proofs.open_part.Goals as goal

pub loop-c-preserved : goal.loop-c-preserved
loop-c-preserved c =
    let j = c.loop-c.c in
    let a = c.args in
    let lt : j < a.count = omega arith in
    let vs : List ℤ = values_from a.deck.now a.at a.count in
    let lv : length vs ≡ a.count = values_length a.deck.now a.at a.count in
    let hd : 0 + j < length a.stretch.now = omega arith in
    let hs : j < length vs = omega arith in
    let v : c.value_of.result ≡ get_or vs j (pos 0) =
    c.value_of.ensures
    ∙ value-is a.deck.now (a.at + 4 * j)
    ∙ sym (values-at a.deck.now a.at a.count j lt) in
    rw (to_z-of_z w32 _ (record { sfits = c.value_of.type_inv }), c.loop-c.invariant, v, add-one)
    (simp zero-add at (paste-suc a.stretch.now 0 vs j (pos 0) hd hs))

pub returns : goal.returns
returns c =
    let a = c.args in
    let vs : List ℤ = values_from a.deck.now a.at a.count in
    let e : c.loop-c.c ≡ length vs = omega (arith, values_length a.deck.now a.at a.count) in
    let n : c.loop-c.c ≡ a.count = omega arith in
    c.loop-c.invariant
    ∙ ap (λ k. take k vs ++ drop c.loop-c.c a.stretch.now) e
    ∙ ap (λ l. l ++ drop c.loop-c.c a.stretch.now) (take-length vs)
    ∙ ap (λ k. vs ++ drop k a.stretch.now) n
