-- `pool_states::several_fit` meets its contract: the tests of the numbers are made one by one. Assumes nothing.
use mathlib.Core.Path.{refl, sym, ◌∙◌}
use native.Mathlib.Omega.{arith}
use Rattle.pool_states.proofs.Deciding.{no_pairs, many-pairs, no-channels, no-zeros, all-pairs, pairs_set}
use Rattle.pool_states.proofs.several_fit.Goals as goal

pub returns-in_err-count : goal.returns-in_err-count
returns-in_err-count c =
    rw c.from_residual.ensures (many-pairs c.args.channels _ c.args.place.now refl c.in_err-count.ensures)

pub returns-then-count-eq0 : goal.returns-then-count-eq0
returns-then-count-eq0 c = no_pairs c.args.channels _ c.args.place.now c.in_ok-count.ensures.0 (omega arith)

pub returns-in_err-mask : goal.returns-in_err-mask
returns-in_err-mask c =
    rw c.from_residual-in_err-mask.ensures
    (no-channels c.args.channels _ c.args.place.now c.in_ok-count.ensures.0 c.in_err-mask.ensures)

pub returns-then-not-zero_from : goal.returns-then-not-zero_from
returns-then-not-zero_from c =
    no-zeros c.args.channels _ c.args.place.now c.in_ok-count.ensures.0 (sym c.zero_from.ensures ∙ c.if-not-zero_from.true)

pub returns : goal.returns
returns c =
    let a = c.args in
    let count = c.in_ok-count.ensures in
    let mask = c.in_ok-mask.ensures in
    let zeros = sym c.zero_from.ensures ∙ c.if-not-zero_from.false in
    pairs_set a.channels _ a.place.now count.0
    (all-pairs a.channels _ a.place.now count.0 (omega arith) count.1 mask.0 zeros)
    mask.1
