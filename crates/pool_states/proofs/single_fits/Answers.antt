-- `pool_states::single_fits` meets its contract: the channel, and six zeros. Assumes nothing.
use mathlib.Core.Path.{sym, ◌∙◌}
use native.Mathlib.Omega.{arith}
use Rattle.lists.specs.Laws.Bits.{bit_shifted}
use Rattle.pool_states.proofs.Deciding.{tail-zeros, single-unknown, single_more, single-fit}
use Rattle.pool_states.proofs.single_fits.Goals as goal

pub returns-in_err-c : goal.returns-in_err-c
returns-in_err-c c =
    rw c.from_residual.ensures
    (single-unknown c.args.channels c.args.channels c.args.place.now c.requires.0 c.requires.2 (sym c.in_err-c.ensures) (omega arith))

pub returns-then-all_zero : goal.returns-then-all_zero
returns-then-all_zero c =
    rw (bit_shifted 64 c.in_ok-c.c (omega (arith, c.in_ok-c.ensures.1)))
    (single-fit c.args.channels _ c.args.place.now c.requires.0 c.requires.2 c.in_ok-c.ensures.0 c.in_ok-c.ensures.1
    (sym (tail-zeros c.args.place.now 4 c.all_zero.ensures) ∙ c.if-all_zero.true))

pub returns-else-all_zero : goal.returns-else-all_zero
returns-else-all_zero c =
    single_more c.args.channels _ c.args.place.now c.requires.0 c.requires.2 c.in_ok-c.ensures.0
    (sym (tail-zeros c.args.place.now 4 c.all_zero.ensures) ∙ c.if-all_zero.false)
