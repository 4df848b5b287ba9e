-- `pool_states::place_fits` meets its contract: the part, and the pairs by their count. Assumes nothing.
use mathlib.Core.Path.{refl}
use native.Mathlib.Omega.{arith}
use Rattle.pool_states.proofs.Deciding.{no_part, with_part}
use Rattle.pool_states.proofs.place_fits.Goals as goal

pub returns-in_err-bounded_at : goal.returns-in_err-bounded_at
returns-in_err-bounded_at c d e_r e_n =
    rw c.from_residual.ensures
    (no_part c.args.channels c.args.parts c.args.place.now c.requires.0 refl (omega (arith, c.in_err-bounded_at.ensures)) d e_r e_n)

pub returns-then-place-eq1 : goal.returns-then-place-eq1
returns-then-place-eq1 c =
    let p = c.in_ok-bounded_at.ensures in
    with_part c.args.channels c.args.parts c.args.place.now c.requires.0 p.0 c.single_fits.result p.1 c.requires.1 c.single_fits.ensures

pub returns-else-place-eq1 : goal.returns-else-place-eq1
returns-else-place-eq1 c =
    let p = c.in_ok-bounded_at.ensures in
    with_part c.args.channels c.args.parts c.args.place.now c.requires.0 p.0 c.several_fit.result p.1 c.requires.1 c.several_fit.ensures
