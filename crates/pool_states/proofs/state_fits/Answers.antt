-- `pool_states::state_fits` meets its contract: the tests are made one by one. Assumes nothing.
use mathlib.Core.Path.{sym, ◌∙◌}
use native.Mathlib.Omega.{arith}
use Rattle.lists.specs.Laws.Booleans.{contradiction}
use Rattle.pool.specs.States.{Memory}
use Rattle.pool_states.specs.Answer.{memory_of}
use Rattle.pool_states.specs.Laws.Judged.{not-framed, framed-last}
use Rattle.pool_states.proofs.Deciding.{tail-zeros}
use Rattle.pool_states.proofs.state_fits.Goals as goal

-- the state and the pool that are lent
abbrev lent_to : goal.After-all_zero → Memory
lent_to s = memory_of s.args.values.now s.args.pending s.args.pool.now

-- the state and the pool that are lent
abbrev lent_to-2 : goal.Then-values-ne-VALUES → Memory
lent_to-2 s = memory_of s.args.values.now s.args.pending s.args.pool.now

-- the state and the pool that are lent
abbrev lent_to-3 : goal.Then-not-values_fit → Memory
lent_to-3 s = memory_of s.args.values.now s.args.pending s.args.pool.now

-- the state and the pool that are lent
abbrev lent_to-4 : goal.Then-pool-pending → Memory
lent_to-4 s = memory_of s.args.values.now s.args.pending s.args.pool.now

pub returns-then-values-ne-VALUES : goal.returns-then-values-ne-VALUES
returns-then-values-ne-VALUES c d e_r e_n = sym (not-framed d (lent_to-2 c) (λ p. c.if-values-ne-VALUES.true p.long))

pub returns-then-not-values_fit : goal.returns-then-not-values_fit
returns-then-not-values_fit c d e_r e_n =
    sym (not-framed d (lent_to-3 c) (λ p.
    contradiction p.unused (sym (c.values_fit.ensures d e_r e_n) ∙ c.if-not-values_fit.true)))

pub returns-then-pool-pending : goal.returns-then-pool-pending
returns-then-pool-pending c d e_r e_n = sym (not-framed d (lent_to-4 c) (λ p. omega (arith, p.few, c.if-pool-pending.true)))

pub returns : goal.returns
returns c d e_r e_n =
    tail-zeros c.args.pool.now _ c.all_zero.ensures
    ∙ sym (framed-last d (lent_to c) (record {
      long = c.if-values-ne-VALUES.false;
      unused = sym (c.values_fit.ensures d e_r e_n) ∙ c.if-not-values_fit.false;
      few = c.if-pool-pending.false;
    }))
