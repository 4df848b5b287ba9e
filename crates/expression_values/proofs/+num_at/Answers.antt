-- `expression_values::num_at` meets its contract. It calls itself where fewer bytes are left. Assumes nothing.
use mathlib.Core.Path.{ap, refl}
use native.Mathlib.Omega.{arith}
use mir.Syntax.{w32}
use mir.Val.{SFits}
use borrow.Author.Rules.{rules}
use Rattle.clamped.specs.Clamp.{negated}
use Rattle.expression.specs.Reading.{got}
use Rattle.expression.specs.Values.{arith as of_two}
use Rattle.expression_values.proofs.Signed.{result-back}
use Rattle.expression_values.proofs.Evaluating.{op-here, no-num, as-literal, as_own, as-far, as-two, as-two-nothing, as-negation, as-unknown}
use Rattle.expression_values.proofs.+num_at.Goals as goal

pub returns-in_err-b : goal.returns-in_err-b
returns-in_err-b t c =
    let outside = c.in_err-b.ensures.lookup in
    rw c.from_residual.ensures (no-num _ _ _ _ (omega arith))

pub returns-in-Literal : goal.returns-in-Literal
returns-in-Literal t c =
    as-literal (op-here c.in_ok-b.ensures.lookup.3 c.num_op.ensures) c.in-Literal.is c.literal_at.ensures

pub returns-in-Own : goal.returns-in-Own
returns-in-Own t c =
    as_own (op-here c.in_ok-b.ensures.lookup.3 c.num_op.ensures) c.in-Own.is c.channel_at.ensures

pub returns-in-Far : goal.returns-in-Far
returns-in-Far t c =
    as-far (op-here c.in_ok-b.ensures.lookup.3 c.num_op.ensures) c.in-Far.is c.channel_at-in-Far.ensures

pub returns-in_err-x-in-Two : goal.returns-in_err-x-in-Two
returns-in_err-x-in-Two t c =
    rw c.from_residual-in_err-x-in-Two.ensures
    (as-two-nothing (op-here c.in_ok-b.ensures.lookup.3 c.num_op.ensures) c.in-Two.is (rw c.in_err-x-in-Two.was at c.num_at.ensures))

pub returns-in_err-y-in-Two : goal.returns-in_err-y-in-Two
returns-in_err-y-in-Two t c =
    rw c.from_residual-in_err-y-in-Two.ensures
    (as-two (op-here c.in_ok-b.ensures.lookup.3 c.num_op.ensures) c.in-Two.is (rw c.in_ok-x-in-Two.was at c.num_at.ensures)
    (rw c.in_err-y-in-Two.was at c.num_at-in-Two.ensures) refl)

pub returns-in_ok-y-in-Two : goal.returns-in_ok-y-in-Two
returns-in_ok-y-in-Two t c =
    let f : SFits w32 c.in_ok-x-in-Two.x = search rules in
    let g : SFits w32 c.in_ok-y-in-Two.y = search rules in
    as-two (op-here c.in_ok-b.ensures.lookup.3 c.num_op.ensures) c.in-Two.is (rw c.in_ok-x-in-Two.was at c.num_at.ensures)
    (rw c.in_ok-y-in-Two.was at c.num_at-in-Two.ensures)
    (ap (λ z. got z c.num_at-in-Two.new.at)
    (result-back (of_two c.in-Two.k) (record { sfits = c.calculate.type_inv }) f g c.calculate.ensures))

pub returns-in_err-x-in-Negation : goal.returns-in_err-x-in-Negation
returns-in_err-x-in-Negation t c =
    rw c.from_residual-in_err-x-in-Negation.ensures
    (as-negation (op-here c.in_ok-b.ensures.lookup.3 c.num_op.ensures) c.in-Negation.is (rw c.in_err-x-in-Negation.was at c.num_at-in-Negation.ensures) refl)

pub returns-in_ok-x-in-Negation : goal.returns-in_ok-x-in-Negation
returns-in_ok-x-in-Negation t c =
    let f : SFits w32 c.in_ok-x-in-Negation.x = search rules in
    as-negation (op-here c.in_ok-b.ensures.lookup.3 c.num_op.ensures) c.in-Negation.is
    (rw c.in_ok-x-in-Negation.was at c.num_at-in-Negation.ensures)
    (ap (λ z. got z c.num_at-in-Negation.new.at) (result-back (λ a b. negated b) (record { sfits = c.neg.type_inv }) f f c.neg.ensures))

pub returns-in-Unknown : goal.returns-in-Unknown
returns-in-Unknown t c =
    as-unknown (op-here c.in_ok-b.ensures.lookup.3 c.num_op.ensures) c.in-Unknown.is
