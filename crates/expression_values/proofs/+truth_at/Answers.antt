-- `expression_values::truth_at` meets its contract. It calls itself where fewer bytes are left. Assumes nothing.
use mathlib.Core.Path.{ap, refl}
use native.Mathlib.Omega.{arith}
use mir.Syntax.{w32}
use mir.Val.{SFits}
use borrow.Author.Rules.{rules}
use Rattle.expression.specs.Reading.{got}
use Rattle.expression.specs.Values.{comparison}
use Rattle.expression_values.proofs.Signed.{read_back}
use Rattle.expression_values.proofs.Evaluating.{truth-here, no_truth, as-constant, as-no-truth, as-not}
use Rattle.expression_values.proofs.Evaluating.{as-both, as-both-nothing, as-compared, as-compared-nothing}
use Rattle.expression_values.proofs.+truth_at.Goals as goal

pub returns-in_err-b : goal.returns-in_err-b
returns-in_err-b t c =
    let outside = c.in_err-b.ensures.lookup in
    rw c.from_residual.ensures (no_truth _ _ _ _ (omega arith))

pub returns-in-Constant : goal.returns-in-Constant
returns-in-Constant t c =
    as-constant (truth-here c.in_ok-b.ensures.lookup.3 c.truth_op.ensures) c.in-Constant.is

pub returns-in_err-p-in-Not : goal.returns-in_err-p-in-Not
returns-in_err-p-in-Not t c =
    rw c.from_residual-in_err-p-in-Not.ensures
    (as-not (truth-here c.in_ok-b.ensures.lookup.3 c.truth_op.ensures) c.in-Not.is
    (rw c.in_err-p-in-Not.was at c.truth_at.ensures) refl)

pub returns-in_ok-p-in-Not : goal.returns-in_ok-p-in-Not
returns-in_ok-p-in-Not t c =
    as-not (truth-here c.in_ok-b.ensures.lookup.3 c.truth_op.ensures) c.in-Not.is
    (rw c.in_ok-p-in-Not.was at c.truth_at.ensures) refl

pub returns-in_err-p-in-Both : goal.returns-in_err-p-in-Both
returns-in_err-p-in-Both t c =
    rw c.from_residual-in_err-p-in-Both.ensures
    (as-both-nothing (truth-here c.in_ok-b.ensures.lookup.3 c.truth_op.ensures) c.in-Both.is
    (rw c.in_err-p-in-Both.was at c.truth_at-in-Both.ensures))

pub returns-in_err-q-in-Both : goal.returns-in_err-q-in-Both
returns-in_err-q-in-Both t c =
    rw c.from_residual-in_err-q-in-Both.ensures
    (as-both (truth-here c.in_ok-b.ensures.lookup.3 c.truth_op.ensures) c.in-Both.is
    (rw c.in_ok-p-in-Both.was at c.truth_at-in-Both.ensures)
    (rw c.in_err-q-in-Both.was at c.truth_at-in-Both-2.ensures) refl)

pub returns-in_ok-q-in-Both : goal.returns-in_ok-q-in-Both
returns-in_ok-q-in-Both t c =
    as-both (truth-here c.in_ok-b.ensures.lookup.3 c.truth_op.ensures) c.in-Both.is
    (rw c.in_ok-p-in-Both.was at c.truth_at-in-Both.ensures)
    (rw c.in_ok-q-in-Both.was at c.truth_at-in-Both-2.ensures)
    (ap (λ v. got v c.truth_at-in-Both-2.new.at) c.join_truths.ensures)

pub returns-in_err-x-in-Two : goal.returns-in_err-x-in-Two
returns-in_err-x-in-Two t c =
    rw c.from_residual-in_err-x-in-Two.ensures
    (as-compared-nothing (truth-here c.in_ok-b.ensures.lookup.3 c.truth_op.ensures) c.in-Two.is
    (rw c.in_err-x-in-Two.was at c.num_at.ensures))

pub returns-in_err-y-in-Two : goal.returns-in_err-y-in-Two
returns-in_err-y-in-Two t c =
    rw c.from_residual-in_err-y-in-Two.ensures
    (as-compared (truth-here c.in_ok-b.ensures.lookup.3 c.truth_op.ensures) c.in-Two.is
    (rw c.in_ok-x-in-Two.was at c.num_at.ensures)
    (rw c.in_err-y-in-Two.was at c.num_at-in-Two.ensures) refl)

pub returns-in_ok-y-in-Two : goal.returns-in_ok-y-in-Two
returns-in_ok-y-in-Two t c =
    let f : SFits w32 c.in_ok-x-in-Two.x = search rules in
    let g : SFits w32 c.in_ok-y-in-Two.y = search rules in
    as-compared (truth-here c.in_ok-b.ensures.lookup.3 c.truth_op.ensures) c.in-Two.is
    (rw c.in_ok-x-in-Two.was at c.num_at.ensures)
    (rw c.in_ok-y-in-Two.was at c.num_at-in-Two.ensures)
    (ap (λ v. got v c.num_at-in-Two.new.at) (read_back (comparison c.in-Two.k) f g c.compare_nums.ensures))

pub returns-in-Unknown : goal.returns-in-Unknown
returns-in-Unknown t c =
    as-no-truth (truth-here c.in_ok-b.ensures.lookup.3 c.truth_op.ensures) c.in-Unknown.is
