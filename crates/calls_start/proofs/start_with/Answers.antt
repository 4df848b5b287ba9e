-- `calls_start::start_with` meets its contract. Assumes nothing.
use mathlib.Core.Path.{refl, sym, ap, ◌∙◌}
use Rattle.std.proofs.Common.{Err}
use Rattle.pool.specs.Places.{zeros}
use Rattle.passing.proofs.Laws.Judged.{parts-known}
use Rattle.calls.specs.Answers.{start_outcome}
use Rattle.calls_start.specs.Laws.StartAnswers.{reply-is, start-declined, start-pool, start-done}
use Rattle.calls_start.proofs.start_with.Goals as goal

pub returns-in-Err : goal.returns-in-Err
returns-in-Err c =
    let r = c.start_declined.ensures in
    reply-is (ap start_outcome r.0) r.1 r.2 refl ∙ sym (start-declined _ _ _ _ c.in-Err.ensures)

pub returns-then-not-good_length : goal.returns-then-not-good_length
returns-then-not-good_length c =
    let w = c.in-Ok.ensures in
    let r = c.start_declined-then-not-good_length.ensures in
    reply-is (ap start_outcome (r.0 ∙ ap Err c.unplaced.ensures)) r.1 r.2 refl
    ∙ sym (start-pool _ _ w.passes (sym c.good_length.ensures ∙ c.if-not-good_length.true))

pub open_parts-requires : goal.open_parts-requires
unfolding zeros
open_parts-requires c = let w = c.in-Ok.ensures in (parts-known _ _ _ _ w.tabled, refl)

pub returns-else-not-good_length : goal.returns-else-not-good_length
returns-else-not-good_length c =
    let w = c.in-Ok.ensures in
    let b = c.begin.ensures in
    reply-is (ap start_outcome b.0) (ap (λ k. k.values) b.1 ∙ c.open_parts.ensures) (ap (λ k. k.pending) b.1) b.2
    ∙ sym (start-done _ _ w.passes (sym c.good_length.ensures ∙ c.if-not-good_length.false))
