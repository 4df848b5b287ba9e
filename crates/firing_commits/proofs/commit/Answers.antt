-- `firing_commits::commit` meets its contract: the update is applied and its place becomes a hole; then the limit decides whether it is
-- set back or the firing follows. Assumes nothing.
use Prim.Native.Nat.{◌*◌, ◌≤◌}
use mathlib.Core.Path.{refl, sym, ◌∙◌}
use native.Mathlib.Omega.{arith}
use lib.ListN.{length}
use lib.Seq.{length-take-le}
use Rattle.firing_commits.specs.Laws.Looking.{few-fits, looks-inside}
use Rattle.firing_commits.specs.Laws.Committing.{commit-looking, commit-long, commit-some, commit-inside}
use Rattle.firing_commits.specs.Laws.Committing.{commit-left, commit-finishing, commit-done}
use Rattle.firing_commits.specs.Laws.Committing.{part_known, part_low, after-long, finish-reacting, finish-discarded, finish-applied}
use Rattle.firing_commits.specs.Laws.Committing.{finish-capacity}
use Rattle.firing_commits.proofs.commit.Goals as goal
use Rattle.firing_commits.proofs.commit.Goals.{After-look-found}

-- the pairs that set the channels back
pairs-inside : (l : After-look-found) → let r = l.look-found in 2 * r.result.count ≤ length r.new.back
pairs-inside l = looks-inside l.look-found.ensures l.look-found.auto.back

pub look-found-requires : goal.look-found-requires
look-found-requires c =
    (commit-looking c.requires, commit-long c.requires, refl)

pub within-requires : goal.within-requires
within-requires c =
    let w = commit-finishing c.requires c.look-found.ensures in (
      record { counts = w.tabled.counts; table = w.tabled.part_table },
      omega (arith, after-long w),
      omega (arith, part_known w),
    )

pub slice_bounds-assign_pairs-end : goal.slice_bounds-assign_pairs-end
slice_bounds-assign_pairs-end c =
    sym (length-take-le (2 * c.look-found.result.count) _ (pairs-inside (goal.at.slice_bounds-assign_pairs-end c).After-look-found))

pub assign_pairs-requires : goal.assign_pairs-requires
assign_pairs-requires c =
    let w = commit-finishing c.requires c.look-found.ensures in
    (after-long w, part_low w, w.assignable)

pub returns-then-not-within : goal.returns-then-not-within
returns-then-not-within c =
    let w = commit-finishing c.requires c.look-found.ensures in (
      rw c.empty.ensures
          (commit-done c.requires c.look-found.ensures
          (finish-discarded w (sym c.within.ensures ∙ c.if-not-within.true) c.assign_pairs.ensures)),
      refl,
    )

pub react-queue-requires : goal.react-queue-requires
react-queue-requires c =
    let w = commit-finishing c.requires c.look-found.ensures in
    rw c.empty.ensures (finish-reacting w, after-long w, part_known w)

pub returns : goal.returns
returns c =
    let w = commit-finishing c.requires c.look-found.ensures in
    let yes = sym c.within.ensures ∙ c.if-not-within.false in (
      commit-done c.requires c.look-found.ensures (finish-applied w yes (rw c.empty.ensures at c.react-queue.ensures)),
      finish-capacity w yes (rw c.empty.ensures at c.react-queue.ensures),
    )

pub empty-requires : goal.empty-requires
empty-requires c = commit-inside c.requires

pub overflow_sub-left : goal.overflow_sub-left
overflow_sub-left c = commit-left c.requires c.look-found.ensures

pub overflow_sub-left-2 : goal.overflow_sub-left-2
overflow_sub-left-2 c = commit-some c.requires

pub overflow_mul-back : goal.overflow_mul-back
overflow_mul-back c = few-fits _ c.look-found.ensures.few

pub slice_bounds-back-end : goal.slice_bounds-back-end
slice_bounds-back-end c = pairs-inside (goal.at.slice_bounds-back-end c).After-look-found
