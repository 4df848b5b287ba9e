-- `firing_commits::look` meets its contract. Assumes nothing.
use Prim.Native.Nat.{◌*◌, ◌≤◌, ◌<◌}
use mathlib.Core.Path.{◌≡◌, sym, subst, ◌∙◌}
use mathlib.Core.List.{List}
use native.Mathlib.Omega.{arith}
use native.Mathlib.Nat.{add-sub_cancel_left}
use lib.ListN.{length, get_or, take, drop}
use lib.IntN.{ℤ, pos}
use Rattle.deck.proofs.Laws.Shape.{counted-R, counted-N}
use Rattle.pool_states.specs.Fits.{within}
use Rattle.pool_states.specs.Laws.PairsHeld.{known-low}
use Rattle.pool_states.specs.Laws.Charges.{holds-part, holds-charge}
use Rattle.firing.specs.Evaluated.{Assignable}
use Rattle.firing_commits.specs.Laws.Looking.{looking-holds, looking-part, looking-low, looking-count, looking-pairs}
use Rattle.firing_commits.specs.Laws.Looking.{looking-naturals, looking-numbers, few-fits, looks}
use Rattle.firing_commits.proofs.look.Goals as goal
use Rattle.firing_commits.proofs.look.Goals.{Start, After-number_at-part, After-number_at-count}

abbrev numbers : Start → List ℤ
numbers c = take 10 (drop (10 * c.args.k) c.args.pool.now)

long : (c : Start) → length (numbers c) ≡ 10
long c = (looking-holds c.requires.0).long

-- the part and the number of the pairs, as they were read
part-is : (c : After-number_at-part) → let a = c.args in
    c.number_at-part.result ≡ within a.rig.now.counts.parts (get_or (take 10 (drop (10 * a.k) a.pool.now)) 0 (pos 0))
part-is c = (rw add-sub_cancel_left at c.number_at-part.ensures) ∙ (looking-numbers c.requires.0).0

low : (c : After-number_at-part) → c.number_at-part.result < 16
low c = omega (arith, part-is c, looking-part c.requires.0, looking-low c.requires.0)

count-is : (c : After-number_at-count) → let a = c.args in
    c.number_at-count.result ≡ within 5 (get_or (take 10 (drop (10 * a.k) a.pool.now)) 1 (pos 0))
count-is c = (rw add-sub_cancel_left at c.number_at-count.ensures) ∙ (looking-numbers c.requires.0).1

few : (c : After-number_at-count) → c.number_at-count.result ≤ 4
few c = omega (arith, count-is c, looking-count c.requires.0)

abbrev pairs : After-number_at-count → List ℤ
pairs c = take (2 * c.number_at-count.result) (drop 2 (take 10 (drop (10 * c.args.k) c.args.pool.now)))

held : (c : After-number_at-count) → Assignable (pairs c) × (length (pairs c) ≡ 2 * c.number_at-count.result)
held c =
    let row = take 10 (drop (10 * c.args.k) c.args.pool.now) in
    subst (λ n. Assignable (take (2 * n) (drop 2 row)) × (length (take (2 * n) (drop 2 row)) ≡ 2 * n)) (sym (count-is c))
    (looking-pairs c.requires.0)

pub number_at-part-requires : goal.number_at-part-requires
number_at-part-requires c =
    rw add-sub_cancel_left (omega (arith, long (goal.at.number_at-part-requires c).Start), (looking-naturals c.requires.0).0)

pub number_at-count-requires : goal.number_at-count-requires
number_at-count-requires c =
    rw add-sub_cancel_left (omega (arith, long (goal.at.number_at-count-requires c).Start), (looking-naturals c.requires.0).1)

pub channels_of-mask-requires : goal.channels_of-mask-requires
channels_of-mask-requires c =
    let h = looking-holds c.requires.0 in
    let k = c.args.rig.now in
    rw add-sub_cancel_left
    (h.long, h.written, known-low _ _ h.known (omega (arith, counted-R k.rules.now k.parts.now k.counts, c.requires.0.few)))

pub update_charge-charge-requires : goal.update_charge-charge-requires
update_charge-charge-requires c =
    let k = c.args.rig.now in (
      c.requires.0.ready,
      holds-part _ _ (counted-N k.rules.now k.parts.now k.counts) _ (looking-holds c.requires.0)
          (part-is (goal.at.update_charge-charge-requires c).After-number_at-part),
    )

pub overflow_mul-to : goal.overflow_mul-to
overflow_mul-to c = few-fits _ (few (goal.at.overflow_mul-to c).After-number_at-count)

pub overflow_add-to : goal.overflow_add-to
overflow_add-to c = omega (arith, few (goal.at.overflow_add-to c).After-number_at-count)

pub slice_bounds-pairs-end : goal.slice_bounds-pairs-end
slice_bounds-pairs-end c = omega (arith, few (goal.at.slice_bounds-pairs-end c).After-number_at-count)

pub changed_by-changed-requires : goal.changed_by-changed-requires
changed_by-changed-requires c =
    let k = (goal.at.changed_by-changed-requires c).After-number_at-count in
    let h = held k in (
      c.requires.1,
      low (goal.at.changed_by-changed-requires c).After-number_at-part,
      rw (add-sub_cancel_left, add-sub_cancel_left) h.0,
      rw (add-sub_cancel_left, add-sub_cancel_left, h.1) (omega arith),
      rw (add-sub_cancel_left, add-sub_cancel_left, h.1) (omega (arith, few k, c.requires.2)),
    )

pub assign_pairs-requires : goal.assign_pairs-requires
assign_pairs-requires c = (
  omega (arith, c.requires.1),
  low (goal.at.assign_pairs-requires c).After-number_at-part,
  rw (add-sub_cancel_left, add-sub_cancel_left) (held (goal.at.assign_pairs-requires c).After-number_at-count).0,
)

pub returns : goal.returns
returns c =
    let k = c.args.rig.now in
    let p = part-is (goal.at.returns c).After-number_at-part in
    let n = counted-R k.rules.now k.parts.now k.counts in
    looks c.requires.0 c.args.values.now c.requires.1
    (holds-charge _ _ (counted-N k.rules.now k.parts.now k.counts) _ (looking-holds c.requires.0) (omega (arith, n, c.requires.0.few)) p
    (rw add-sub_cancel_left at c.channels_of-mask.ensures)
    c.update_charge-charge.ensures)
    p (count-is (goal.at.returns c).After-number_at-count)
    (rw (add-sub_cancel_left, add-sub_cancel_left) at c.changed_by-changed.ensures)
    (rw (add-sub_cancel_left, add-sub_cancel_left) at c.assign_pairs.ensures)
