-- `conversion_bytes::put_numbers` meets its contract. The loop's invariant: the numbers up to the present one are written. Assumes nothing.
use Rattle.std.proofs.Common.{◌-◌, ◌≤◌}
use Rattle.lists.specs.Lists.{from}
use Rattle.conversion_bytes.specs.Written.{Written}
use Rattle.conversion_bytes.proofs.put_numbers.Given as goal

abbrev pub invariant-loop-n : goal.invariant-loop-n
invariant-loop-n l =
    (l.first ≤ l.n) × (l.n - l.first ≤ l.end - l.first) × Written l.initial.out l.at (from l.first (l.n - l.first)) l.out l.to
