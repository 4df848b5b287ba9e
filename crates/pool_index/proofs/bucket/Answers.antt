-- `pool_index::bucket` meets its contract: the low half of the hash, as a part of all buckets. Assumes nothing.
use Prim.Native.Nat.{◌*◌, ◌/◌, ◌%◌}
use mathlib.Core.Path.{ap}
use native.Mathlib.Omega.{arith}
use Rattle.pool_index.specs.Hash.{bucket_of}
use Rattle.pool_index.specs.Laws.Entering.{bucket-low}
use Rattle.pool_index.proofs.bucket.Goals as goal

pub returns : goal.returns
unfolding bucket_of
returns c =
    let a = c.args in
    let same = ap (λ h. h % 4294967296 * a.heads / 4294967296) c.hash-h.ensures in
    (same, omega (arith, same, bucket-low a.heads a.place.now c.requires.1))
