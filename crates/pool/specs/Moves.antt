-- What writing and moving do to the numbers of a pool. Assumes nothing.
use Rattle.std.specs.Prelude.{ℕ, ◌+◌, ◌*◌, ◌≤◌, ◌≡◌, true, List, ◌++◌, length, take, drop, ℤ}
use Rattle.std.proofs.Math.Seq.{paste}
use Rattle.lists.specs.Lists.{all_of}
use Rattle.pool.specs.Updates.{Update}
use Rattle.pool.specs.Places.{pool_of}
use Rattle.pool.specs.Fine.{short}

-- ten numbers written at an index
abbrev pub written : List ℤ → ℕ → List ℤ → List ℤ
written pool at update = take at pool ++ (update ++ drop (at + 10) pool)

-- n numbers from a distance further on, moved down to an index
abbrev pub moved : List ℤ → ℕ → ℕ → ℕ → List ℤ
moved pool at distance count = paste pool at (drop (at + distance) pool) count

-- the pool holds exactly these updates, zeros behind them
pub record Laid (pool : List ℤ) (us : List Update) : Type 0 where
  pub is : pool ≡ pool_of (length pool) us
  pub short : all_of short us ≡ true
  pub room : 10 * length us ≤ length pool
