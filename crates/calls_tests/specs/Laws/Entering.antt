-- A pool that passes the tests has at most 65,535 places. Assumes nothing.
use Rattle.std.specs.Prelude.{ℕ, ◌/◌, ◌≤◌, List, length, ℤ}
use Rattle.std.proofs.Common.{arith}
use Rattle.deck.specs.declared.Deck as Counted
use Rattle.pool.specs.Places.{capacity}
use Rattle.calls_tests.specs.Tested.{Entering}

pub enter-room : {s : List ℕ} {k : Counted.Deck} {rules parts memo index : List ℕ} {pool : List ℤ} {vs : List ℤ} {pending total : ℕ}
    → Entering s k rules parts memo index pool vs pending total → length pool / 10 ≤ 65535
unfolding capacity
enter-room w = omega (arith, w.room.bounded)
