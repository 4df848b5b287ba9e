-- 9: which lengths of a pool are good, and how many places they give. Assumes nothing.
use Rattle.std.specs.Prelude.{ℕ, ◌*◌, ◌%◌, ◌≤◌, ◌<◌, ◌≡◌, true, false, ◌&&◌, leb, eqb}
use Rattle.std.proofs.Common.{arith, le-leb, leb-true}
use Rattle.std.proofs.lemmas.Bool.{lt-leb}
use Rattle.lists.specs.Laws.Booleans.{and_left, and_right}
use Rattle.pool.specs.Places.{capacity}
use Rattle.pool.specs.States.{good_length}

pub length-low : (n : ℕ) → n < 10 → good_length n ≡ false
unfolding good_length
length-low n h = rw (lt-leb 10 n h)

pub length_high : (n : ℕ) → 10 ≤ n → 655350 < n → good_length n ≡ false
unfolding good_length
length_high n l h = rw (le-leb 10 n l, lt-leb n 655350 h)

pub length-mid : (n : ℕ) → 10 ≤ n → n ≤ 655350 → good_length n ≡ eqb (n % 10) 0
unfolding good_length
length-mid n l h = rw (le-leb 10 n l, le-leb n 655350 h)

pub length-bounded : (n : ℕ) → good_length n ≡ true → capacity n ≤ 65535
unfolding good_length capacity
length-bounded n h =
    let two = and_left (leb 10 n && leb n 655350) (eqb (n % 10) 0) h in
    let most = leb-true n 655350 (and_right (leb 10 n) (leb n 655350) two) in
    omega arith

pub capacity-places : (n : ℕ) → 10 * capacity n ≤ n
unfolding capacity
capacity-places n = omega arith
