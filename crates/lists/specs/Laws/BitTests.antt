-- The test for a bit as the code makes it. Assumes nothing.
use Rattle.std.specs.Prelude.{ℕ, ◌/◌, ◌%◌, ◌^◌, ◌≡◌, true, false}
use Rattle.std.proofs.Common.{eq-eqb, ne_eqb}
use Rattle.lists.specs.Bits.{bit}

pub bit-yes : (m c : ℕ) → m / 2 ^ c % 2 ≡ 1 → bit m c ≡ true
unfolding bit
bit-yes m c h = eq-eqb (m / 2 ^ c % 2) 1 h

pub bit-no : (m c : ℕ) → (m / 2 ^ c % 2 ≡ 1 → ⊥) → bit m c ≡ false
unfolding bit
bit-no m c h = ne_eqb (m / 2 ^ c % 2) 1 h
