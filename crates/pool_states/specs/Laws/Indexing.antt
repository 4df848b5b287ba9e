-- The index that the test for a good state leaves. Assumes nothing.
use Rattle.std.specs.Prelude.{ℕ, ◌/◌, ◌%◌, ◌≤◌, ◌≡◌, true, ◌&&◌, List, leb, eqb, length, ℤ, None, Some}
use Rattle.std.proofs.Common.{arith, leb-true}
use Rattle.lists.specs.Laws.Booleans.{and_left, and_right}
use Rattle.pool.specs.Places.{capacity}
use Rattle.pool.specs.States.{good_length}
use Rattle.pool_index.specs.Index.{heads_of, Roomy}
use Rattle.pool_states.specs.Answer.{Fresh, IndexedIf}

-- at most 65,535 places
pub few-places : (n : ℕ) → good_length n ≡ true → n / 10 ≤ 65535
unfolding good_length
few-places n g =
    let most = leb-true n 655350 (and_right (leb 10 n) (leb n 655350) (and_left (leb 10 n && leb n 655350) (eqb (n % 10) 0) g)) in
    omega arith

-- an index of the places of a pool has links for the pending ones
pub fresh-roomy : {n : ℕ} {index : List ℕ} → Fresh n index → (pending : ℕ) → pending ≤ n / 10 → Roomy pending index
unfolding capacity
fresh-roomy f pending h =
    let r = f.roomy in
    record { some = r.some; few = r.few; links = omega (arith, r.links, h) }

-- where there is no charge, of the index its length
pub index-none : {pending : ℕ} {pool : List ℤ} {index₀ index : List ℕ} → length index ≡ length index₀
    → IndexedIf pending pool index₀ index ((total : ℕ) × (None ≡ Some total))
index-none e = record { indexed = λ g. not_good g.1; long = e }
  where
    not_good : {total : ℕ} {A : Type 0} → None ≡ Some total → A
    not_good e = let q : ◌≡◌ {A = ℕ} 0 1 = cc in absurd (omega arith)

-- room is a matter of length
pub roomy-same : {n : ℕ} {a b : List ℕ} → length b ≡ length a → Roomy n a → Roomy n b
unfolding heads_of
roomy-same e r =
    record { some = omega (arith, e, r.some); few = omega (arith, e, r.few); links = omega (arith, e, r.links) }
