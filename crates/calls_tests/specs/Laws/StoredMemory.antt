-- Numbers that stand for values and pending updates are what a host holds of them. Assumes nothing.
use Rattle.std.specs.Prelude.{ℕ, ◌≡◌, List, length, ℤ}
use Rattle.std.proofs.Common.{ap, ap₂, ◌∙◌}
use Rattle.pool.specs.Places.{pool_of}
use Rattle.pool.specs.States.{Machine, store}
use Rattle.calls.specs.Answers.{memory_at}
use Rattle.calls_tests.specs.Tested.{Left}

pub left-memory : (x : Machine) (vs : List ℤ) (pending : ℕ) (pool : List ℤ) (n : ℕ)
    → Left x vs pending pool → length pool ≡ n
    → memory_at vs pending pool ≡ store n x
unfolding store
left-memory x vs pending pool n s e =
    ap₂ (λ v k. memory_at v k pool) s.values s.count
    ∙ ap (memory_at x.values (length x.pending)) (s.laid.is ∙ ap (λ k. pool_of k x.pending) e)
