-- Bytes that are no operator's. Assumes nothing.
use Rattle.std.specs.Prelude.{◌≡◌, refl, Bool, true, false, ℕ, suc, ◌-◌, ◌≤◌, ltb}
use Rattle.std.proofs.Common.{subst, arith, ltb-false, le-ltb}
use Rattle.expression.specs.Reading.{num_op, truth_op}
use Rattle.expression.specs.declared.NumOp.TheVariants as OfNum
use Rattle.expression.specs.declared.TruthOp.TheVariants as OfTruth

least : (b : ℕ) → 0 ≤ b
least b = omega arith

after : (n b : ℕ) → n ≤ b → ¬ (b ≡ n) → suc n ≤ b
after n b h k = omega arith

-- both kinds have seven operators, whose bytes follow each other. Step by step, since `omega` takes six cases at most
beyond : (n b : ℕ) → n ≤ b → ¬ (b ≡ n) → ¬ (b ≡ suc n) → ¬ (b ≡ suc (suc n)) → ¬ (b ≡ suc (suc (suc n)))
    → ¬ (b ≡ suc (suc (suc (suc n)))) → ¬ (b ≡ suc (suc (suc (suc (suc n)))))
    → ¬ (b ≡ suc (suc (suc (suc (suc (suc n)))))) → suc (suc (suc (suc (suc (suc (suc n)))))) ≤ b
beyond n b h n0 n1 n2 n3 n4 n5 n6 =
    after _ b (after _ b (after _ b (after _ b (after _ b (after _ b (after _ b h n0) n1) n2) n3) n4) n5) n6

pub num-past : (b : ℕ) → 7 ≤ b → OfNum.Unknown ≡ num_op b
num-past b h =
    let e : suc (suc (suc (suc (suc (suc (suc (b - 7))))))) ≡ b = omega arith in
    subst (λ n. OfNum.Unknown ≡ num_op n) e refl

pub num-unknown : (b : ℕ) → ¬ (b ≡ 0) → ¬ (b ≡ 1) → ¬ (b ≡ 2) → ¬ (b ≡ 3) → ¬ (b ≡ 4) → ¬ (b ≡ 5) → ¬ (b ≡ 6)
    → OfNum.Unknown ≡ num_op b
num-unknown b n0 n1 n2 n3 n4 n5 n6 = num-past b (beyond 0 b (least b) n0 n1 n2 n3 n4 n5 n6)

truth-past : (b : ℕ) → 23 ≤ b → OfTruth.Unknown ≡ truth_op b
truth-past b h =
    let e : b - 16 ≡ suc (suc (suc (suc (suc (suc (suc (b - 23))))))) = omega arith in
    rw (le-ltb b 16 (omega arith), e)

pub truth-unknown : (b : ℕ) → ¬ (b ≡ 16) → ¬ (b ≡ 17) → ¬ (b ≡ 18) → ¬ (b ≡ 19) → ¬ (b ≡ 20) → ¬ (b ≡ 21) → ¬ (b ≡ 22)
    → OfTruth.Unknown ≡ truth_op b
truth-unknown b n0 n1 n2 n3 n4 n5 n6 = go (ltb b 16) refl
  where
    go : (t : Bool) → ltb b 16 ≡ t → OfTruth.Unknown ≡ truth_op b
    go true e = rw e
    go false e = truth-past b (beyond 16 b (ltb-false b 16 e) n0 n1 n2 n3 n4 n5 n6)
