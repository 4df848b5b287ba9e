-- Operators and their bytes: a byte stands for an operator exactly where the operator has that byte. Assumes nothing.
use Rattle.std.specs.Prelude.{ℕ, zero, suc, ◌+◌, ◌-◌, ◌≤◌, ◌≡◌, refl, Bool, true, false, [], ◌∷◌, ltb, get_or}
use Rattle.std.proofs.Common.{◌∙◌, subst, arith, ltb-false}
use Rattle.expression.specs.Reading.{num_op, truth_op}
use Rattle.expression.specs.Encoding.{arith_byte, constant_byte, join_byte, compare_byte}
use Rattle.expression.specs.declared.Arith.TheVariants.{Sum, Difference, Product}
use Rattle.expression.specs.declared.Join.TheVariants.{And, Or}
use Rattle.expression.specs.declared.Compare.TheVariants.{Less, Equal}
use Rattle.expression.specs.declared.NumOp.{NumOp}
use Rattle.expression.specs.declared.NumOp.TheVariants as OfNum
use Rattle.expression.specs.declared.TruthOp.{TruthOp}
use Rattle.expression.specs.declared.TruthOp.TheVariants as OfTruth

-- ---- numbers

abbrev pub KnownNum : NumOp → Type 0
KnownNum OfNum.Literal = Unit {0}
KnownNum OfNum.Own = Unit {0}
KnownNum OfNum.Far = Unit {0}
KnownNum (OfNum.Two k) = Unit {0}
KnownNum OfNum.Negation = Unit {0}
KnownNum OfNum.Unknown = ⊥

-- an operator's byte; 7 is none
abbrev pub num_byte : NumOp → ℕ
num_byte OfNum.Literal = 0
num_byte OfNum.Own = 1
num_byte OfNum.Far = 2
num_byte (OfNum.Two k) = arith_byte k
num_byte OfNum.Negation = 6
num_byte OfNum.Unknown = 7

pub num-op : (op : NumOp) → num_op (num_byte op) ≡ op
num-op OfNum.Literal = refl
num-op OfNum.Own = refl
num-op OfNum.Far = refl
num-op (OfNum.Two Sum) = refl
num-op (OfNum.Two Difference) = refl
num-op (OfNum.Two Product) = refl
num-op OfNum.Negation = refl
num-op OfNum.Unknown = refl

num-byte-of : (b : ℕ) → KnownNum (num_op b) → b ≡ num_byte (num_op b)
num-byte-of zero k = refl
num-byte-of (suc zero) k = refl
num-byte-of (suc (suc zero)) k = refl
num-byte-of (suc (suc (suc zero))) k = refl
num-byte-of (suc (suc (suc (suc zero)))) k = refl
num-byte-of (suc (suc (suc (suc (suc zero))))) k = refl
num-byte-of (suc (suc (suc (suc (suc (suc zero)))))) k = refl
num-byte-of (suc (suc (suc (suc (suc (suc (suc b))))))) k = absurd k

pub num-byte : (b : ℕ) (op : NumOp) → num_op b ≡ op → KnownNum op → b ≡ num_byte op
num-byte b op e = subst (λ o. KnownNum o → b ≡ num_byte o) e (num-byte-of b)

-- ---- truths

abbrev pub KnownTruth : TruthOp → Type 0
KnownTruth (OfTruth.Constant b) = Unit {0}
KnownTruth OfTruth.Not = Unit {0}
KnownTruth (OfTruth.Both k) = Unit {0}
KnownTruth (OfTruth.Two k) = Unit {0}
KnownTruth OfTruth.Unknown = ⊥

-- an operator's byte; 23 is none
abbrev pub truth_byte : TruthOp → ℕ
truth_byte (OfTruth.Constant b) = constant_byte b
truth_byte OfTruth.Not = 18
truth_byte (OfTruth.Both k) = join_byte k
truth_byte (OfTruth.Two k) = compare_byte k
truth_byte OfTruth.Unknown = 23

pub truth-op : (op : TruthOp) → truth_op (truth_byte op) ≡ op
truth-op (OfTruth.Constant false) = refl
truth-op (OfTruth.Constant true) = refl
truth-op OfTruth.Not = refl
truth-op (OfTruth.Both And) = refl
truth-op (OfTruth.Both Or) = refl
truth-op (OfTruth.Two Less) = refl
truth-op (OfTruth.Two Equal) = refl
truth-op OfTruth.Unknown = refl

-- the operators from byte 16 on
abbrev truth_after : ℕ → TruthOp
truth_after k =
    get_or
    (OfTruth.Constant false ∷ OfTruth.Constant true ∷ OfTruth.Not ∷ OfTruth.Both And ∷ OfTruth.Both Or ∷ OfTruth.Two Less
    ∷ OfTruth.Two Equal ∷ [])
    k
    OfTruth.Unknown

truth-byte-after : (k : ℕ) → KnownTruth (truth_after k) → 16 + k ≡ truth_byte (truth_after k)
truth-byte-after zero h = refl
truth-byte-after (suc zero) h = refl
truth-byte-after (suc (suc zero)) h = refl
truth-byte-after (suc (suc (suc zero))) h = refl
truth-byte-after (suc (suc (suc (suc zero)))) h = refl
truth-byte-after (suc (suc (suc (suc (suc zero))))) h = refl
truth-byte-after (suc (suc (suc (suc (suc (suc zero)))))) h = refl
truth-byte-after (suc (suc (suc (suc (suc (suc (suc k))))))) h = absurd h

truth-byte-of : (b : ℕ) → KnownTruth (truth_op b) → b ≡ truth_byte (truth_op b)
truth-byte-of b = go (ltb b 16) refl
  where
    go : (t : Bool) → ltb b 16 ≡ t → KnownTruth (truth_op b) → b ≡ truth_byte (truth_op b)
    go true e = rw e (λ k. absurd k)
    go false e =
        let l : 16 ≤ b = ltb-false b 16 e in
        let p : b ≡ 16 + (b - 16) = omega arith in
        rw e (λ k. p ∙ truth-byte-after (b - 16) k)

pub truth-byte : (b : ℕ) (op : TruthOp) → truth_op b ≡ op → KnownTruth op → b ≡ truth_byte op
truth-byte b op e = subst (λ o. KnownTruth o → b ≡ truth_byte o) e (truth-byte-of b)
