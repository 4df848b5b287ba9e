-- Document 01, "Expressions": how bytes are read as an expression, operator first, operands after it. Assumes nothing.
use Rattle.std.specs.Prelude.{ℕ, zero, suc, ◌+◌, ◌-◌, ◌*◌, Bool, true, false, cond, List, [], ◌∷◌, ltb, leb, eqb, ℤ, pos, negsuc, length, get_or}
use Rattle.expression.specs.Syntax.{Num, literal, own, far, two, negation}
use Rattle.expression.specs.Syntax.{Truth, constant, opposite, both, compared}
use Rattle.expression.specs.declared.Arith.TheVariants.{Sum, Difference, Product}
use Rattle.expression.specs.declared.Join.TheVariants.{And, Or}
use Rattle.expression.specs.declared.Compare.TheVariants.{Less, Equal}
use Rattle.expression.specs.declared.NumOp.{NumOp}
use Rattle.expression.specs.declared.NumOp.TheVariants as OfNum
use Rattle.expression.specs.declared.TruthOp.{TruthOp}
use Rattle.expression.specs.declared.TruthOp.TheVariants as OfTruth

-- what was read and the place after it; or nothing, where the bytes break a rule
pub data Read (A : Type 0) : Type 0 where
  got : A → ℕ → Read A
  nothing : Read A

abbrev pub only_if : {A : Type 0} → Bool → Read A → Read A
only_if true r = r
only_if false r = nothing

abbrev pub then : {A B : Type 0} → Read A → (A → ℕ → Read B) → Read B
then (got a n) k = k a n
then nothing k = nothing

-- four bytes, "low byte first"
abbrev pub word : ℕ → ℕ → ℕ → ℕ → ℕ
word a b c d = a + b * 256 + c * 65536 + d * 16777216

abbrev pub signed : ℕ → ℤ
signed n = cond (ltb n 2147483648) (pos n) (negsuc (4294967295 - n))

abbrev pub literal_at : List ℕ → ℕ → Read ℤ
literal_at s at =
    only_if (leb 4 (length s - at))
    (got (signed (word (get_or s at 0) (get_or s (at + 1) 0) (get_or s (at + 2) 0) (get_or s (at + 3) 0))) (at + 4))

-- a channel's number, of n that are known there
abbrev pub channel_at : ℕ → List ℕ → ℕ → Read ℕ
channel_at n s at = only_if (ltb at (length s)) (only_if (ltb (get_or s at 0) n) (got (get_or s at 0) (at + 1)))

-- "Numbers: 0 literal", 1 own channel, 2 far channel, "3 sum, 4 difference, 5 product, 6 negation"
abbrev pub num_op : ℕ → NumOp
num_op b =
    get_or (OfNum.Literal ∷ OfNum.Own ∷ OfNum.Far ∷ OfNum.Two Sum ∷ OfNum.Two Difference ∷ OfNum.Two Product ∷ OfNum.Negation
    ∷ []) b OfNum.Unknown

-- "Truths: 16 false, 17 true, 18 not, 19 and, 20 or, 21 less, 22 equal"
abbrev pub truth_op : ℕ → TruthOp
truth_op b =
    cond (ltb b 16) OfTruth.Unknown
    (get_or
    (OfTruth.Constant false ∷ OfTruth.Constant true ∷ OfTruth.Not ∷ OfTruth.Both And ∷ OfTruth.Both Or ∷ OfTruth.Two Less
    ∷ OfTruth.Two Equal ∷ [])
    (b - 16)
    OfTruth.Unknown)

-- How many own and far channels are known: far ones are 0 where none may stand
pub record Scope : Type 0 where
  pub owns : ℕ
  pub fars : ℕ

-- what follows a number's operator; `go` reads an operand at a place
abbrev pub num_operands : Scope → NumOp → List ℕ → ℕ → (ℕ → Read Num) → Read Num
num_operands sc OfNum.Literal s at go = then (literal_at s at) (λ z n. got (literal z) n)
num_operands sc OfNum.Own s at go = then (channel_at sc.owns s at) (λ c n. got (own c) n)
num_operands sc OfNum.Far s at go = then (channel_at sc.fars s at) (λ c n. got (far c) n)
num_operands sc (OfNum.Two k) s at go = then (go at) (λ a n. then (go n) (λ b m. got (two k a b) m))
num_operands sc OfNum.Negation s at go = then (go at) (λ a n. got (negation a) n)
num_operands sc OfNum.Unknown s at go = nothing

-- the number at a place of s, at most `fuel` operators deep: as many as there are unread bytes is enough
unfoldable pub num : Scope → ℕ → List ℕ → ℕ → Read Num
num sc zero s at = nothing
num sc (suc fuel) s at =
    only_if (ltb at (length s)) (num_operands sc (num_op (get_or s at 0)) s (at + 1) (λ n. num sc fuel s n))

-- what follows a truth's operator; `go` reads a truth, `go_num` a number
abbrev pub truth_operands : TruthOp → ℕ → (ℕ → Read Truth) → (ℕ → Read Num) → Read Truth
truth_operands (OfTruth.Constant b) at go go_num = got (constant b) at
truth_operands OfTruth.Not at go go_num = then (go at) (λ t n. got (opposite t) n)
truth_operands (OfTruth.Both k) at go go_num = then (go at) (λ t n. then (go n) (λ u m. got (both k t u) m))
truth_operands (OfTruth.Two k) at go go_num = then (go_num at) (λ a n. then (go_num n) (λ b m. got (compared k a b) m))
truth_operands OfTruth.Unknown at go go_num = nothing

unfoldable pub truth : Scope → ℕ → List ℕ → ℕ → Read Truth
truth sc zero s at = nothing
truth sc (suc fuel) s at =
    only_if (ltb at (length s)) (truth_operands (truth_op (get_or s at 0)) (at + 1) (λ n. truth sc fuel s n) (λ n. num sc fuel s n))

-- "exactly that many bytes": the expression ends where its bytes end
abbrev pub exactly : {A : Type 0} → ℕ → Read A → Read A
exactly n (got a m) = only_if (eqb m n) (got a m)
exactly n nothing = nothing

-- the expression that the bytes s hold: a number, a truth
unfoldable pub whole_num : Scope → List ℕ → Read Num
whole_num sc s = exactly (length s) (num sc (length s) s 0)

unfoldable pub whole_truth : Scope → List ℕ → Read Truth
whole_truth sc s = exactly (length s) (truth sc (length s) s 0)

-- to open all definitions of this file, on an `unfolding` line
unfoldable pub reading_expressions : Unit {0}
unfolding num truth whole_num whole_truth
reading_expressions = tt
