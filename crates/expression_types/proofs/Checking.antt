-- The type check: only the end of an expression counts, and it is known from the ends of its operands. Assumes nothing.
use Prim.Native.Nat.{ℕ, zero, suc, ◌+◌, ◌<◌, ◌≤◌}
use mathlib.Core.Path.{◌≡◌, refl, sym, ap, ◌∙◌}
use mathlib.Core.Bool.{Bool}
use mathlib.Core.List.{List}
use native.Mathlib.Omega.{arith}
use lib.ListN.{length, get_or}
use Rattle.expression.specs.Syntax.{Num, literal, own, far, two, negation}
use Rattle.expression.specs.Syntax.{Truth, opposite, both, compared}
use Rattle.expression.specs.Reading.{Read, got, nothing, literal_at, channel_at, num_op, truth_op}
use Rattle.expression.specs.Reading.{Scope, num_operands, truth_operands}
use Rattle.expression.specs.Answers.{map_read, Answers, end_of, num_end, truth_end}
use Rattle.expression.specs.declared.Arith.{Arith}
use Rattle.expression.specs.declared.Arith.TheVariants as OfArith
use Rattle.expression.specs.declared.Join.{Join}
use Rattle.expression.specs.declared.Compare.{Compare}
use Rattle.expression.specs.declared.NumOp.{NumOp}
use Rattle.expression.specs.declared.NumOp.TheVariants as OfNum
use Rattle.expression.specs.declared.TruthOp.{TruthOp}
use Rattle.expression.specs.declared.TruthOp.TheVariants as OfTruth
use Rattle.expression.proofs.Laws.Readings.{Reader, map_two, map_same, map-map, map-one, map-two, ahead-map, literal-ahead, channel-ahead}
use Rattle.expression.proofs.Laws.Readings.{num-outside, truth-outside, num-inside, truth-inside}
use Rattle.expression.proofs.Laws.Readings.{with_none, with-one, with_two, without-first}

-- only the last operand's end counts
abbrev same : Unit {0} → Unit {0}
same a = a

abbrev last : Unit {0} → Unit {0} → Unit {0}
last a b = b

-- what follows an operator, checked; `go` and `go_num` check an operand at a place
abbrev num_step : Scope → NumOp → List ℕ → ℕ → (ℕ → Read (Unit {0})) → Read (Unit {0})
num_step sc OfNum.Literal s at go = end_of (literal_at s at)
num_step sc OfNum.Own s at go = end_of (channel_at sc.owns s at)
num_step sc OfNum.Far s at go = end_of (channel_at sc.fars s at)
num_step sc (OfNum.Two k) s at go = map_two last (go at) go
num_step sc OfNum.Negation s at go = map_read same (go at)
num_step sc OfNum.Unknown s at go = nothing

abbrev truth_step : TruthOp → ℕ → (ℕ → Read (Unit {0})) → (ℕ → Read (Unit {0})) → Read (Unit {0})
truth_step (OfTruth.Constant b) at go go_num = got tt at
truth_step OfTruth.Not at go go_num = map_read same (go at)
truth_step (OfTruth.Both k) at go go_num = map_two last (go at) go
truth_step (OfTruth.Two k) at go go_num = map_two last (go_num at) go_num
truth_step OfTruth.Unknown at go go_num = nothing

num-operands : (sc : Scope) (op : NumOp) (s : List ℕ) (at : ℕ) (go : ℕ → Read Num)
    → end_of (num_operands sc op s at go) ≡ num_step sc op s at (λ n. end_of (go n))
num-operands sc OfNum.Literal s at go = map-map (λ _. tt) literal (literal_at s at)
num-operands sc OfNum.Own s at go = map-map (λ _. tt) own (channel_at sc.owns s at)
num-operands sc OfNum.Far s at go = map-map (λ _. tt) far (channel_at sc.fars s at)
num-operands sc (OfNum.Two k) s at go = map-two (λ _. tt) (λ _. tt) (two k) last (λ a b. refl) (go at) go
num-operands sc OfNum.Negation s at go = map-one (λ _. tt) (λ _. tt) negation same (λ a. refl) (go at)
num-operands sc OfNum.Unknown s at go = refl

truth-operands : (op : TruthOp) (at : ℕ) (go : ℕ → Read Truth) (go_num : ℕ → Read Num)
    → end_of (truth_operands op at go go_num) ≡ truth_step op at (λ n. end_of (go n)) (λ n. end_of (go_num n))
truth-operands (OfTruth.Constant b) at go go_num = refl
truth-operands OfTruth.Not at go go_num = map-one (λ _. tt) (λ _. tt) opposite same (λ t. refl) (go at)
truth-operands (OfTruth.Both k) at go go_num = map-two (λ _. tt) (λ _. tt) (both k) last (λ t u. refl) (go at) go
truth-operands (OfTruth.Two k) at go go_num = map-two (λ _. tt) (λ _. tt) (compared k) last (λ a b. refl) (go_num at) go_num
truth-operands OfTruth.Unknown at go go_num = refl

module _ (sc : Scope) (s : List ℕ) (at : ℕ) where
  pub no-num : length s ≤ at → Answers (num_end sc) s at nothing
  unfolding num_end
  no-num h = record { ahead = tt; equal = λ fuel l. rw (num-outside sc s at h fuel) }

  pub no_truth : length s ≤ at → Answers (truth_end sc) s at nothing
  unfolding truth_end
  no_truth h = record { ahead = tt; equal = λ fuel l. rw (truth-outside sc s at h fuel) }

-- ---- operators of one and of two operands, whose ends `go` finds

module _ (out go : Reader (Unit {0})) (s : List ℕ) (at : ℕ) (inside : at < length s) where
  one : {r : Read (Unit {0})} → ((g : ℕ) → out (suc g) s at ≡ map_read same (go g s (at + 1))) → Answers go s (at + 1) r
      → Answers out s at r
  one {r} e d = with-one out s at inside go same e d (sym (map_same r))

  module _ (e : (g : ℕ) → out (suc g) s at ≡ map_two last (go g s (at + 1)) (λ n. go g s n))
    where
      second : {n : ℕ} {r : Read (Unit {0})} → Answers go s (at + 1) (got tt n) → Answers go s n r → Answers out s at r
      second {n} {r} d d' = with_two out s at inside go last e d d' (sym (map_same r))

      no-first : Answers go s (at + 1) nothing → Answers out s at nothing
      no-first d = without-first out s at inside go last e d

-- ---- what the check answers, by the operator that stands at a place

-- `of` says which operator a byte is
pub record Here {Op : Type 0} (of : ℕ → Op) (sc : Scope) (s : List ℕ) (at : ℕ) (op : Op) : Type 0 where
  pub inside : at < length s
  pub is : op ≡ of (get_or s at 0)

-- the operator of numbers that stands at a place
pub here : (sc : Scope) (s : List ℕ) (at : ℕ) → at < length s → Here num_op sc s at (num_op (get_or s at 0))
here sc s at h = record { inside = h; is = refl }

-- the same, where the byte that was got there is b
pub byte-here : {sc : Scope} {s : List ℕ} {at b : ℕ} → (at < length s) × ((d : ℕ) → b ≡ get_or s at d) → Here num_op sc s at (num_op b)
byte-here h = record { inside = h.0; is = ap num_op (h.1 0) }

-- and an operator of truths
pub op-here : {sc : Scope} {s : List ℕ} {at b : ℕ} {op : TruthOp} → (at < length s) × ((d : ℕ) → b ≡ get_or s at d) → op ≡ truth_op b
    → Here truth_op sc s at op
op-here h e = record { inside = h.0; is = e ∙ ap truth_op (h.1 0) }

-- which bytes are operations
pub operation : (b : ℕ) → 3 ≤ b → b < 6 → (k : Arith) × (num_op b ≡ OfNum.Two k)
operation zero l u = absurd (omega arith)
operation (suc zero) l u = absurd (omega arith)
operation (suc (suc zero)) l u = absurd (omega arith)
operation (suc (suc (suc zero))) l u = (OfArith.Sum, refl)
operation (suc (suc (suc (suc zero)))) l u = (OfArith.Difference, refl)
operation (suc (suc (suc (suc (suc zero))))) l u = (OfArith.Product, refl)
operation (suc (suc (suc (suc (suc (suc b)))))) l u = absurd (omega arith)

module _ {sc : Scope} {s : List ℕ} {at : ℕ} {op : NumOp} (h : Here num_op sc s at op) where
  step-num : (op' : NumOp) → op ≡ op' → (g : ℕ) → num_end sc (suc g) s at ≡ num_step sc op' s (at + 1) (λ n. num_end sc g s n)
  unfolding num_end
  step-num op' e g = rw (num-inside sc s at h.inside g, ← h.is, e) (num-operands sc op' s (at + 1) _)

  pub as-literal : {r : Read (Unit {0})} → op ≡ OfNum.Literal → r ≡ end_of (literal_at s (at + 1)) → Answers (num_end sc) s at r
  as-literal e =
      with_none (num_end sc) s at h.inside _ (ahead-map (λ _. tt) at (length s) (literal_at s (at + 1)) (literal-ahead s at))
      (step-num OfNum.Literal e)

  pub as_own : {r : Read (Unit {0})} → op ≡ OfNum.Own → r ≡ end_of (channel_at sc.owns s (at + 1)) → Answers (num_end sc) s at r
  as_own e = with_none (num_end sc) s at h.inside _ (channel-ahead (λ _. tt) sc.owns s at) (step-num OfNum.Own e)

  pub as-far : {r : Read (Unit {0})} → op ≡ OfNum.Far → r ≡ end_of (channel_at sc.fars s (at + 1)) → Answers (num_end sc) s at r
  as-far e = with_none (num_end sc) s at h.inside _ (channel-ahead (λ _. tt) sc.fars s at) (step-num OfNum.Far e)

  pub as-unknown : op ≡ OfNum.Unknown → Answers (num_end sc) s at nothing
  as-unknown e = with_none (num_end sc) s at h.inside nothing tt (step-num OfNum.Unknown e) refl

  pub as-negation : {r : Read (Unit {0})} → op ≡ OfNum.Negation → Answers (num_end sc) s (at + 1) r → Answers (num_end sc) s at r
  as-negation e = one (num_end sc) (num_end sc) s at h.inside (step-num OfNum.Negation e)

  module _ {k : Arith} (e : op ≡ OfNum.Two k) where
    pub as-two : {n : ℕ} {r : Read (Unit {0})} → Answers (num_end sc) s (at + 1) (got tt n) → Answers (num_end sc) s n r
        → Answers (num_end sc) s at r
    as-two = second (num_end sc) (num_end sc) s at h.inside (step-num (OfNum.Two k) e)

    pub as-two-nothing : Answers (num_end sc) s (at + 1) nothing → Answers (num_end sc) s at nothing
    as-two-nothing = no-first (num_end sc) (num_end sc) s at h.inside (step-num (OfNum.Two k) e)

module _ {sc : Scope} {s : List ℕ} {at : ℕ} {op : TruthOp} (h : Here truth_op sc s at op) where
  step-truth : (op' : TruthOp) → op ≡ op' → (g : ℕ)
      → truth_end sc (suc g) s at ≡ truth_step op' (at + 1) (λ n. truth_end sc g s n) (λ n. num_end sc g s n)
  unfolding num_end truth_end
  step-truth op' e g = rw (truth-inside sc s at h.inside g, ← h.is, e) (truth-operands op' (at + 1) _ _)

  pub as-constant : {b : Bool} → op ≡ OfTruth.Constant b → Answers (truth_end sc) s at (got tt (at + 1))
  as-constant {b} e =
      with_none (truth_end sc) s at h.inside (got tt (at + 1)) (omega (arith, h.inside)) (step-truth (OfTruth.Constant b) e) refl

  pub as-no-truth : op ≡ OfTruth.Unknown → Answers (truth_end sc) s at nothing
  as-no-truth e = with_none (truth_end sc) s at h.inside nothing tt (step-truth OfTruth.Unknown e) refl

  pub as-not : {r : Read (Unit {0})} → op ≡ OfTruth.Not → Answers (truth_end sc) s (at + 1) r → Answers (truth_end sc) s at r
  as-not e = one (truth_end sc) (truth_end sc) s at h.inside (step-truth OfTruth.Not e)

  module _ {k : Join} (e : op ≡ OfTruth.Both k) where
    pub as-both : {n : ℕ} {r : Read (Unit {0})} → Answers (truth_end sc) s (at + 1) (got tt n) → Answers (truth_end sc) s n r
        → Answers (truth_end sc) s at r
    as-both = second (truth_end sc) (truth_end sc) s at h.inside (step-truth (OfTruth.Both k) e)

    pub as-both-nothing : Answers (truth_end sc) s (at + 1) nothing → Answers (truth_end sc) s at nothing
    as-both-nothing = no-first (truth_end sc) (truth_end sc) s at h.inside (step-truth (OfTruth.Both k) e)

  module _ {k : Compare} (e : op ≡ OfTruth.Two k) where
    pub as-compared : {n : ℕ} {r : Read (Unit {0})} → Answers (num_end sc) s (at + 1) (got tt n) → Answers (num_end sc) s n r
        → Answers (truth_end sc) s at r
    as-compared = second (truth_end sc) (num_end sc) s at h.inside (step-truth (OfTruth.Two k) e)

    pub as-compared-nothing : Answers (num_end sc) s (at + 1) nothing → Answers (truth_end sc) s at nothing
    as-compared-nothing = no-first (truth_end sc) (num_end sc) s at h.inside (step-truth (OfTruth.Two k) e)
