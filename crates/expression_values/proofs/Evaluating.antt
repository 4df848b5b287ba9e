-- Reading and then evaluating is evaluating straight: an operator's value is made of its operands' values. Assumes nothing.
use Prim.Native.Nat.{ℕ, suc, ◌+◌, ◌<◌, ◌≤◌}
use mathlib.Core.Path.{◌≡◌, refl, ap, ◌∙◌}
use mathlib.Core.Bool.{Bool, not}
use mathlib.Core.List.{List}
use native.Mathlib.Omega.{arith as numbers}
use lib.IntN.{ℤ}
use lib.ListN.{length, get_or}
use Rattle.clamped.specs.Clamp.{negated}
use Rattle.expression.specs.Syntax.{Num, literal, own, far, two, negation}
use Rattle.expression.specs.Syntax.{Truth, opposite, both, compared}
use Rattle.expression.specs.Values.{arith, join, comparison, evaluation}
use Rattle.expression.specs.Reading.{Read, got, nothing, literal_at, channel_at, num_op, truth_op, num_operands, truth_operands}
use Rattle.expression.specs.Answers.{map_read, Answers, scope, value_in, num_in, truth_in, num_at, truth_at}
use Rattle.expression.specs.declared.Arith.{Arith}
use Rattle.expression.specs.declared.Join.{Join}
use Rattle.expression.specs.declared.Compare.{Compare}
use Rattle.expression.specs.declared.NumOp.{NumOp}
use Rattle.expression.specs.declared.NumOp.TheVariants as OfNum
use Rattle.expression.specs.declared.TruthOp.{TruthOp}
use Rattle.expression.specs.declared.TruthOp.TheVariants as OfTruth
use Rattle.expression.proofs.Laws.Readings.{map_two, map_same, map-map, map-one, map-two, literal-ahead, channel-ahead}
use Rattle.expression.proofs.Laws.Readings.{num-outside, truth-outside, num-inside, truth-inside}
use Rattle.expression.proofs.Laws.Readings.{with_none, with-one, with_two, without-first}

-- what follows an operator, evaluated; `go` and `go_num` evaluate an operand at a place
abbrev pub num_step : List ℤ → List ℤ → NumOp → List ℕ → ℕ → (ℕ → Read ℤ) → Read ℤ
num_step o f OfNum.Literal s at go = literal_at s at
num_step o f OfNum.Own s at go = map_read (value_in o) (channel_at (length o) s at)
num_step o f OfNum.Far s at go = map_read (value_in f) (channel_at (length f) s at)
num_step o f (OfNum.Two k) s at go = map_two (arith k) (go at) go
num_step o f OfNum.Negation s at go = map_read negated (go at)
num_step o f OfNum.Unknown s at go = nothing

abbrev pub truth_step : TruthOp → ℕ → (ℕ → Read Bool) → (ℕ → Read ℤ) → Read Bool
truth_step (OfTruth.Constant b) at go go_num = got b at
truth_step OfTruth.Not at go go_num = map_read not (go at)
truth_step (OfTruth.Both k) at go go_num = map_two (join k) (go at) go
truth_step (OfTruth.Two k) at go go_num = map_two (comparison k) (go_num at) go_num
truth_step OfTruth.Unknown at go go_num = nothing

module _ (o f : List ℤ) where
  num-operands : (op : NumOp) (s : List ℕ) (at : ℕ) (go : ℕ → Read Num)
      → map_read (num_in o f) (num_operands (scope (length o) (length f)) op s at go)
      ≡ num_step o f op s at (λ n. map_read (num_in o f) (go n))
  unfolding evaluation
  num-operands OfNum.Literal s at go = map-map (num_in o f) literal (literal_at s at) ∙ map_same (literal_at s at)
  num-operands OfNum.Own s at go = map-map (num_in o f) own (channel_at (length o) s at)
  num-operands OfNum.Far s at go = map-map (num_in o f) far (channel_at (length f) s at)
  num-operands (OfNum.Two k) s at go = map-two (num_in o f) (num_in o f) (two k) (arith k) (λ a b. refl) (go at) go
  num-operands OfNum.Negation s at go = map-one (num_in o f) (num_in o f) negation negated (λ a. refl) (go at)
  num-operands OfNum.Unknown s at go = refl

  truth-operands : (op : TruthOp) (at : ℕ) (go : ℕ → Read Truth) (go_num : ℕ → Read Num)
      → map_read (truth_in o f) (truth_operands op at go go_num)
      ≡ truth_step op at (λ n. map_read (truth_in o f) (go n)) (λ n. map_read (num_in o f) (go_num n))
  unfolding evaluation
  truth-operands (OfTruth.Constant b) at go go_num = refl
  truth-operands OfTruth.Not at go go_num = map-one (truth_in o f) (truth_in o f) opposite not (λ t. refl) (go at)
  truth-operands (OfTruth.Both k) at go go_num = map-two (truth_in o f) (truth_in o f) (both k) (join k) (λ t u. refl) (go at) go
  truth-operands (OfTruth.Two k) at go go_num =
      map-two (num_in o f) (truth_in o f) (compared k) (comparison k) (λ a b. refl) (go_num at) go_num
  truth-operands OfTruth.Unknown at go go_num = refl

  module _ (s : List ℕ) (at : ℕ) where
    pub no-num : length s ≤ at → Answers (num_at o f) s at nothing
    unfolding num_at
    no-num h = record { ahead = tt; equal = λ fuel l. rw (num-outside (scope (length o) (length f)) s at h fuel) }

    pub no_truth : length s ≤ at → Answers (truth_at o f) s at nothing
    unfolding truth_at
    no_truth h = record { ahead = tt; equal = λ fuel l. rw (truth-outside (scope (length o) (length f)) s at h fuel) }

    -- inside, by the operator that stands there
    module _ (inside : at < length s) where
      num-step : {op : NumOp} → op ≡ num_op (get_or s at 0) → (op' : NumOp) → op ≡ op' → (g : ℕ)
          → num_at o f (suc g) s at ≡ num_step o f op' s (at + 1) (λ n. num_at o f g s n)
      unfolding num_at
      num-step is op' e g = rw (num-inside (scope (length o) (length f)) s at inside g, ← is, e) (num-operands op' s (at + 1) _)

      truth-step : {op : TruthOp} → op ≡ truth_op (get_or s at 0) → (op' : TruthOp) → op ≡ op' → (g : ℕ)
          → truth_at o f (suc g) s at ≡ truth_step op' (at + 1) (λ n. truth_at o f g s n) (λ n. num_at o f g s n)
      unfolding num_at truth_at
      truth-step is op' e g = rw (truth-inside (scope (length o) (length f)) s at inside g, ← is, e) (truth-operands op' (at + 1) _ _)

-- ---- what the evaluator answers, by the operator that stands at a place

pub record NumHere (o f : List ℤ) (s : List ℕ) (at : ℕ) (op : NumOp) : Type 0 where
  pub inside : at < length s
  pub is : op ≡ num_op (get_or s at 0)

-- the byte that was got there is b
pub op-here : {o f : List ℤ} {s : List ℕ} {at b : ℕ} {op : NumOp} → (at < length s) × ((d : ℕ) → b ≡ get_or s at d) → op ≡ num_op b
    → NumHere o f s at op
op-here h e = record { inside = h.0; is = e ∙ ap num_op (h.1 0) }

module _ {o f : List ℤ} {s : List ℕ} {at : ℕ} {op : NumOp} (h : NumHere o f s at op) where
  step-num : (op' : NumOp) → op ≡ op' → (g : ℕ) → num_at o f (suc g) s at ≡ num_step o f op' s (at + 1) (λ n. num_at o f g s n)
  step-num = num-step o f s at h.inside h.is

  pub as-literal : {r : Read ℤ} → op ≡ OfNum.Literal → r ≡ literal_at s (at + 1) → Answers (num_at o f) s at r
  as-literal e = with_none (num_at o f) s at h.inside _ (literal-ahead s at) (step-num OfNum.Literal e)

  pub as_own : {r : Read ℤ} → op ≡ OfNum.Own → r ≡ map_read (value_in o) (channel_at (length o) s (at + 1)) → Answers (num_at o f) s at r
  as_own e = with_none (num_at o f) s at h.inside _ (channel-ahead (value_in o) (length o) s at) (step-num OfNum.Own e)

  pub as-far : {r : Read ℤ} → op ≡ OfNum.Far → r ≡ map_read (value_in f) (channel_at (length f) s (at + 1)) → Answers (num_at o f) s at r
  as-far e = with_none (num_at o f) s at h.inside _ (channel-ahead (value_in f) (length f) s at) (step-num OfNum.Far e)

  pub as-unknown : op ≡ OfNum.Unknown → Answers (num_at o f) s at nothing
  as-unknown e = with_none (num_at o f) s at h.inside nothing tt (step-num OfNum.Unknown e) refl

  pub as-negation : {r r' : Read ℤ} → op ≡ OfNum.Negation → Answers (num_at o f) s (at + 1) r' → r ≡ map_read negated r'
      → Answers (num_at o f) s at r
  as-negation e = with-one (num_at o f) s at h.inside (num_at o f) negated (step-num OfNum.Negation e)

  module _ {k : Arith} (e : op ≡ OfNum.Two k) where
    pub as-two : {r r' : Read ℤ} {a : ℤ} {n : ℕ} → Answers (num_at o f) s (at + 1) (got a n) → Answers (num_at o f) s n r'
        → r ≡ map_read (arith k a) r' → Answers (num_at o f) s at r
    as-two = with_two (num_at o f) s at h.inside (num_at o f) (arith k) (step-num (OfNum.Two k) e)

    pub as-two-nothing : Answers (num_at o f) s (at + 1) nothing → Answers (num_at o f) s at nothing
    as-two-nothing = without-first (num_at o f) s at h.inside (num_at o f) (arith k) (step-num (OfNum.Two k) e)

pub record TruthHere (o f : List ℤ) (s : List ℕ) (at : ℕ) (op : TruthOp) : Type 0 where
  pub inside : at < length s
  pub is : op ≡ truth_op (get_or s at 0)

pub truth-here : {o f : List ℤ} {s : List ℕ} {at b : ℕ} {op : TruthOp} → (at < length s) × ((d : ℕ) → b ≡ get_or s at d) → op ≡ truth_op b
    → TruthHere o f s at op
truth-here h e = record { inside = h.0; is = e ∙ ap truth_op (h.1 0) }

module _ {o f : List ℤ} {s : List ℕ} {at : ℕ} {op : TruthOp} (h : TruthHere o f s at op) where
  step-truth : (op' : TruthOp) → op ≡ op' → (g : ℕ)
      → truth_at o f (suc g) s at ≡ truth_step op' (at + 1) (λ n. truth_at o f g s n) (λ n. num_at o f g s n)
  step-truth = truth-step o f s at h.inside h.is

  pub as-constant : {b : Bool} → op ≡ OfTruth.Constant b → Answers (truth_at o f) s at (got b (at + 1))
  as-constant {b} e =
      with_none (truth_at o f) s at h.inside (got b (at + 1)) (omega (numbers, h.inside)) (step-truth (OfTruth.Constant b) e) refl

  pub as-no-truth : op ≡ OfTruth.Unknown → Answers (truth_at o f) s at nothing
  as-no-truth e = with_none (truth_at o f) s at h.inside nothing tt (step-truth OfTruth.Unknown e) refl

  pub as-not : {r r' : Read Bool} → op ≡ OfTruth.Not → Answers (truth_at o f) s (at + 1) r' → r ≡ map_read not r'
      → Answers (truth_at o f) s at r
  as-not e = with-one (truth_at o f) s at h.inside (truth_at o f) not (step-truth OfTruth.Not e)

  module _ {k : Join} (e : op ≡ OfTruth.Both k) where
    pub as-both : {r r' : Read Bool} {p : Bool} {n : ℕ} → Answers (truth_at o f) s (at + 1) (got p n) → Answers (truth_at o f) s n r'
        → r ≡ map_read (join k p) r' → Answers (truth_at o f) s at r
    as-both = with_two (truth_at o f) s at h.inside (truth_at o f) (join k) (step-truth (OfTruth.Both k) e)

    pub as-both-nothing : Answers (truth_at o f) s (at + 1) nothing → Answers (truth_at o f) s at nothing
    as-both-nothing = without-first (truth_at o f) s at h.inside (truth_at o f) (join k) (step-truth (OfTruth.Both k) e)

  module _ {k : Compare} (e : op ≡ OfTruth.Two k) where
    pub as-compared : {r : Read Bool} {r' : Read ℤ} {a : ℤ} {n : ℕ} → Answers (num_at o f) s (at + 1) (got a n)
        → Answers (num_at o f) s n r' → r ≡ map_read (comparison k a) r' → Answers (truth_at o f) s at r
    as-compared = with_two (truth_at o f) s at h.inside (num_at o f) (comparison k) (step-truth (OfTruth.Two k) e)

    pub as-compared-nothing : Answers (num_at o f) s (at + 1) nothing → Answers (truth_at o f) s at nothing
    as-compared-nothing = without-first (truth_at o f) s at h.inside (num_at o f) (comparison k) (step-truth (OfTruth.Two k) e)
