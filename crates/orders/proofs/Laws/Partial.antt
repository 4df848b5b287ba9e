-- Partial evaluation: a task that a node sent comes to the same at the receiver. Assumes nothing.
use Rattle.std.specs.Prelude.{◌≡◌}
use Rattle.std.proofs.Math.Path.{refl, ap, ap₂}
use Rattle.std.proofs.Math.Bool.{not}
use Rattle.expression.specs.Syntax.{Num, literal, own, far, two, negation}
use Rattle.expression.specs.Syntax.{Truth, constant, opposite, both, compared}
use Rattle.expression.specs.Values.{arith, join, comparison, num_value, truth_value}
use Rattle.orders.specs.Calculus.{State, partial_num, partial_truth}

-- s is the sender's state and q the receiver's; no far channel is left, so f has no say
module _ (s q f : State) where
  pub partial-num : (e : Num) → num_value q f (partial_num s e) ≡ num_value s q e
  unfolding num_value partial_num
  partial-num (literal z) = refl
  partial-num (own c) = refl
  partial-num (far c) = refl
  partial-num (two k a b) = ap₂ (arith k) (partial-num a) (partial-num b)
  partial-num (negation a) = ap (λ z. num_value q f (negation (literal z))) (partial-num a)

  pub partial-truth : (t : Truth) → truth_value q f (partial_truth s t) ≡ truth_value s q t
  unfolding truth_value partial_truth
  partial-truth (constant b) = refl
  partial-truth (opposite t) = ap not (partial-truth t)
  partial-truth (both k t u) = ap₂ (join k) (partial-truth t) (partial-truth u)
  partial-truth (compared k a b) = ap₂ (comparison k) (partial-num a) (partial-num b)
