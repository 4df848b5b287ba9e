-- What an expression comes to depends on the values of the channels in its scope alone. Assumes nothing.
use Rattle.std.specs.Prelude.{ℕ, ◌<◌, ◌≡◌, true, ℤ}
use Rattle.std.proofs.Math.Path.{refl, ap, ap₂}
use Rattle.std.proofs.Math.Bool.{not}
use Rattle.std.proofs.Common.{ltb-true}
use Rattle.lists.specs.Laws.Booleans.{and_left, and_right}
use Rattle.clamped.specs.Clamp.{negated}
use Rattle.expression.specs.Syntax.{Num, literal, own, far, two, negation}
use Rattle.expression.specs.Syntax.{Truth, constant, opposite, both, compared}
use Rattle.expression.specs.Reading.{Scope}
use Rattle.expression.specs.Values.{arith, join, comparison, num_value, truth_value}
use Rattle.expression.specs.Encoding.{good_num, good_truth}

module _ (sc : Scope) (o o' f f' : ℕ → ℤ) (owns : (c : ℕ) → c < sc.owns → o c ≡ o' c)
    (fars : (c : ℕ) → c < sc.fars → f c ≡ f' c) where
  pub num-agree : (e : Num) → good_num sc e ≡ true → num_value o f e ≡ num_value o' f' e
  unfolding num_value good_num
  num-agree (literal z) h = refl
  num-agree (own c) h = owns c (ltb-true c sc.owns h)
  num-agree (far c) h = fars c (ltb-true c sc.fars h)
  num-agree (two k a b) h =
      ap₂ (arith k) (num-agree a (and_left (good_num sc a) (good_num sc b) h)) (num-agree b (and_right (good_num sc a) (good_num sc b) h))
  num-agree (negation a) h = ap negated (num-agree a h)

  pub truth-agree : (t : Truth) → good_truth sc t ≡ true → truth_value o f t ≡ truth_value o' f' t
  unfolding truth_value good_truth
  truth-agree (constant b) h = refl
  truth-agree (opposite t) h = ap not (truth-agree t h)
  truth-agree (both k t u) h =
      ap₂ (join k) (truth-agree t (and_left (good_truth sc t) (good_truth sc u) h))
      (truth-agree u (and_right (good_truth sc t) (good_truth sc u) h))
  truth-agree (compared k a b) h =
      ap₂ (comparison k) (num-agree a (and_left (good_num sc a) (good_num sc b) h)) (num-agree b (and_right (good_num sc a) (good_num sc b) h))
