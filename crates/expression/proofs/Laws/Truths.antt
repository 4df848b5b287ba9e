-- Truths: one that was read is good and its encoding stands there, and a good one is read where its encoding stands.
-- Assumes nothing.
use Prim.Native.Nat.{ℕ, zero, suc, ◌+◌, ◌-◌, ◌≤◌}
use Rattle.std.specs.Prelude.{◌≡◌, true, List, [], ◌∷◌, ◌++◌, length, get_or, drop}
use Rattle.std.proofs.Math.Path.{refl}
use Rattle.std.proofs.Common.{ap, ◌∙◌, arith}
use borrow.Author.Tests.{ltb-true, lt-ltb}
use Rattle.lists.specs.Laws.Booleans.{and_both, and_left, and_right}
use Rattle.expression.specs.Syntax.{Num, Truth, constant, opposite, both, compared}
use Rattle.expression.specs.Reading.{Read, got, Scope, num, truth_op, truth_operands, truth, reading_expressions}
use Rattle.expression.specs.Encoding.{encode_num, encode_truth, good_num, good_truth, encoding_expressions}
use Rattle.expression.specs.declared.TruthOp.{TruthOp}
use Rattle.expression.specs.declared.TruthOp.TheVariants as OfTruth
use Rattle.expression.specs.Bytes.{Bytes}
use Rattle.expression.proofs.Laws.Spans.{Spans, span-one, span-append, starts-inside, starts-byte, starts-then}
use Rattle.expression.proofs.Laws.Holds.{Holds, held, none, only_if-holds, then-holds}
use Rattle.expression.proofs.Laws.Operators.{truth_byte, truth-byte, truth-op, KnownTruth}
use Rattle.expression.proofs.Laws.NumSound.{NumAt, num-sound}
use Rattle.expression.proofs.Laws.NumComplete.{two-read, num-complete}

module _ (sc : Scope) (s : List ℕ) (bytes : Bytes s) where
  -- from the place at on stand the bytes of a good truth, up to the place n
  abbrev pub TruthAt : ℕ → Truth → ℕ → Type 0
  TruthAt at e n = (good_truth sc e ≡ true) × Spans s at n (encode_truth e)

  truth-operands-sound : (op : TruthOp) (at : ℕ) (go : ℕ → Read Truth) (go_num : ℕ → Read Num)
      → (KnownTruth op → Spans s at (at + 1) (truth_byte op ∷ [])) → ((n : ℕ) → Holds (TruthAt n) (go n))
      → ((n : ℕ) → Holds (NumAt sc s bytes n) (go_num n)) → Holds (TruthAt at) (truth_operands op (at + 1) go go_num)
  unfolding encoding_expressions
  truth-operands-sound (OfTruth.Constant b) at go go_num o h i = held (refl, o tt)
  truth-operands-sound OfTruth.Not at go go_num o h i = then-holds _ (h (at + 1)) λ t n p. held (p.0, span-append s (o tt) p.1)
  truth-operands-sound (OfTruth.Both k) at go go_num o h i =
      then-holds _ (h (at + 1)) λ a n p. then-holds _ (h n) λ b m q. held
      (and_both p.0 q.0, span-append s (span-append s (o tt) p.1) q.1)
  truth-operands-sound (OfTruth.Two k) at go go_num o h i =
      then-holds _ (i (at + 1)) λ a n p. then-holds _ (i n) λ b m q. held
      (and_both p.0 q.0, span-append s (span-append s (o tt) p.1) q.1)
  truth-operands-sound OfTruth.Unknown at go go_num o h i = none

  pub truth-sound : (fuel at : ℕ) → Holds (TruthAt at) (truth sc fuel s at)
  unfolding reading_expressions
  truth-sound zero at = none
  truth-sound (suc fuel) at =
      only_if-holds λ e.
      truth-operands-sound (truth_op (get_or s at 0)) at (λ n. truth sc fuel s n) (λ n. num sc fuel s n)
      (λ k. span-one s at (at + 1) _ refl (ltb-true at (length s) e) (truth-byte (get_or s at 0) _ refl k))
      (λ n. truth-sound fuel n)
      (λ n. num-sound sc s bytes fuel n)

module _ (s : List ℕ) (sc : Scope) where
  truth-step : (op : TruthOp) (fuel less at : ℕ) (t : List ℕ) → fuel ≡ suc less → drop at s ≡ truth_byte op ∷ t
      → truth sc fuel s at ≡ truth_operands op (at + 1) (λ n. truth sc less s n) (λ n. num sc less s n)
  unfolding reading_expressions
  truth-step op fuel less at t f e =
      rw (f, lt-ltb at (length s) (starts-inside s at _ t e), starts-byte s at _ t e, truth-op op)

  pub truth-complete : (e : Truth) (fuel at : ℕ) (t : List ℕ) → good_truth sc e ≡ true → drop at s ≡ encode_truth e ++ t
      → length (encode_truth e) ≤ fuel → truth sc fuel s at ≡ got e (at + length (encode_truth e))
  unfolding encoding_expressions
  truth-complete (constant b) fuel at t g d l = truth-step (OfTruth.Constant b) fuel (fuel - 1) at _ (omega arith) d
  truth-complete (opposite u) fuel at t g d l =
      truth-step OfTruth.Not fuel (fuel - 1) at _ (omega arith) d
      ∙ rw (truth-complete u (fuel - 1) (at + 1) t g (starts-then s at (18 ∷ []) _ d) (omega arith)) (ap (got (opposite u)) (omega arith))
  truth-complete (both k a b) fuel at t g d l =
      truth-step (OfTruth.Both k) fuel (fuel - 1) at _ (omega arith) d
      ∙ two-read s fuel (λ i. truth sc (fuel - 1) s i) (both k) a b at _ (encode_truth a) (encode_truth b) t d l
      (λ i r. truth-complete a (fuel - 1) i r (and_left (good_truth sc a) _ g))
      (λ i r. truth-complete b (fuel - 1) i r (and_right (good_truth sc a) _ g))
  truth-complete (compared k a b) fuel at t g d l =
      truth-step (OfTruth.Two k) fuel (fuel - 1) at _ (omega arith) d
      ∙ two-read s fuel (λ i. num sc (fuel - 1) s i) (compared k) a b at _ (encode_num a) (encode_num b) t d l
      (λ i r. num-complete s sc a (fuel - 1) i r (and_left (good_num sc a) _ g))
      (λ i r. num-complete s sc b (fuel - 1) i r (and_right (good_num sc a) _ g))
