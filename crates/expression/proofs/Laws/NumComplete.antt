-- A good number is read where its encoding stands. Assumes nothing.
use Rattle.std.specs.Prelude.{ℕ, suc, ◌+◌, ◌-◌, ◌≤◌, ◌≡◌, true, List, [], ◌∷◌, ◌++◌, ltb, ℤ, length, get_or, drop}
use Rattle.std.proofs.Common.{sym, ap, ◌∙◌, append_assoc, arith, length-append, length-drop, get_or-drop}
use borrow.Author.Tests.{lt-ltb, le-leb}
use Rattle.lists.specs.Laws.Booleans.{and_left, and_right}
use Rattle.expression.specs.Syntax.{Num, literal, own, far, two, negation}
use Rattle.expression.specs.Reading.{Read, got, then, literal_at, channel_at, Scope, num_operands, num, reading_expressions}
use Rattle.expression.specs.Encoding.{encode_value, encode_num, fits, good_num, encoding_expressions}
use Rattle.expression.specs.declared.NumOp.{NumOp}
use Rattle.expression.specs.declared.NumOp.TheVariants as OfNum
use Rattle.expression.proofs.Laws.Value.{FourBytes, four_bytes_lem}
use Rattle.expression.proofs.Laws.Spans.{starts-inside, starts-byte, starts-then}
use Rattle.expression.proofs.Laws.Operators.{num_byte, num-op}

-- an operator of two operands, each read where its bytes stand; the bytes are u and v, one after the other
pub two-read : {A B : Type 0} (s : List ℕ) (fuel : ℕ) (go : ℕ → Read A) (h : A → A → B) (a b : A) (at op : ℕ) (u v t : List ℕ)
    → drop at s ≡ op ∷ (u ++ v ++ t)
    → suc (length (u ++ v)) ≤ fuel
    → ((i : ℕ) (r : List ℕ) → drop i s ≡ u ++ r → length u ≤ fuel - 1 → go i ≡ got a (i + length u))
    → ((i : ℕ) (r : List ℕ) → drop i s ≡ v ++ r → length v ≤ fuel - 1 → go i ≡ got b (i + length v))
    → then (go (at + 1)) (λ x n. then (go n) (λ y m. got (h x y) m)) ≡ got (h a b) (at + suc (length (u ++ v)))
two-read s fuel go h a b at op u v t d l p q =
    let n : length (u ++ v) ≡ length u + length v = length-append u v in
    let e : drop (at + 1) s ≡ u ++ (v ++ t) = starts-then s at (op ∷ []) _ d ∙ append_assoc u v t in
    rw (p (at + 1) (v ++ t) e (omega arith), q (at + 1 + length u) t (starts-then s (at + 1) u _ e) (omega arith), n)
    (ap (got (h a b)) (omega arith))

module _ (s : List ℕ) where
  -- the k-th byte of what stands at a place
  byte_at : (at k : ℕ) (u : List ℕ) → drop at s ≡ u → get_or s (at + k) 0 ≡ get_or u k 0
  byte_at at k u e = sym (get_or-drop at s k 0) ∙ ap (λ r. get_or r k 0) e

  literal-complete : (z : ℤ) (at : ℕ) (t : List ℕ) → fits z ≡ true → drop at s ≡ encode_value z ++ t
      → literal_at s at ≡ got z (at + 4)
  literal-complete z at t h e =
      let f : FourBytes z = four_bytes_lem z h in
      let w : List ℕ = f.first ∷ f.second ∷ f.third ∷ f.fourth ∷ t in
      let d : drop at s ≡ w = e ∙ ap (λ r. r ++ t) f.bytes in
      let l : length s - at ≡ suc (suc (suc (suc (length t)))) = sym (length-drop at s) ∙ ap length d in
      rw (le-leb 4 (length s - at) (omega arith), starts-byte s at _ _ d, byte_at at 1 w d, byte_at at 2 w d, byte_at at 3 w d, f.value)

  channel-complete : (known c at : ℕ) (t : List ℕ) → ltb c known ≡ true → drop at s ≡ c ∷ t
      → channel_at known s at ≡ got c (at + 1)
  channel-complete known c at t h e = rw (lt-ltb at (length s) (starts-inside s at c t e), starts-byte s at c t e, h)

  module _ (sc : Scope) where
    num-step : (op : NumOp) (fuel less at : ℕ) (t : List ℕ) → fuel ≡ suc less → drop at s ≡ num_byte op ∷ t
        → num sc fuel s at ≡ num_operands sc op s (at + 1) (λ n. num sc less s n)
    unfolding reading_expressions
    num-step op fuel less at t f e =
        rw (f, lt-ltb at (length s) (starts-inside s at _ t e), starts-byte s at _ t e, num-op op)

    pub num-complete : (e : Num) (fuel at : ℕ) (t : List ℕ) → good_num sc e ≡ true → drop at s ≡ encode_num e ++ t
        → length (encode_num e) ≤ fuel → num sc fuel s at ≡ got e (at + length (encode_num e))
    unfolding encoding_expressions
    num-complete (literal z) fuel at t g d l =
        num-step OfNum.Literal fuel (fuel - 1) at _ (omega arith) d
        ∙ rw (literal-complete z (at + 1) t g (starts-then s at (0 ∷ []) _ d)) (ap (got (literal z)) (omega arith))
    num-complete (own c) fuel at t g d l =
        num-step OfNum.Own fuel (fuel - 1) at _ (omega arith) d
        ∙ rw (channel-complete sc.owns c (at + 1) t g (starts-then s at (1 ∷ []) _ d)) (ap (got (own c)) (omega arith))
    num-complete (far c) fuel at t g d l =
        num-step OfNum.Far fuel (fuel - 1) at _ (omega arith) d
        ∙ rw (channel-complete sc.fars c (at + 1) t g (starts-then s at (2 ∷ []) _ d)) (ap (got (far c)) (omega arith))
    num-complete (two k a b) fuel at t g d l =
        num-step (OfNum.Two k) fuel (fuel - 1) at _ (omega arith) d
        ∙ two-read s fuel (λ i. num sc (fuel - 1) s i) (two k) a b at _ (encode_num a) (encode_num b) t d l
        (λ i r. num-complete a (fuel - 1) i r (and_left (good_num sc a) _ g))
        (λ i r. num-complete b (fuel - 1) i r (and_right (good_num sc a) _ g))
    num-complete (negation a) fuel at t g d l =
        num-step OfNum.Negation fuel (fuel - 1) at _ (omega arith) d
        ∙ rw (num-complete a (fuel - 1) (at + 1) t g (starts-then s at (6 ∷ []) _ d) (omega arith)) (ap (got (negation a)) (omega arith))
