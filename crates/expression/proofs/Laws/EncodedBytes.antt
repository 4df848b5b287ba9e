-- The bytes of an encoded expression are bytes, if its channels are. Assumes nothing.
use Rattle.std.specs.Prelude.{ℕ, ◌%◌, ◌/◌, ◌≤◌, ◌<◌, ◌≡◌, Bool, true, false, ltb, ℤ}
use mathlib.Core.List.{List, [], ◌∷◌, ◌++◌, flat_map}
use Rattle.std.proofs.Common.{arith}
use borrow.Author.Tests.{ltb-true, lt-ltb}
use Rattle.lists.specs.Lists.{all_of}
use Rattle.lists.specs.Laws.Booleans.{and_left, and_right}
use Rattle.lists.specs.Laws.Alls.{all_of-none, all_of-cons, all_of-append, all_of-weaken, all_of-flat_map}
use Rattle.expression.specs.Syntax.{Num, literal, own, far, two, negation, Truth, constant, opposite, both, compared}
use Rattle.expression.specs.Reading.{Scope}
use Rattle.expression.specs.Encoding.{bits, encode_value, arith_byte, constant_byte, join_byte, compare_byte, encode_num, encode_truth}
use Rattle.expression.specs.Encoding.{good_num, good_truth}
use Rattle.expression.specs.declared.Arith.{Arith}
use Rattle.expression.specs.declared.Arith.TheVariants.{Sum, Difference, Product}
use Rattle.expression.specs.declared.Join.{Join}
use Rattle.expression.specs.declared.Join.TheVariants.{And, Or}
use Rattle.expression.specs.declared.Compare.{Compare}
use Rattle.expression.specs.declared.Compare.TheVariants.{Less, Equal}
use Rattle.expression.specs.Bytes.{Bytes}

-- ---- lists of bytes

pub bytes-cons : (b : ℕ) (s : List ℕ) → b < 256 → Bytes s → Bytes (b ∷ s)
bytes-cons b s h k = all_of-cons (λ b. ltb b 256) b s (lt-ltb b 256 h) k

pub bytes-none : Bytes []
bytes-none = all_of-none (λ b. ltb b 256)

pub bytes-append : (s t : List ℕ) → Bytes s → Bytes t → Bytes (s ++ t)
bytes-append s t h k = all_of-append (λ b. ltb b 256) s t h k

pub bytes-flat_map : {A : Type 0} (enc : A → List ℕ) (good : A → Bool) (l : List A) → ((x : A) → good x ≡ true → Bytes (enc x))
    → all_of good l ≡ true → Bytes (flat_map enc l)
bytes-flat_map enc good l f h =
    all_of-flat_map (λ b. ltb b 256) enc l (all_of-weaken (λ x. all_of (λ b. ltb b 256) (enc x)) good f l h)

-- ---- expressions

pub value-bytes : (z : ℤ) → Bytes (encode_value z)
unfolding encode_value
value-bytes z =
    let n : ℕ = bits z in
    bytes-cons (n % 256) _ (omega arith)
    (bytes-cons (n / 256 % 256) _ (omega arith)
    (bytes-cons (n / 65536 % 256) _ (omega arith) (bytes-cons (n / 16777216 % 256) [] (omega arith) bytes-none)))

arith-byte : (k : Arith) → arith_byte k < 256
arith-byte Sum = omega arith
arith-byte Difference = omega arith
arith-byte Product = omega arith

constant-byte : (b : Bool) → constant_byte b < 256
constant-byte false = omega arith
constant-byte true = omega arith

join-byte : (k : Join) → join_byte k < 256
join-byte And = omega arith
join-byte Or = omega arith

compare-byte : (k : Compare) → compare_byte k < 256
compare-byte Less = omega arith
compare-byte Equal = omega arith

-- channels in the scope are bytes
module _ (sc : Scope) (owns : sc.owns ≤ 256) (fars : sc.fars ≤ 256) where
  pub num-bytes : (e : Num) → good_num sc e ≡ true → Bytes (encode_num e)
  unfolding encode_num good_num
  num-bytes (literal z) h = bytes-cons 0 (encode_value z) (omega arith) (value-bytes z)
  num-bytes (own c) h =
      let less = ltb-true c sc.owns h in
      bytes-cons 1 (c ∷ []) (omega arith) (bytes-cons c [] (omega arith) bytes-none)
  num-bytes (far c) h =
      let less = ltb-true c sc.fars h in
      bytes-cons 2 (c ∷ []) (omega arith) (bytes-cons c [] (omega arith) bytes-none)
  num-bytes (two k a b) h =
      bytes-cons (arith_byte k) (encode_num a ++ encode_num b) (arith-byte k)
      (bytes-append (encode_num a) (encode_num b) (num-bytes a (and_left (good_num sc a) (good_num sc b) h))
      (num-bytes b (and_right (good_num sc a) (good_num sc b) h)))
  num-bytes (negation a) h = bytes-cons 6 (encode_num a) (omega arith) (num-bytes a h)

  pub truth-bytes : (t : Truth) → good_truth sc t ≡ true → Bytes (encode_truth t)
  unfolding encode_truth good_truth
  truth-bytes (constant b) h = bytes-cons (constant_byte b) [] (constant-byte b) bytes-none
  truth-bytes (opposite t) h = bytes-cons 18 (encode_truth t) (omega arith) (truth-bytes t h)
  truth-bytes (both k t u) h =
      bytes-cons (join_byte k) (encode_truth t ++ encode_truth u) (join-byte k)
      (bytes-append (encode_truth t) (encode_truth u) (truth-bytes t (and_left (good_truth sc t) (good_truth sc u) h))
      (truth-bytes u (and_right (good_truth sc t) (good_truth sc u) h)))
  truth-bytes (compared k a b) h =
      bytes-cons (compare_byte k) (encode_num a ++ encode_num b) (compare-byte k)
      (bytes-append (encode_num a) (encode_num b) (num-bytes a (and_left (good_num sc a) (good_num sc b) h))
      (num-bytes b (and_right (good_num sc a) (good_num sc b) h)))
