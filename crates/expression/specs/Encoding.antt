-- Document 01, "Expressions": an expression's bytes, and which expressions have them. Assumes nothing.
use Rattle.std.specs.Prelude.{ℕ, ◌-◌, ◌/◌, ◌%◌, Bool, true, false, ◌&&◌, List, [], ◌∷◌, ◌++◌, leb, ltb, ℤ, pos, negsuc}
use Rattle.expression.specs.Syntax.{Num, literal, own, far, two, negation}
use Rattle.expression.specs.Syntax.{Truth, constant, opposite, both, compared}
use Rattle.expression.specs.Reading.{Scope}
use Rattle.expression.specs.declared.Arith.{Arith}
use Rattle.expression.specs.declared.Arith.TheVariants.{Sum, Difference, Product}
use Rattle.expression.specs.declared.Join.{Join}
use Rattle.expression.specs.declared.Join.TheVariants.{And, Or}
use Rattle.expression.specs.declared.Compare.{Compare}
use Rattle.expression.specs.declared.Compare.TheVariants.{Less, Equal}

-- four bytes, "signed, low byte first": a signed number's 32 bits, and their bytes
unfoldable pub bits : ℤ → ℕ
bits (pos n) = n
bits (negsuc n) = 4294967295 - n

unfoldable pub encode_value : ℤ → List ℕ
encode_value z =
    let n = bits z in
    (n % 256) ∷ (n / 256 % 256) ∷ (n / 65536 % 256) ∷ (n / 16777216 % 256) ∷ []

-- the operators' bytes
abbrev pub arith_byte : Arith → ℕ
arith_byte Sum = 3
arith_byte Difference = 4
arith_byte Product = 5

abbrev pub constant_byte : Bool → ℕ
constant_byte false = 16
constant_byte true = 17

abbrev pub join_byte : Join → ℕ
join_byte And = 19
join_byte Or = 20

abbrev pub compare_byte : Compare → ℕ
compare_byte Less = 21
compare_byte Equal = 22

-- "operator first, operands after it"
unfoldable pub encode_num : Num → List ℕ
encode_num (literal z) = 0 ∷ encode_value z
encode_num (own c) = 1 ∷ c ∷ []
encode_num (far c) = 2 ∷ c ∷ []
encode_num (two k a b) = arith_byte k ∷ encode_num a ++ encode_num b
encode_num (negation a) = 6 ∷ encode_num a

unfoldable pub encode_truth : Truth → List ℕ
encode_truth (constant b) = constant_byte b ∷ []
encode_truth (opposite t) = 18 ∷ encode_truth t
encode_truth (both k t u) = join_byte k ∷ encode_truth t ++ encode_truth u
encode_truth (compared k a b) = compare_byte k ∷ encode_num a ++ encode_num b

-- a signed 32-bit number; `negsuc n` is -n - 1
unfoldable pub fits : ℤ → Bool
fits (pos n) = leb n 2147483647
fits (negsuc n) = leb n 2147483647

-- literals are signed 32-bit numbers, and channels are known
unfoldable pub good_num : Scope → Num → Bool
good_num sc (literal z) = fits z
good_num sc (own c) = ltb c sc.owns
good_num sc (far c) = ltb c sc.fars
good_num sc (two k a b) = good_num sc a && good_num sc b
good_num sc (negation a) = good_num sc a

unfoldable pub good_truth : Scope → Truth → Bool
good_truth sc (constant b) = true
good_truth sc (opposite t) = good_truth sc t
good_truth sc (both k t u) = good_truth sc t && good_truth sc u
good_truth sc (compared k a b) = good_num sc a && good_num sc b

-- to open all definitions of this file, on an `unfolding` line
unfoldable pub encoding_expressions : Unit {0}
unfolding bits encode_value encode_num encode_truth fits good_num good_truth
encoding_expressions = tt
