-- A line is plain text: each of its bytes is below 128. Assumes nothing.
use Rattle.std.specs.Prelude.{ℕ, zero, suc, ◌+◌, ◌%◌, ◌/◌, ◌<◌}
use Rattle.std.specs.Str.{IsAscii}
use Rattle.std.proofs.Common.{arith, rules, lt-ltb, le-ltb}
use Rattle.std.proofs.Math.Decide.{dec_lt}
use Rattle.std.proofs.lemmas.Str.{IsAscii-append}
use Rattle.std.proofs.lemmas.Str.Ascii.{IsAscii-from_all, IsAscii-nil, IsAscii-cons, IsAscii-push}
use mathlib.Core.List.{List, [], ◌∷◌, ◌++◌, flat_map}
use Prim.Native.String.{String}
use Rattle.refusals.specs.Outcome.{Outcome, refused, accepted}
use Rattle.decimal.specs.Digits.{digits}
use Rattle.calls.specs.Calls.{Answer, passed, started, added, applied, discarded, settled, spent}
use Rattle.calls.specs.Line.{ascii, words, line}

digits-plain : (k n : ℕ) → IsAscii (digits k n)
unfolding digits
digits-plain zero n = IsAscii-cons (48 + n % 10) [] (omega arith) IsAscii-nil
digits-plain (suc k) n = go (dec_lt n 10) (digits-plain k (n / 10))
  where
    go : Dec (n < 10) → IsAscii (digits k (n / 10)) → IsAscii (digits (suc k) n)
    go (yes l) first = rw (lt-ltb n 10 l) (IsAscii-cons (48 + n) [] (omega (arith, l)) IsAscii-nil)
    go (no l) first = rw (le-ltb n 10 (omega (arith, l))) (IsAscii-push (digits k (n / 10)) (48 + n % 10) first (omega arith))

numbers-plain : (ns : List ℕ) → IsAscii (flat_map (λ n. 32 ∷ digits n n) ns)
unfolding flat_map
numbers-plain [] = IsAscii-nil
numbers-plain (n ∷ ns) =
    IsAscii-append (32 ∷ digits n n) (flat_map (λ m. 32 ∷ digits m m) ns)
    (IsAscii-cons 32 (digits n n) (omega arith) (digits-plain n n)) (numbers-plain ns)

words-plain : (s : String) (ns : List ℕ) → IsAscii (ascii s) → IsAscii (words s ns)
unfolding words
words-plain s ns h =
    IsAscii-append (ascii s ++ flat_map (λ n. 32 ∷ digits n n) ns) (10 ∷ [])
    (IsAscii-append (ascii s) (flat_map (λ n. 32 ∷ digits n n) ns) h (numbers-plain ns)) (IsAscii-cons 10 [] (omega arith) IsAscii-nil)

pub line-plain : (a : Outcome Answer) → IsAscii (line a)
unfolding ascii line
line-plain (refused n p) = words-plain "refused" (n ∷ p ∷ []) (IsAscii-from_all (ascii "refused") (search rules))
line-plain (accepted (passed r m n c)) =
    words-plain "passed" (r ∷ m ∷ n ∷ c ∷ []) (IsAscii-from_all (ascii "passed") (search rules))
line-plain (accepted started) = IsAscii-nil
line-plain (accepted (added c)) = IsAscii-nil
line-plain (accepted (applied c)) = IsAscii-nil
line-plain (accepted (discarded c)) = IsAscii-nil
line-plain (accepted (settled n)) = IsAscii-nil
line-plain (accepted (spent n)) = IsAscii-nil
