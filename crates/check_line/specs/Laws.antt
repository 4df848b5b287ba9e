-- Laws of the line. Assumes nothing.
use Rattle.std.specs.Prelude.{ℕ, ◌+◌, ◌/◌, ◌%◌, ◌^◌, ◌≤◌, ◌<◌, ◌≡◌, refl, codes, length}
use Rattle.std.specs.Fmt.{decimal}
use Rattle.std.proofs.Common.{sym, ap, ◌∙◌, arith, length-take-le}
use Rattle.std.proofs.lemmas.Fmt.{decimal_by_steps}
use mathlib.Core.List.{List, [], ◌∷◌, ◌++◌, append_assoc, append-nil, flat_map}
use Rattle.descriptors.specs.Counts.{IsPrefixLen}
use Rattle.refusals.specs.Outcome.{refused, accepted}
use Rattle.decimal.specs.Digits.{digits}
use Rattle.decimal.specs.Laws.{digits-one, digits_more}
use Rattle.decimal.specs.Put.{Put}
use Rattle.calls.specs.Calls.{passed}
use Rattle.calls.specs.Line.{ascii, words, line}

-- a line that was put is counted
pub put-counts : {before text after : List ℕ} {end : ℕ}
    → Put before 0 text after end → end ≤ length after → IsPrefixLen end after
put-counts p h = (h, sym (length-take-le _ _ h))

-- the line of a deck that passes, and of a refusal, as it is put
pub line-passed : (r m n c : ℕ)
    → ascii "passed" ++ (32 ∷ digits r r) ++ (32 ∷ digits m m) ++ (32 ∷ digits n n) ++ (32 ∷ digits c c) ++ 10 ∷ []
    ≡ line (accepted (passed r m n c))
unfolding line words flat_map
line-passed r m n c = four (ascii "passed") (32 ∷ digits r r) (32 ∷ digits m m) (32 ∷ digits n n) (32 ∷ digits c c) (10 ∷ [])
  where
    four : (s a b c d t : List ℕ) → s ++ a ++ b ++ c ++ d ++ t ≡ s ++ (a ++ (b ++ (c ++ (d ++ [])))) ++ t
    four s a b c d t = simp (append_assoc, append-nil) refl

pub line_refused : (n p : ℕ) → ascii "refused" ++ (32 ∷ digits n n) ++ (32 ∷ digits p p) ++ 10 ∷ [] ≡ line (refused n p)
unfolding line words flat_map
line_refused n p = two (ascii "refused") (32 ∷ digits n n) (32 ∷ digits p p) (10 ∷ [])
  where
    two : (s a b t : List ℕ) → s ++ a ++ b ++ t ≡ s ++ (a ++ (b ++ [])) ++ t
    two s a b t = simp (append_assoc, append-nil) refl

-- the digits of a number are those that the library prints
pub digits-decimal : (n : ℕ) → n < 2 ^ 64 → decimal n ≡ digits n n
digits-decimal = decimal_by_steps (λ n ds. ds ≡ digits n n) one more
  where
    one : (n : ℕ) → n < 10 → (48 + n) ∷ [] ≡ digits n n
    one n h = ap (λ (d : ℕ). (48 + d) ∷ []) (omega (arith, h)) ∙ sym (digits-one n h)

    more : (n : ℕ) (ds : List ℕ) → 10 ≤ n → ds ≡ digits (n / 10) (n / 10) → ds ++ ((48 + n % 10) ∷ []) ≡ digits n n
    more n ds h e = ap (λ (t : List ℕ). t ++ (48 + n % 10) ∷ []) e ∙ sym (digits_more n h)

-- the same lines with the numbers that the library prints
pub printed-passed : (r m n c : ℕ) → r < 2 ^ 64 → m < 2 ^ 64 → n < 2 ^ 64 → c < 2 ^ 64
    → codes "passed " ++ (decimal r ++ (32 ∷ (decimal m ++ (32 ∷ (decimal n ++ (32 ∷ (decimal c ++ 10 ∷ [])))))))
    ≡ line (accepted (passed r m n c))
unfolding ascii
printed-passed r m n c fr fm fn fc =
    rw (digits-decimal r fr) (rw (digits-decimal m fm) (rw (digits-decimal n fn) (rw (digits-decimal c fc)
    (five (ascii "passed") (32 ∷ digits r r) (32 ∷ digits m m) (32 ∷ digits n n) (32 ∷ digits c c) (10 ∷ [])
    ∙ line-passed r m n c))))
  where
    five : (s a b c d t : List ℕ) → s ++ (a ++ (b ++ (c ++ (d ++ t)))) ≡ s ++ a ++ b ++ c ++ d ++ t
    five s a b c d t = simp append_assoc refl

pub printed_refused : (n p : ℕ) → n < 2 ^ 64 → p < 2 ^ 64
    → codes "refused " ++ (decimal n ++ (32 ∷ (decimal p ++ 10 ∷ []))) ≡ line (refused n p)
unfolding ascii
printed_refused n p fn fp =
    rw (digits-decimal n fn) (rw (digits-decimal p fp)
    (three (ascii "refused") (32 ∷ digits n n) (32 ∷ digits p p) (10 ∷ []) ∙ line_refused n p))
  where
    three : (s a b t : List ℕ) → s ++ (a ++ (b ++ t)) ≡ s ++ a ++ b ++ t
    three s a b t = simp append_assoc refl
