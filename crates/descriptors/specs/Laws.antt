-- A law of reads until a buffer is full. Assumes nothing.
use Rattle.std.specs.Prelude.{ℕ, ◌≤◌, ◌<◌, ◌≡◌, List, [], ◌++◌, length, take, Option, None, Some, IfSome}
use Rattle.std.specs.Io.KnownBytes.{Consumes, IsAtEnd}
use Rattle.std.proofs.Common.{sym, ap, ◌∙◌, subst, arith, append-nil, take_all, length-take-le}
use Rattle.std.proofs.Math.Decide.{dec_lt}
use lib.Seq.{take-append-le}

-- fewer bytes than there is room for are all that there were
front : (n room : ℕ) (buffer rest : List ℕ) → n ≤ length buffer → length buffer ≡ room → (n < length buffer → rest ≡ [])
    → take room (take n buffer ++ rest) ≡ take n buffer
front n room buffer rest fits size ends = go (dec_lt n (length buffer))
  where
    long : length (take n buffer) ≡ n
    long = length-take-le n buffer fits

    go : Dec (n < length buffer) → take room (take n buffer ++ rest) ≡ take n buffer
    go (yes less) =
        ap (λ r. take room (take n buffer ++ r)) (ends less)
        ∙ ap (take room) (append-nil (take n buffer))
        ∙ take_all room (take n buffer) (omega (arith, long))
    go (no all) = take-append-le room (take n buffer) rest (omega (arith, long)) ∙ take_all room (take n buffer) (omega (arith, long))

-- what holds of the bytes that were read holds of the front of what the reader had, as long as the buffer
pub of-the-front : (P : List ℕ → Type 0) (given later : Option (List ℕ)) (n room : ℕ) (buffer : List ℕ) → n ≤ length buffer
    → length buffer ≡ room → Consumes given later (take n buffer) → (n < length buffer → IsAtEnd later) → P (take n buffer)
    → IfSome given (λ bytes. P (take room bytes))
of-the-front P None later n room buffer fits size taken ends holds = tt
of-the-front P (Some given) None n room buffer fits size taken ends holds = absurd taken
of-the-front P (Some given) (Some rest) n room buffer fits size taken ends holds =
    subst P (sym (ap (take room) taken ∙ front n room buffer rest fits size ends)) holds
