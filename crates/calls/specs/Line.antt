-- Document 01, "Calls": the line that the program prints. Assumes nothing.
use Rattle.std.specs.Prelude.{ℕ}
use Prim.Native.Char.{code}
use Prim.Native.String as Text
use Prim.Native.String.{String}
use mathlib.Core.List.{List, [], ◌∷◌, ◌++◌, flat_map}
use Rattle.refusals.specs.Outcome.{Outcome, refused, accepted}
use Rattle.decimal.specs.Digits.{digits}
use Rattle.calls.specs.Calls.{Answer, passed, started, added, applied, discarded, settled, spent}

-- the bytes of a text
unfoldable pub ascii : String → List ℕ
ascii Text.[] = []
ascii (Text.◌∷◌ c s) = code c ∷ ascii s

-- a word and numbers "with single spaces and a newline"
unfoldable pub words : String → List ℕ → List ℕ
words s ns = ascii s ++ flat_map (λ n. 32 ∷ digits n n) ns ++ 10 ∷ []

-- "`passed` R M N and the largest rule charge, or `refused`, number and place". Check answers nothing else
unfoldable pub line : Outcome Answer → List ℕ
line (refused n p) = words "refused" (n ∷ p ∷ [])
line (accepted (passed r m n c)) = words "passed" (r ∷ m ∷ n ∷ c ∷ [])
line (accepted started) = []
line (accepted (added c)) = []
line (accepted (applied c)) = []
line (accepted (discarded c)) = []
line (accepted (settled n)) = []
line (accepted (spent n)) = []

-- to open all definitions of this file and `digits`, on an `unfolding` line
unfoldable pub lines : Unit {0}
unfolding ascii digits words line
lines = tt
