-- Readers: from the bytes that are left and the offset of the first of them, to a value with what is then left, or to the
-- first fault. Assumes nothing.
use Rattle.std.specs.Prelude.{ℕ, zero, suc, Bool, true, false, ◌&&◌, List, [], ◌∷◌, leb, ltb, ℤ}
use Rattle.refusals.specs.Outcome.{Outcome, refused, accepted}
use Rattle.refusals.specs.Numbers.{deck_ends, out_of_range, bytes_follow}
use Rattle.expression.specs.Reading.{word, signed}
use Rattle.deck.specs.Limits.{limits}

pub record Got (A : Type 0) : Type 0 where
  pub value : A
  pub rest : List ℕ
  pub at : ℕ

abbrev pub Reader : Type 0 → Type 0
Reader A = List ℕ → ℕ → Outcome (Got A)

unfoldable pub and_then : {A B : Type 0} → Outcome (Got A) → (A → Reader B) → Outcome (Got B)
and_then (refused n p) f = refused n p
and_then (accepted g) f = f g.value g.rest g.at

-- `do` reads one thing after the other, and ends with the first fault
infixl 20 ◌>>=◌ ◌>>◌
unfoldable pub ◌>>=◌ : {A B : Type 0} → Reader A → (A → Reader B) → Reader B
◌>>=◌ r f = λ s at. and_then (r s at) f

unfoldable pub ◌>>◌ : {A B : Type 0} → Reader A → Reader B → Reader B
◌>>◌ r q = λ s at. and_then (r s at) (λ _. q)

-- reads nothing: a value, a fault, the offset, a test
unfoldable pub give : {A : Type 0} → A → Reader A
give a s at = accepted (record { value = a; rest = s; at = at })

unfoldable pub fault : {A : Type 0} → ℕ → ℕ → Reader A
fault n p s at = refused n p

unfoldable pub here : Reader ℕ
here s at = accepted (record { value = at; rest = s; at = at })

unfoldable pub expect : Bool → ℕ → ℕ → Reader (Unit {0})
expect true n p = give tt
expect false n p = fault n p

-- 1: where no byte is left the offset is the deck's length
unfoldable pub byte : Reader ℕ
byte [] at = refused deck_ends at
byte (b ∷ s) at = accepted (record { value = b; rest = s; at = suc at })

-- 5: a byte that follows
unfoldable pub end : Reader (Unit {0})
end [] at = accepted (record { value = tt; rest = []; at = at })
end (b ∷ s) at = refused bytes_follow at

-- 2: a byte from lo to below hi, and no other
unfoldable pub number : ℕ → ℕ → Reader ℕ
number lo hi = do
  at ← here
  b ← byte
  expect (leb lo b && ltb b hi) out_of_range at
  give b

unfoldable pub repeats : {A : Type 0} → ℕ → Reader A → Reader (List A)
repeats zero r = give []
repeats (suc n) r = do
  x ← r
  xs ← repeats n r
  give (x ∷ xs)

-- "each channel is one label byte, 33 to 126"
abbrev pub label : Reader ℕ
label = number limits.lowest (suc limits.highest)

-- n strictly rising numbers from lo to below hi
unfoldable pub rising : ℕ → ℕ → ℕ → Reader (List ℕ)
rising zero lo hi = give []
rising (suc n) lo hi = do
  c ← number lo hi
  cs ← rising n (suc c) hi
  give (c ∷ cs)

-- "4 bytes each, signed, low byte first"
unfoldable pub value : Reader ℤ
value = do
  a ← byte
  b ← byte
  c ← byte
  d ← byte
  give (signed (word a b c d))

-- to open all definitions of this file, on an `unfolding` line
unfoldable pub readers : Unit {0}
unfolding and_then ◌>>=◌ ◌>>◌ give fault here expect byte end number repeats rising value
readers = tt
