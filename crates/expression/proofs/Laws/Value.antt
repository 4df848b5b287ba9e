-- A signed 32-bit number and its four bytes: reading and encoding are inverse to each other. Assumes nothing.
use Rattle.std.specs.Prelude.{ℕ, ◌-◌, ◌/◌, ◌%◌, ◌<◌, ◌≤◌, ◌≡◌, refl, Bool, true, false, [], ◌∷◌, ltb, ℤ, pos, negsuc}
use Rattle.std.proofs.Common.{ap, ◌∙◌, arith, ltb-true, ltb-false, leb-true, le-leb, lt-ltb, le-ltb}
use Rattle.expression.specs.Reading.{word, signed}
use Rattle.expression.specs.Encoding.{bits, encode_value, fits, encoding_expressions}

-- ---- 32 bits and a signed number

pub bits-signed : (n : ℕ) → n < 4294967296 → bits (signed n) ≡ n
unfolding encoding_expressions
bits-signed n h = go (ltb n 2147483648) refl
  where
    go : (t : Bool) → ltb n 2147483648 ≡ t → bits (signed n) ≡ n
    go true e = rw e
    go false e = rw e (omega arith)

pub signed-fits : (n : ℕ) → n < 4294967296 → fits (signed n) ≡ true
unfolding encoding_expressions
signed-fits n h = go (ltb n 2147483648) refl
  where
    go : (t : Bool) → ltb n 2147483648 ≡ t → fits (signed n) ≡ true
    go true e = let l : n < 2147483648 = ltb-true n 2147483648 e in rw e (le-leb n 2147483647 (omega arith))
    go false e = let l : 2147483648 ≤ n = ltb-false n 2147483648 e in rw e (le-leb (4294967295 - n) 2147483647 (omega arith))

pub signed-bits : (z : ℤ) → fits z ≡ true → signed (bits z) ≡ z
unfolding encoding_expressions
signed-bits (pos n) h =
    let l : n ≤ 2147483647 = leb-true n 2147483647 h in
    rw (lt-ltb n 2147483648 (omega arith))
signed-bits (negsuc n) h =
    let l : n ≤ 2147483647 = leb-true n 2147483647 h in
    let e : 4294967295 - (4294967295 - n) ≡ n = omega arith in
    rw (le-ltb (4294967295 - n) 2147483648 (omega arith)) (ap negsuc e)

pub bits_below : (z : ℤ) → fits z ≡ true → bits z < 4294967296
unfolding encoding_expressions
bits_below (pos n) h = let l : n ≤ 2147483647 = leb-true n 2147483647 h in omega arith
bits_below (negsuc n) h = omega arith

-- ---- 32 bits and four bytes

word_below : (a b c d : ℕ) → a < 256 → b < 256 → c < 256 → d < 256 → word a b c d < 4294967296
word_below a b c d p q r s = omega arith

byte-0 : (a b c d : ℕ) → a < 256 → word a b c d % 256 ≡ a
byte-0 a b c d p = omega arith

byte-1 : (a b c d : ℕ) → a < 256 → b < 256 → word a b c d / 256 % 256 ≡ b
byte-1 a b c d p q = omega arith

byte-2 : (a b c d : ℕ) → a < 256 → b < 256 → c < 256 → word a b c d / 65536 % 256 ≡ c
byte-2 a b c d p q r = omega arith

byte-3 : (a b c d : ℕ) → a < 256 → b < 256 → c < 256 → d < 256 → word a b c d / 16777216 % 256 ≡ d
byte-3 a b c d p q r s = omega arith

-- byte by byte: n is its lowest byte and 256 times the rest
word_bytes : (n : ℕ) → n < 4294967296 → word (n % 256) (n / 256 % 256) (n / 65536 % 256) (n / 16777216 % 256) ≡ n
word_bytes n h =
    let e : n / 65536 ≡ n / 256 / 256 = omega arith in
    let f : n / 16777216 ≡ n / 65536 / 256 = omega arith in
    let g : n / 16777216 % 256 ≡ n / 16777216 = omega arith in
    omega arith

-- ---- a signed number and four bytes

pub encode-word : (a b c d : ℕ) → a < 256 → b < 256 → c < 256 → d < 256 → encode_value (signed (word a b c d)) ≡ a ∷ b ∷ c ∷ d ∷ []
unfolding encoding_expressions
encode-word a b c d p q r s =
    rw (
      bits-signed (word a b c d) (word_below a b c d p q r s),
      byte-0 a b c d p,
      byte-1 a b c d p q,
      byte-2 a b c d p q r,
      byte-3 a b c d p q r s,
    )

pub word_fits : (a b c d : ℕ) → a < 256 → b < 256 → c < 256 → d < 256 → fits (signed (word a b c d)) ≡ true
word_fits a b c d p q r s = signed-fits (word a b c d) (word_below a b c d p q r s)

-- a number's four bytes, and that they are read as it
pub record FourBytes (z : ℤ) : Type 0 where
  pub first : ℕ
  pub second : ℕ
  pub third : ℕ
  pub fourth : ℕ
  pub bytes : encode_value z ≡ first ∷ second ∷ third ∷ fourth ∷ []
  pub value : signed (word first second third fourth) ≡ z

pub four_bytes_lem : (z : ℤ) → fits z ≡ true → FourBytes z
unfolding encoding_expressions
four_bytes_lem z h =
    record {
      first = bits z % 256;
      second = bits z / 256 % 256;
      third = bits z / 65536 % 256;
      fourth = bits z / 16777216 % 256;
      bytes = refl;
      value = ap signed (word_bytes (bits z) (bits_below z h)) ∙ signed-bits z h;
    }
