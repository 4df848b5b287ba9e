-- A deck's bytes with its counts, and the numbers that its rules get. Assumes nothing.
use Rattle.std.specs.Prelude.{ℕ, ◌+◌, ◌*◌, ◌≤◌, ◌≡◌, true, List, length, get_or, take}
use Rattle.lists.specs.Lists.{sum_of}
use Rattle.deck.specs.Deck.{Rule, Deck, R, M, N}
use Rattle.deck.specs.Encoding.{encode_part, encode_channels, encode_rules, encode, well_formed}
use Rattle.deck.specs.declared.Deck as Counted
use Rattle.conversion.specs.Converted.{split, new_number}
use Rattle.conversion_bytes.specs.Stands.{Listed}

-- the bytes of a well-formed deck, with its counts and the offsets of its last two sections' counts
pub record Encodes (s : List ℕ) (k : Counted.Deck) (d : Deck) : Type 0 where
  pub formed : well_formed d ≡ true
  pub bytes : s ≡ encode d
  pub channels : k.channels ≡ R d
  pub rules : k.rules ≡ M d
  pub parts : k.parts ≡ N d
  pub rules_at : k.rules_at ≡ length (encode_channels d)
  pub parts_at : k.parts_at ≡ length (encode_channels d) + length (encode_rules d)

-- how many rules come of the first r, for each r up to their number
pub record Numbered (d : Deck) (numbers : List ℕ) : Type 0 where
  pub size : length numbers ≡ 65
  pub at : (r : ℕ) → r ≤ M d → get_or numbers r 0 ≡ new_number d r

-- the same for a list of rules, of the first count of them
pub record Sums (rules : List Rule) (count : ℕ) (numbers : List ℕ) : Type 0 where
  pub size : length numbers ≡ 65
  pub at : (r : ℕ) → r ≤ count → get_or numbers r 0 ≡ sum_of (λ x. length (split x)) (take r rules)

-- the parts of a well-formed deck stand at the front, each with the same number of bytes of opening values
pub record PartsIn (s : List ℕ) (count opening : ℕ) (d : Deck) : Type 0 where
  pub formed : well_formed d ≡ true
  pub size : opening ≡ 4 * R d
  pub listed : Listed encode_part s 0 count d.parts
