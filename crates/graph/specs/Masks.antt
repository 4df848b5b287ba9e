-- The graph as the code has it: for each channel the set of those that an edge leads to. Assumes nothing.
use Rattle.std.specs.Prelude.{ℕ, ◌+◌, ◌*◌, ◌<◌, ◌≤◌, ◌≡◌, ◌⊎◌, Bool, true, ◌&&◌, ◌||◌, List, ltb, length, get_or}
use Rattle.lists.specs.Lists.{any_of, below}
use Rattle.lists.specs.Bits.{bit}

-- the tables have the deck's M rules, and 16 parts, of which the first N are the deck's
pub record Sized (rules parts : List ℕ) (M N : ℕ) : Type 0 where
  pub long_rules : 8 * M ≤ length rules
  pub long_parts : 64 ≤ length parts
  pub few_rules : M ≤ 64
  pub few_parts : N ≤ 16

-- the table has an edge from a to b
unfoldable pub edge_at : List ℕ → ℕ → ℕ → Bool
edge_at edges a b = bit (get_or edges a 0) b

-- the targets are added to the sets of the events
pub record Added (events targets : ℕ) (xs ys : List ℕ) : Type 0 where
  pub long : length ys ≡ 32
  pub each : (a b : ℕ) → a < 32 → edge_at ys a b ≡ (edge_at xs a b || bit events a && bit targets b)

-- one of the N parts carries rule r
unfoldable pub carried_at : List ℕ → ℕ → ℕ → Bool
carried_at parts N r = any_of (λ p. bit (get_or parts (4 * p) 0) r) (below N)

-- the rules that one of the N parts carries
pub record CarriedIs (parts : List ℕ) (N s : ℕ) : Type 0 where
  pub each : (r : ℕ) → bit s r ≡ carried_at parts N r

-- rule r makes an edge from a to b
unfoldable pub drawn_by : List ℕ → List ℕ → ℕ → ℕ → ℕ → ℕ → Bool
drawn_by rules parts N a b r =
    carried_at parts N r
    && (bit (get_or rules (8 * r) 0) a && (bit (get_or rules (8 * r + 1) 0) b || bit (get_or rules (8 * r + 2) 0) b))

-- the table has the edges of the first k rules
pub record Drawn (rules parts : List ℕ) (N k : ℕ) (edges : List ℕ) : Type 0 where
  pub long : length edges ≡ 32
  pub each : (a b : ℕ) → a < 32 → edge_at edges a b ≡ any_of (drawn_by rules parts N a b) (below k)

-- the edges that lead to channels below n
unfoldable pub inner : ℕ → (ℕ → ℕ → Bool) → ℕ → ℕ → Bool
inner n e a b = ltb b n && e a b

-- a round makes t of the set s: it adds what an edge from the set f leads to, and nothing else
pub record Spread (n : ℕ) (e : ℕ → ℕ → Bool) (f s t : ℕ) : Type 0 where
  pub keeps : (c : ℕ) → bit s c ≡ true → bit t c ≡ true
  pub grows : (b c : ℕ) → b < n → bit f b ≡ true → e b c ≡ true → bit t c ≡ true
  pub sound : (c : ℕ) → bit t c ≡ true → (bit s c ≡ true) ⊎ ((b : ℕ) × (b < n) × (bit f b ≡ true) × (e b c ≡ true))
