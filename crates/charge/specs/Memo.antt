-- What the functions of charge_listeners, charge_tables and charge_bound take and keep: tables whose deck has no cycle, and a memo of
-- charges. Assumes nothing.
use Rattle.std.specs.Prelude.{ℕ, suc, ◌+◌, ◌*◌, ◌-◌, ◌/◌, ◌%◌, ◌≤◌, ◌<◌, min, ◌≡◌, ◌⊎◌, Bool, true, ◌&&◌, ◌||◌, cond, List, eqb, ltb, leb, length, get_or, replicate}
use Rattle.std.specs.Int.Bits.{bit_and}
use Rattle.lists.specs.Lists.{any_of, member, sum_of, below}
use Rattle.lists.specs.Bits.{bit}
use Rattle.deck.specs.Deck.{Deck, M, N}
use Rattle.deck.specs.Shape.{bits_of, shape}
use Rattle.deck.specs.declared.Deck as Counted
use Rattle.graph.specs.Masks.{carried_at}
use Rattle.graph.specs.Acyclic.{KnownTargets, Acyclic}
use Rattle.charge.specs.Charge.{update_charge, rule_charge}

-- column 7 of row c has the carried rules that have channel c among their events
pub record Noted (rules parts : List ℕ) (M N : ℕ) : Type 0 where
  pub each : (c r : ℕ) → c < 32 → r < 64
      → bit (get_or rules (8 * c + 7) 0) r ≡ (ltb r M && (carried_at parts N r && bit (get_or rules (8 * r) 0) c))

-- only column 7 differs
pub record OthersKept (rules₀ rules : List ℕ) : Type 0 where
  pub long : length rules ≡ length rules₀
  pub each : (r k : ℕ) → k < 7 → get_or rules (8 * r + k) 0 ≡ get_or rules₀ (8 * r + k) 0

-- it was cleared for all channels
pub record Cleared (rules₀ rules : List ℕ) : Type 0 where
  pub kept : OthersKept rules₀ rules
  pub each : (c : ℕ) → c < 32 → get_or rules (8 * c + 7) 0 ≡ 0

-- rule r was added to it for the channels of the events
pub record RuleNoted (events r : ℕ) (rules₀ rules : List ℕ) : Type 0 where
  pub kept : OthersKept rules₀ rules
  pub each : (c s : ℕ) → c < 32
      → bit (get_or rules (8 * c + 7) 0) s ≡ (bit (get_or rules₀ (8 * c + 7) 0) s || bit events c && eqb s r)

-- the rules that listen to a channel of the mask, by column 7
pub record ListenersAre (rules : List ℕ) (mask s : ℕ) : Type 0 where
  pub each : (r : ℕ) → bit s r ≡ any_of (λ c. bit (get_or rules (8 * c + 7) 0) r) (bits_of 32 mask)

-- what the reading pass and the test for cycles gave, with the listeners noted: a row for each of 32 channels and for each rule
pub record AcyclicTables (rules parts : List ℕ) (k : Counted.Deck) : Type 0 where
  pub rules_long : 256 ≤ length rules
  pub rules_room : 8 * k.rules ≤ length rules
  pub parts_long : 64 ≤ length parts
  pub few_rules : k.rules ≤ 64
  pub few_parts : k.parts ≤ 16
  pub acyclic : Acyclic (shape rules parts k)
  pub known : KnownTargets (shape rules parts k)
  pub noted : Noted rules parts k.rules k.parts

-- exact below 65,536, the first number above the bound
abbrev pub capped : ℕ → ℕ
capped x = min 65536 x

-- the numbers of a memo for a number of rules, 16 for each: one table for at most 16 rules, another for at most 64
unfoldable pub memo_size : ℕ → ℕ
memo_size n = cond (leb n 16) 256 1024

-- entry 16 r + p is 0, or one more than the charge of rule r at part p; a rule's charges are known at all parts or at none
pub record Memo (d : Deck) (m : List ℕ) : Type 0 where
  pub long : length m ≡ memo_size (M d)
  pub right : (i : ℕ) → (get_or m i 0 ≡ 0 → ⊥) → get_or m i 0 ≡ suc (capped (rule_charge d (i % 16) (i / 16)))
  pub whole : (r q : ℕ) → q < N d → (get_or m (16 * r) 0 ≡ 0 → ⊥) → get_or m (16 * r + q) 0 ≡ 0 → ⊥

-- s is the charge x, and the memo that is left is right
pub record Answered (d : Deck) (x : ℕ) (m : List ℕ) (s : ℕ) : Type 0 where
  pub value : s ≡ capped x
  pub memo : Memo d m

-- the counts, for functions that hand three numbers on
abbrev pub counts_of : ℕ → ℕ → ℕ → Counted.Deck
counts_of R M N = record { channels = R; rules = M; parts = N; rules_at = 0; parts_at = 0 }

-- what the functions take: tables of a deck without cycles, and a memo that is right for it
pub record Ready (rules parts : List ℕ) (k : Counted.Deck) (m : List ℕ) : Type 0 where
  pub tables : AcyclicTables rules parts k
  pub memo : Memo (shape rules parts k) m

-- what is answered for an update of the channels in a mask
abbrev pub UpdateGives : List ℕ → List ℕ → Counted.Deck → ℕ → ℕ → List ℕ → ℕ → Type 0
UpdateGives rules parts k p mask m s =
    let d = shape rules parts k in Answered d (update_charge d p (bits_of 32 mask)) m s

-- part p carries rule r, which has a channel of the mask among its events
abbrev pub hearing : List ℕ → List ℕ → ℕ → ℕ → ℕ → Bool
hearing rules parts p r mask =
    bit (get_or parts (4 * p) 0) r && any_of (λ c. member c (bits_of 32 (get_or rules (8 * r) 0))) (bits_of 32 mask)

-- the same for a rule that one of the N parts carries
abbrev pub listening : List ℕ → List ℕ → ℕ → ℕ → ℕ → Bool
listening rules parts N r mask =
    any_of (λ c. member c (bits_of 32 (get_or rules (8 * r) 0))) (bits_of 32 mask) && carried_at parts N r

-- the rules that are active at part p when the channels of the mask change
pub record ActiveIs (rules parts : List ℕ) (M p mask s : ℕ) : Type 0 where
  pub each : (r : ℕ) → r < M → bit s r ≡ hearing rules parts p r mask

-- ---- rows: a number for each part

-- so small when the charges of r rules are added up
pub record RowSmall (r : ℕ) (row : List ℕ) : Type 0 where
  pub long : length row ≡ 16
  pub each : (q : ℕ) → get_or row q 0 ≤ 1 + 65536 * r

-- the charges of rule r are known at the first N parts
pub record RowKnown (N r : ℕ) (m : List ℕ) : Type 0 where
  pub known : (q : ℕ) → q < N → get_or m (16 * r + q) 0 ≡ 0 → ⊥
  pub low : (q : ℕ) → q < N → get_or m (16 * r + q) 0 ≤ 65537

-- they were added, at the parts that carry the rule
pub record RowAdded (parts m : List ℕ) (N r : ℕ) (row₀ row : List ℕ) : Type 0 where
  pub small : RowSmall (r + 1) row
  pub each : (q : ℕ) → q < N
      → get_or row q 0 ≡ get_or row₀ q 0 + cond (bit (get_or parts (4 * q) 0) r) (get_or m (16 * r + q) 0 - 1) 0

-- most is the largest of a number and of them, at the parts that carry the rule
pub record RowLargest (parts m : List ℕ) (N r best most : ℕ) : Type 0 where
  pub from : best ≤ most
  pub each : (q : ℕ) → q < N → bit (get_or parts (4 * q) 0) r ≡ true → get_or m (16 * r + q) 0 - 1 ≤ most
  pub least : (b : ℕ) → best ≤ b
      → ((q : ℕ) → q < N → bit (get_or parts (4 * q) 0) r ≡ true → get_or m (16 * r + q) 0 - 1 ≤ b) → most ≤ b

-- they were written: the charge of the default action, and that of the action at the part itself or at all others
pub record RowPut (N r kind : ℕ) (first second m₀ m : List ℕ) : Type 0 where
  pub long : length m ≡ length m₀
  pub each : (p : ℕ) → p < N
      → get_or m (16 * r + p) 0
      ≡ suc (capped (get_or first p 0 + cond (eqb kind 1) (sum_of (λ q. get_or second q 0) (below N) - get_or second p 0) (get_or second p 0)))
  pub others : (i : ℕ) → (i < 16 * r) ⊎ (16 * r + N ≤ i) → get_or m i 0 ≡ get_or m₀ i 0

-- the memo has all that it had
pub record Keeps (m₀ m : List ℕ) : Type 0 where
  pub each : (i : ℕ) → (get_or m₀ i 0 ≡ 0 → ⊥) → get_or m i 0 ≡ get_or m₀ i 0

-- a row for the channels of a mask: all 0 if it has none, else all 1
pub record Begun (mask : ℕ) (sums : List ℕ) : Type 0 where
  pub none : bit_and mask 4294967295 ≡ 0 → sums ≡ replicate 16 0
  pub some : (bit_and mask 4294967295 ≡ 0 → ⊥) → sums ≡ replicate 16 1

-- what is answered for an update at all parts, and for a rule at all parts
pub record UpdatesGive (rules parts : List ℕ) (k : Counted.Deck) (mask : ℕ) (m₀ m sums : List ℕ) : Type 0 where
  pub memo : Memo (shape rules parts k) m
  pub keeps : Keeps m₀ m
  pub small : RowSmall 64 sums
  pub each : (q : ℕ) → q < k.parts
      → capped (get_or sums q 0) ≡ capped (update_charge (shape rules parts k) q (bits_of 32 mask))

pub record RulesGive (rules parts : List ℕ) (k : Counted.Deck) (r : ℕ) (m₀ m : List ℕ) : Type 0 where
  pub memo : Memo (shape rules parts k) m
  pub keeps : Keeps m₀ m
  pub known : RowKnown k.parts r m
