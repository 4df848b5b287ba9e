-- The entries of a memo: what code computes to read one, and the charges of a known row. Assumes nothing.
use Rattle.std.specs.Prelude.{ℕ, suc, ◌+◌, ◌*◌, ◌-◌, ◌/◌, ◌%◌, ◌<◌, ◌≤◌, ◌≡◌, List, length, get_or}
use Rattle.std.proofs.Common.{ap₂, ◌∙◌, arith, Fits}
use Rattle.std.specs.Int.{w64}
use Rattle.deck.specs.Deck.{Deck, N}
use Rattle.deck.specs.Shape.{shape}
use Rattle.deck.specs.declared.Deck as Counted
use Rattle.deck.proofs.Laws.Shape.{counted-N}
use Rattle.charge.specs.Charge.{rule_charge}
use Rattle.charge.specs.Memo.{AcyclicTables, Memo, Answered, RowKnown, RulesGive, capped}
use Rattle.charge.proofs.Laws.Tables.{memo-long, memo-room}

-- what code computes for part q in a row of 16, and at rule r in a memo
pub record Column (m : List ℕ) (r q : ℕ) : Type 0 where
  pub here : Fits w64 (q * 4)
  pub next : Fits w64 (q + 1)
  pub start : Fits w64 (16 * r)
  pub place : Fits w64 (16 * r + q)
  pub bytes : Fits w64 ((16 * r + q) * 4)
  pub inside : 16 * r + q < length m

pub column-of : (m : List ℕ) (r q n : ℕ) → q < n → n ≤ 16 → r < 64 → 16 * r + 16 ≤ length m → Column m r q
column-of m r q n l few low room = record {
  here = record { fits = omega arith };
  next = record { fits = omega arith };
  start = record { fits = omega arith };
  place = record { fits = omega arith };
  bytes = record { fits = omega arith };
  inside = omega arith;
}

module _ {d : Deck} {m : List ℕ} (h : Memo d m) (few : N d ≤ 16) where
  -- the charges of a known row
  pub row_at : (r q : ℕ) → q < N d → (get_or m (16 * r + q) 0 ≡ 0 → ⊥) → get_or m (16 * r + q) 0 ≡ suc (capped (rule_charge d q r))
  row_at r q l w =
      let a : (16 * r + q) % 16 ≡ q = omega arith in
      let b : (16 * r + q) / 16 ≡ r = omega arith in
      h.right (16 * r + q) w ∙ ap₂ (λ q s. suc (capped (rule_charge d q s))) a b

module _ {rules parts : List ℕ} {counts : Counted.Deck} (h : AcyclicTables rules parts counts) where
  -- the counts
  abbrev M' : ℕ
  M' = counts.rules

  abbrev N' : ℕ
  N' = counts.parts

  abbrev d : Deck
  d = shape rules parts counts

  pub few_parts : N d ≤ 16
  few_parts = omega (arith, counted-N rules parts counts, h.few_parts)

  -- the row of a rule is within the memo
  pub row_room : {m : List ℕ} → Memo d m → (r : ℕ) → r < M' → 16 * r + 16 ≤ length m
  row_room memo r l = omega (arith, memo-long rules parts counts memo, memo-room M' r l h.few_rules)

  -- the charges in a known row of the memo
  pub known_at : {m : List ℕ} {r : ℕ} → Memo d m → RowKnown N' r m → (q : ℕ) → q < N'
      → get_or m (16 * r + q) 0 ≡ suc (capped (rule_charge d q r))
  known_at {m} {r} memo known q l =
      row_at memo few_parts r q (omega (arith, counted-N rules parts counts)) (known.known q l)

  pub gives-charge : {r : ℕ} {m₀ m : List ℕ} → RulesGive rules parts counts r m₀ m → (q : ℕ) → q < N'
      → Answered d (rule_charge d q r) m (get_or m (16 * r + q) 0 - 1)
  gives-charge g q l = record { value = omega (arith, known_at g.memo g.known q l); memo = g.memo }
