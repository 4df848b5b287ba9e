-- What the functions that compute charges take is there at the start: a memo of zeros knows nothing and has a row for each rule, and
-- the listeners are noted beside what the deck is read from. Assumes nothing.
use Prim.Native.Nat.{ℕ, zero, suc, ◌+◌, ◌*◌, ◌≤◌, ◌<◌}
use Rattle.std.specs.Prelude.{◌≡◌, Bool, true, false, cond, leb, length, get_or}
use Rattle.std.proofs.Math.Path.{refl, ap, fun_ext}
use Rattle.std.proofs.Common.{sym, ◌∙◌, arith, Fits, leb-true}
use mathlib.Core.List.{List, map}
use Rattle.std.proofs.Math.ListN.{replicate}
use Rattle.std.proofs.lemmas.List.{length-replicate}
use Rattle.std.specs.Int.{w64}
use Rattle.lists.specs.Lists.{below}
use Rattle.deck.specs.Deck.{Deck, Rule, M}
use Rattle.deck.specs.Shape.{rule_shape, part_shape, shape_of, shape}
use Rattle.deck.specs.declared.Deck as Counted
use Rattle.deck.proofs.Laws.Shape.{counted-M}
use Rattle.charge.specs.Memo.{AcyclicTables, OthersKept, memo_size, Memo, Ready, RulesGive, counts_of}

zeros : (n i : ℕ) → get_or {A = ℕ} (replicate n 0) i 0 ≡ 0
zeros zero i = refl
zeros (suc n) zero = refl
zeros (suc n) (suc i) = zeros n i

pub memo-new : (d : Deck) → Memo d (replicate (memo_size (M d)) 0)
memo-new d =
    record {
      long = length-replicate {A = ℕ} (memo_size (M d)) 0;
      right = λ i h. absurd (h (zeros (memo_size (M d)) i));
      whole = λ r q _ h. absurd (h (zeros (memo_size (M d)) (16 * r)));
    }

-- the row of a rule is within the memo
pub memo-room : (n r : ℕ) → r < n → n ≤ 64 → 16 * r + 16 ≤ memo_size n
unfolding memo_size
memo-room n r l few = go (leb n 16) refl
  where
    go : (b : Bool) → leb n 16 ≡ b → 16 * r + 16 ≤ cond b 256 1024
    go true e = omega (arith, leb-true n 16 e)
    go false e = omega arith

-- what code computes to read field i of the row of rule r
pub record Field (rules : List ℕ) (r i : ℕ) : Type 0 where
  pub row : Fits w64 (8 * r)
  pub place : Fits w64 (8 * r + i)
  pub bytes : Fits w64 ((8 * r + i) * 8)
  pub inside : 8 * r + i < length rules

pub field_of : (rules : List ℕ) (r i : ℕ) → r < 64 → i < 8 → 8 * r + 8 ≤ length rules → Field rules r i
field_of rules r i few low fits = record {
  row = record { fits = omega arith };
  place = record { fits = omega arith };
  bytes = record { fits = omega arith };
  inside = omega arith;
}

pub field : {rules parts : List ℕ} {k : Counted.Deck} → AcyclicTables rules parts k → (r i : ℕ) → r < k.rules → i < 8 → Field rules r i
field {rules} h r i l low = field_of rules r i (omega (arith, h.few_rules)) low (omega (arith, h.rules_room))

-- what it computes to read the row of rule r in a memo
pub record Entry (m : List ℕ) (r : ℕ) : Type 0 where
  pub start : Fits w64 (16 * r)
  pub bytes : Fits w64 (16 * r * 4)
  pub inside : 16 * r < length m

entry_of : (m : List ℕ) (r : ℕ) → r < 64 → 16 * r + 16 ≤ length m → Entry m r
entry_of m r few room = record { start = record { fits = omega arith }; bytes = record { fits = omega arith }; inside = omega arith }

-- the length of a memo, by the count of rules that the tables are read with
pub memo-long : (rules parts : List ℕ) (k : Counted.Deck) {m : List ℕ} → Memo (shape rules parts k) m → length m ≡ memo_size k.rules
memo-long rules parts k h = h.long ∙ ap memo_size (counted-M rules parts k)

-- column 7 plays no role for the shape
module _ {rules₀ rules : List ℕ} (h : OthersKept rules₀ rules) where
  pub first-kept : (r : ℕ) → get_or rules (8 * r) 0 ≡ get_or rules₀ (8 * r) 0
  first-kept r = let e : 8 * r + 0 ≡ 8 * r = omega arith in rw (sym e) (h.each r 0 (omega arith))

  rule-kept : (r : ℕ) → rule_shape rules r ≡ rule_shape rules₀ r
  unfolding rule_shape
  rule-kept r = rw (first-kept r, h.each r 1 (omega arith), h.each r 2 (omega arith), h.each r 3 (omega arith)) refl

  pub shape-kept : (parts : List ℕ) (R M N : ℕ) → shape_of rules parts R M N ≡ shape_of rules₀ parts R M N
  unfolding shape_of
  shape-kept parts R M N =
      ap (λ (f : ℕ → Rule). record { labels = replicate R 0; rules = map f (below M); parts = map (part_shape parts) (below N) })
      (fun_ext rule-kept)

pub entry : {rules parts : List ℕ} {k : Counted.Deck} {m : List ℕ} → AcyclicTables rules parts k → Memo (shape rules parts k) m
    → (r : ℕ) → r < k.rules → Entry m r
entry {rules} {parts} {k} {m} h memo r l =
    entry_of m r (omega (arith, h.few_rules)) (omega (arith, memo-long rules parts k memo, memo-room k.rules r l h.few_rules))

-- only the three counts play a role: the offsets beside them do not
pub ready-counted : {rules parts m : List ℕ} {k : Counted.Deck} → Ready rules parts k m
    → Ready rules parts (counts_of k.channels k.rules k.parts) m
ready-counted h =
    let t = h.tables in
    record {
      tables = record {
        rules_long = t.rules_long;
        rules_room = t.rules_room;
        parts_long = t.parts_long;
        few_rules = t.few_rules;
        few_parts = t.few_parts;
        acyclic = t.acyclic;
        known = t.known;
        noted = t.noted;
      };
      memo = h.memo;
    }

pub counted-gives : {rules parts m₀ m : List ℕ} {k : Counted.Deck} {r : ℕ}
    → RulesGive rules parts (counts_of k.channels k.rules k.parts) r m₀ m → RulesGive rules parts k r m₀ m
counted-gives g = record { memo = g.memo; keeps = g.keeps; known = g.known }
