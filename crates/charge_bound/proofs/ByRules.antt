-- The largest charge rule by rule, up to the cap: what is known of the rules that are passed. Assumes nothing.
use Prim.Native.Nat.{ℕ, ◌+◌, ◌*◌, ◌-◌, ◌≤◌, ◌<◌, zero-le}
use mathlib.Core.Path.{◌≡◌, refl, sym, ap, ◌∙◌}
use mathlib.Core.Logic.{⊎_elim}
use mathlib.Core.Bool.{true, false}
use mathlib.Core.List.{List}
use native.Mathlib.Nat.{le_refl, eq-or-lt_of_le}
use native.Mathlib.Omega.{arith}
use lib.ListN.{get_or}
use Rattle.lists.specs.Bits.{bit}
use Rattle.lists.specs.Laws.Booleans.{contradiction}
use Rattle.deck.specs.Deck.{Deck, M, N, carries}
use Rattle.deck.specs.Shape.{shape}
use Rattle.deck.specs.declared.Deck as Counted
use Rattle.deck.proofs.Laws.Shape.{counted-M, counted-N, shape-carries}
use Rattle.graph.specs.Masks.{carried_at}
use Rattle.std.specs.Prelude.{Ok}
use Rattle.charge.specs.Charge.{largest_charge}
use Rattle.charge.specs.Memo.{AcyclicTables, Memo, RowKnown, RowLargest, capped}
use Rattle.charge.specs.Answer.{bound_of, LargestBelow, LargestOfRules}
use Rattle.charge.proofs.Laws.Largest.{largest-charge}
use Rattle.charge_listeners.specs.Laws.Listening.{carried-by}
use Rattle.charge_tables.specs.Laws.Entries.{known_at}
use Rattle.charge_bound.proofs.Search.{few_rules, is-place, passed-all}

pub rules-none : {d : Deck} → LargestOfRules d 0 0
rules-none = record { most = λ q s _ _ _ h. absurd (omega arith); least = zero-le }

module _ {rules parts : List ℕ} {counts : Counted.Deck} (h : AcyclicTables rules parts counts) where
  -- the counts
  abbrev R' : ℕ
  R' = counts.channels

  abbrev M' : ℕ
  M' = counts.rules

  abbrev N' : ℕ
  N' = counts.parts

  abbrev d : Deck
  d = shape rules parts counts

  inside : (q : ℕ) → q < N d → q < N'
  inside q l = omega (arith, counted-N rules parts counts)

  -- a rule that part q carries, in the numbers of the table
  carries-is : (q s : ℕ) → q < N d → s < M d → carries d q s ≡ true → bit (get_or parts (4 * q) 0) s ≡ true
  carries-is q s l m t =
      sym (shape-carries rules parts R' M' N' q s (inside q l) (omega (arith, few_rules h))) ∙ t

  module _ {k best : ℕ} (w : LargestOfRules d k best) where
    -- no part carries rule k
    pub rules-skip : carried_at parts N' k ≡ false → LargestOfRules d (k + 1) best
    rules-skip f =
        record {
          most = λ q s l m t v.
              ⊎_elim
              (λ (e : s ≡ k).
              contradiction
              (ap (carried_at parts N') (sym e) ∙ carried-by parts N' s q (inside q l) (carries-is q s l m t)) f)
              (λ (u : s < k). w.most q s l m t u)
              (eq-or-lt_of_le (omega arith));
          least = w.least;
        }

    pub rules-more : {m : List ℕ} {most : ℕ} → k < M' → Memo d m → RowKnown N' k m → RowLargest parts m N' k best most
        → LargestOfRules d (k + 1) most
    rules-more {m} {most} b memo known row =
        record {
          most = λ q s l v t u.
              ⊎_elim
              (λ (e : s ≡ k).
              rw e
              (omega (
                arith,
                known_at h memo known q (inside q l),
                row.each q (inside q l) (ap (bit (get_or parts (4 * q) 0)) (sym e) ∙ carries-is q s l v t),
              )))
              (λ (i : s < k). omega (arith, w.most q s l v t i, row.from))
              (eq-or-lt_of_le (omega arith));
          least = row.least (capped (largest_charge d)) w.least (λ q l t. within q l t);
        }
      where
        within : (q : ℕ) → q < N' → bit (get_or parts (4 * q) 0) k ≡ true → get_or m (16 * k + q) 0 - 1 ≤ capped (largest_charge d)
        within q l t =
            let y = is-place h q k l b t in
            let low = (largest-charge d (largest_charge d)).0 (le_refl (largest_charge d)) q k y.0 y.1 y.2 in
            omega (arith, known_at h memo known q l)

    -- all rules are passed, and none is above the bound
    pub rules-within : k ≡ M' → best < 65536 → Ok best ≡ bound_of d
    rules-within e small = passed-all d (few_rules h) all N' (counted-N rules parts counts) refl
      where
        all : LargestBelow d (64 * N') best
        all =
            record {
              most = λ q s l m t _. omega (arith, w.most q s l m t (omega (arith, counted-M rules parts counts)));
              least = omega (arith, w.least);
              fits = omega arith;
            }
