-- The memo: a row of it is read, and written. Assumes nothing.
use Prim.Native.Nat.{ℕ, suc, ◌+◌, ◌*◌, ◌-◌, ◌/◌, ◌%◌, ◌<◌, ◌≤◌}
use mathlib.Core.Path.{◌≡◌, refl, sym, ap, ap₂, ◌∙◌}
use mathlib.Core.Logic.{◌⊎◌, inl, inr, ⊎_elim}
use mathlib.Core.List.{List}
use native.Mathlib.Omega.{arith}
use native.Mathlib.Decide.{dec_lt, ℕ_discrete}
use lib.ListN.{length, get_or}
use Rattle.deck.specs.Deck.{Deck, N}
use Rattle.charge.specs.Charge.{rule_charge}
use Rattle.charge.specs.Memo.{Memo, RowKnown, Keeps, capped}
use Rattle.charge_tables.specs.Laws.Entries.{row_at}

module _ {d : Deck} {m : List ℕ} (h : Memo d m) (few : N d ≤ 16) where
  -- a row is known where its first entry is
  pub row-known : (r : ℕ) → (get_or m (16 * r) 0 ≡ 0 → ⊥) → RowKnown (N d) r m
  row-known r w =
      record {
        known = λ q l. h.whole r q l w;
        low = λ q l. omega (arith, row_at h few r q l (h.whole r q l w));
      }

pub keeps_same : {m : List ℕ} → Keeps m m
keeps_same = record { each = λ i _. refl }

pub keeps-trans : {m n o : List ℕ} → Keeps m n → Keeps n o → Keeps m o
keeps-trans a b = record { each = λ i v. b.each i (λ z. v (sym (a.each i v) ∙ z)) ∙ a.each i v }

-- what two memos have is the same, and so a memo that has more keeps what the other had
pub keeps-all : {d : Deck} {m n : List ℕ} → Memo d m → Memo d n
    → ((i : ℕ) → (get_or m i 0 ≡ 0 → ⊥) → get_or n i 0 ≡ 0 → ⊥) → Keeps m n
keeps-all h k more = record { each = λ i w. k.right i (more i w) ∙ sym (h.right i w) }

-- row r was written with the rule's charges
pub record Written (d : Deck) (r : ℕ) (m n : List ℕ) : Type 0 where
  pub long : length n ≡ length m
  pub each : (p : ℕ) → p < N d → get_or n (16 * r + p) 0 ≡ suc (capped (rule_charge d p r))
  pub others : (i : ℕ) → (i < 16 * r) ⊎ (16 * r + N d ≤ i) → get_or n i 0 ≡ get_or m i 0

module _ {d : Deck} {r : ℕ} {m n : List ℕ} (h : Memo d m) (few : N d ≤ 16) (w : Written d r m n) where
  -- an entry of the row, or another
  place : (i : ℕ) → ((p : ℕ) × (p < N d) × (i ≡ 16 * r + p)) ⊎ ((i < 16 * r) ⊎ (16 * r + N d ≤ i))
  place i = go (dec_lt i (16 * r)) (dec_lt i (16 * r + N d))
    where
      go : Dec (i < 16 * r) → Dec (i < 16 * r + N d) → ((p : ℕ) × (p < N d) × (i ≡ 16 * r + p)) ⊎ ((i < 16 * r) ⊎ (16 * r + N d ≤ i))
      go (yes a) _ = inr (inl a)
      go (no a) (no b) = inr (inr (omega arith))
      go (no a) (yes b) = inl (i - 16 * r, omega arith, omega arith)

  filled : (p : ℕ) → p < N d → get_or n (16 * r + p) 0 ≡ 0 → ⊥
  filled p l e = omega (arith, w.each p l)

  pub put-memo : Memo d n
  put-memo = record { long = w.long ∙ h.long; right = right; whole = λ s q l v z. whole s q l v z (ℕ_discrete s r) }
    where
      right : (i : ℕ) → (get_or n i 0 ≡ 0 → ⊥) → get_or n i 0 ≡ suc (capped (rule_charge d (i % 16) (i / 16)))
      right i v =
          ⊎_elim
          (λ (f : (p : ℕ) × (p < N d) × (i ≡ 16 * r + p)).
          let a : i % 16 ≡ f.0 = omega (arith, f.1, f.2) in
          let b : i / 16 ≡ r = omega (arith, f.1, f.2) in
          ap (λ j. get_or n j 0) f.2 ∙ w.each f.0 f.1 ∙ sym (ap₂ (λ q s. suc (capped (rule_charge d q s))) a b))
          (λ o. w.others i o ∙ h.right i (λ z. v (w.others i o ∙ z)))
          (place i)

      whole : (s q : ℕ) → q < N d → (get_or n (16 * s) 0 ≡ 0 → ⊥) → get_or n (16 * s + q) 0 ≡ 0 → Dec (s ≡ r) → ⊥
      whole s q l v z (yes e) = filled q l (ap (λ j. get_or n (16 * j + q) 0) (sym e) ∙ z)
      whole s q l v z (no e) =
          h.whole s q l (λ y. v (first ∙ y)) (sym (same q l) ∙ z)
        where
          same : (q : ℕ) → q < N d → get_or n (16 * s + q) 0 ≡ get_or m (16 * s + q) 0
          same q l = w.others (16 * s + q) (side (dec_lt s r))
            where
              side : Dec (s < r) → (16 * s + q < 16 * r) ⊎ (16 * r + N d ≤ 16 * s + q)
              side (yes a) = inl (omega arith)
              side (no a) = inr (omega arith)

          first : get_or n (16 * s) 0 ≡ get_or m (16 * s) 0
          first = let e : 16 * s + 0 ≡ 16 * s = omega arith in rw (sym e) (same 0 (omega arith))

  pub put_keeps : Keeps m n
  put_keeps =
      keeps-all h put-memo λ i v.
      ⊎_elim
      (λ f z. filled f.0 f.1 (ap (λ j. get_or n j 0) (sym f.2) ∙ z))
      (λ o z. v (sym (w.others i o) ∙ z))
      (place i)

  pub put-known : RowKnown (N d) r n
  put-known = record { known = filled; low = λ q l. omega (arith, w.each q l) }
