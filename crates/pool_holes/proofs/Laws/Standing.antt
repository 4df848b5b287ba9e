-- The updates that stand in places with holes: taken out, parted by the holes, and counted. Assumes nothing.
use Prim.Native.Nat.{ℕ, zero, suc, ◌+◌, ◌-◌, ◌<◌}
use Rattle.std.specs.Prelude.{◌≡◌, refl, List, [], ◌∷◌, ◌++◌, take, set, replicate}
use Rattle.std.proofs.Math.Path.{sym, ap}
use Rattle.std.proofs.Common.{ap₂, ◌∙◌}
use native.Mathlib.Omega.{arith}
use Rattle.std.proofs.Math.ListN.{length, get_or, drop, length-append}
use Rattle.std.proofs.lemmas.List.{length-replicate, set_split}
use Rattle.std.proofs.Math.Seq.{split_at, get_or-append_seam, take-append_seam, drop-append-add}
use Rattle.pool.specs.Updates.{Update}
use Rattle.pool_holes.specs.Slots.{Slot, hole, holds, standing, holes, whole, before, Edges, slotted}

pub standing-append : (a b : List Slot) → standing (a ++ b) ≡ standing a ++ standing b
unfolding standing
standing-append [] b = refl
standing-append (hole ∷ a) b = standing-append a b
standing-append (holds u ∷ a) b = ap (λ l. u ∷ l) (standing-append a b)

-- ---- places without holes

pub whole-standing : (us : List Update) → standing (whole us) ≡ us
unfolding slotted
whole-standing [] = refl
whole-standing (u ∷ us) = ap (λ l. u ∷ l) (whole-standing us)

pub whole_length : (us : List Update) → length (whole us) ≡ length us
unfolding slotted
whole_length [] = refl
whole_length (u ∷ us) = ap suc (whole_length us)

pub whole-holes : (us : List Update) → holes (whole us) ≡ 0
unfolding slotted
whole-holes [] = refl
whole-holes (u ∷ us) = whole-holes us

pub whole_append : (a b : List Update) → whole (a ++ b) ≡ whole a ++ whole b
unfolding slotted
whole_append [] b = refl
whole_append (u ∷ a) b = ap (λ l. holds u ∷ l) (whole_append a b)

-- ---- one taken out

module _ (slots : List Slot) (p : ℕ) (u : Update) (l : p < length slots) (e : get_or slots p hole ≡ holds u) where
  abbrev A : List Update
  A = standing (take p slots)

  abbrev B : List Update
  B = standing (drop (suc p) slots)

  split : standing slots ≡ A ++ u ∷ B
  unfolding standing
  split =
      ap standing (split_at slots p hole l)
      ∙ ap (λ s. standing (take p slots ++ s ∷ drop (suc p) slots)) e
      ∙ standing-append (take p slots) (holds u ∷ drop (suc p) slots)

  -- it is the one of its number
  pub standing-pick : (none : Update) → get_or (standing slots) (before p slots) none ≡ u
  unfolding before
  standing-pick none = ap (λ us. get_or us (length A) none) split ∙ get_or-append_seam A u B none

  pub standing-inside : before p slots < length (standing slots)
  unfolding before
  standing-inside = omega (arith, ap length split, length-append A (u ∷ B))

  -- and the others keep their order
  pub standing-emptied : standing (set slots p hole)
      ≡ take (before p slots) (standing slots) ++ drop (suc (before p slots)) (standing slots)
  unfolding standing before
  standing-emptied =
      ap standing (set_split slots p hole l)
      ∙ standing-append (take p slots) (hole ∷ drop (suc p) slots)
      ∙ sym (ap₂ (λ a b. a ++ b)
      (ap (take (length A)) split ∙ take-append_seam A (u ∷ B))
      (ap (drop (suc (length A))) split ∙ ap (λ n. drop n (A ++ u ∷ B)) one ∙ drop-append-add A (u ∷ B) 1))
    where
      one : suc (length A) ≡ length A + 1
      one = omega arith

-- ---- where the holes stand

-- `a` stand in front, n places behind them were taken out, and `b` stand behind those
abbrev pub parted : List Update → ℕ → List Update → List Slot
parted a n b = whole a ++ (replicate n hole ++ whole b)

-- the first place behind the holes has the number of the first update behind them
pub parted-before : (a : List Update) (n : ℕ) (b : List Update) (p : ℕ) → p ≡ length a + n → before p (parted a n b) ≡ length a
unfolding slotted
parted-before [] zero b zero e = refl
parted-before [] zero b (suc p) e = absurd (omega arith)
parted-before [] (suc n) b zero e = absurd (omega arith)
parted-before [] (suc n) b (suc p) e = parted-before [] n b p (omega arith)
parted-before (u ∷ a) n b zero e = absurd (omega arith)
parted-before (u ∷ a) n b (suc p) e = ap suc (parted-before a n b p (omega arith))

pub parted-at : (a : List Update) (n : ℕ) (u : Update) (b : List Update) (p : ℕ) → p ≡ length a + n
    → get_or (parted a n (u ∷ b)) p hole ≡ holds u
unfolding slotted
parted-at [] zero u b zero e = refl
parted-at [] zero u b (suc p) e = absurd (omega arith)
parted-at [] (suc n) u b zero e = absurd (omega arith)
parted-at [] (suc n) u b (suc p) e = parted-at [] n u b p (omega arith)
parted-at (w ∷ a) n u b zero e = absurd (omega arith)
parted-at (w ∷ a) n u b (suc p) e = parted-at a n u b p (omega arith)

-- it is taken out as well, and others are written behind
pub parted-emptied : (a : List Update) (n : ℕ) (u : Update) (b extra : List Update) (p : ℕ) → p ≡ length a + n
    → set (parted a n (u ∷ b)) p hole ++ whole extra ≡ parted a (suc n) (b ++ extra)
unfolding slotted
parted-emptied [] zero u b extra zero e = ap (λ l. hole ∷ l) (sym (whole_append b extra))
parted-emptied [] zero u b extra (suc p) e = absurd (omega arith)
parted-emptied [] (suc n) u b extra zero e = absurd (omega arith)
parted-emptied [] (suc n) u b extra (suc p) e = ap (λ l. hole ∷ l) (parted-emptied [] n u b extra p (omega arith))
parted-emptied (w ∷ a) n u b extra zero e = absurd (omega arith)
parted-emptied (w ∷ a) n u b extra (suc p) e = ap (λ l. holds w ∷ l) (parted-emptied a n u b extra p (omega arith))

pub parted-standing : (a : List Update) (n : ℕ) (b : List Update) → standing (parted a n b) ≡ a ++ b
unfolding slotted
parted-standing [] zero b = whole-standing b
parted-standing [] (suc n) b = parted-standing [] n b
parted-standing (u ∷ a) n b = ap (λ l. u ∷ l) (parted-standing a n b)

pub parted-holes : (a : List Update) (n : ℕ) (b : List Update) → holes (parted a n b) ≡ n
unfolding slotted
parted-holes [] zero b = whole-holes b
parted-holes [] (suc n) b = ap suc (parted-holes [] n b)
parted-holes (u ∷ a) n b = parted-holes a n b

pub parted-length : (a : List Update) (n : ℕ) (b : List Update) → length (parted a n b) ≡ length a + n + length b
parted-length a n b =
    omega (
      arith,
      length-append (whole a) (replicate n hole ++ whole b),
      length-append (replicate n hole) (whole b),
      length-replicate n hole,
      whole_length a,
      whole_length b,
    )

parted-behind : (a : List Update) (n : ℕ) (b : List Update) (p : ℕ) → p ≡ length a + n → drop p (parted a n b) ≡ whole b
unfolding slotted
parted-behind [] zero b zero e = refl
parted-behind [] zero b (suc p) e = absurd (omega arith)
parted-behind [] (suc n) b zero e = absurd (omega arith)
parted-behind [] (suc n) b (suc p) e = parted-behind [] n b p (omega arith)
parted-behind (u ∷ a) n b zero e = absurd (omega arith)
parted-behind (u ∷ a) n b (suc p) e = parted-behind a n b p (omega arith)

pub parted-edges : (a : List Update) (n : ℕ) (b : List Update) (p : ℕ) → p ≡ length a + n → Edges (parted a n b) (length a) p
unfolding slotted
parted-edges a n b p e =
    record {
      front = ap (λ l. length (standing l)) (ap (λ k. take k (parted a n b)) (sym (whole_length a))
          ∙ take-append_seam (whole a) (replicate n hole ++ whole b)) ∙ ap length (whole-standing a);
      back = ap (λ l. length (standing l)) (parted-behind a n b p e) ∙ ap length (whole-standing b) ∙ sym rest;
    }
  where
    rest : length (parted a n b) - p ≡ length b
    rest = omega (arith, parted-length a n b, e)

-- ---- counts

pub holes-append : (a b : List Slot) → holes (a ++ b) ≡ holes a + holes b
unfolding holes
holes-append [] b = omega arith
holes-append (hole ∷ a) b = omega (arith, holes-append a b)
holes-append (holds u ∷ a) b = holes-append a b

-- each used place is a hole or holds a pending update
pub places-counted : (slots : List Slot) → holes slots + length (standing slots) ≡ length slots
unfolding holes standing
places-counted [] = refl
places-counted (hole ∷ l) = omega (arith, places-counted l)
places-counted (holds u ∷ l) = omega (arith, places-counted l)

pub holes-emptied : (slots : List Slot) (p : ℕ) (u : Update) → p < length slots → get_or slots p hole ≡ holds u
    → holes (set slots p hole) ≡ holes slots + 1
unfolding holes
holes-emptied slots p u l e =
    let now = ap holes (set_split slots p hole l) ∙ holes-append (take p slots) (hole ∷ drop (suc p) slots) in
    let was =
    ap holes (split_at slots p hole l)
    ∙ ap (λ s. holes (take p slots ++ s ∷ drop (suc p) slots)) e
    ∙ holes-append (take p slots) (holds u ∷ drop (suc p) slots) in
    omega (arith, now, was)
