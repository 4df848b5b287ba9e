-- The loop that adds targets to the edges from every event. Assumes nothing.
use Prim.Native.Nat.{ℕ, ◌+◌, ◌<◌, ◌≤◌}
use mathlib.Core.Path.{◌≡◌, refl, sym, ap, ap₂, ◌∙◌, subst}
use mathlib.Core.Logic.{⊎_elim}
use mathlib.Core.Bool.{true, false, ◌&&◌, ◌||◌, or-false}
use mathlib.Core.List.{List}
use native.Mathlib.Nat.{eq-or-lt_of_le}
use native.Mathlib.Omega.{arith}
use lib.Bits.{bit_or}
use lib.ListN.{length, get_or, set, length-set}
use lib.Seq.{get_or-set_same, get_or-set_other}
use Rattle.lists.specs.Bits.{bit}
use Rattle.lists.specs.Laws.Bits.{bit-or}
use Rattle.graph.specs.Masks.{edge_at, Added}

-- the channels below c are done, and the others as they were
pub record Adding (events targets : ℕ) (xs ys : List ℕ) (c : ℕ) : Type 0 where
  pub long : length ys ≡ 32
  pub done : (a b : ℕ) → a < c → edge_at ys a b ≡ (edge_at xs a b || bit events a && bit targets b)
  pub rest : (a : ℕ) → c ≤ a → get_or ys a 0 ≡ get_or xs a 0

pub adding-none : (e t : ℕ) (xs : List ℕ) → length xs ≡ 32 → Adding e t xs xs 0
adding-none e t xs l = record { long = l; done = λ a b m. absurd (omega arith); rest = λ a m. refl }

module _ {e t : ℕ} {xs ys : List ℕ} {c : ℕ} (h : Adding e t xs ys c) where
  -- channel c is done besides
  step : (zs : List ℕ) → length zs ≡ length ys
      → ((b : ℕ) → edge_at zs c b ≡ (edge_at xs c b || bit e c && bit t b))
      → ((a : ℕ) → (a ≡ c → ⊥) → get_or zs a 0 ≡ get_or ys a 0)
      → Adding e t xs zs (c + 1)
  unfolding edge_at
  step zs l here other =
      record {
        long = l ∙ h.long;
        done = λ a b m.
            ⊎_elim
            (λ q. subst (λ (k : ℕ). edge_at zs k b ≡ (edge_at xs k b || bit e k && bit t b)) (sym q) (here b))
            (λ lt. ap (λ x. bit x b) (other a (λ q. omega arith)) ∙ h.done a b lt)
            (eq-or-lt_of_le {n = a} {m = c} (omega arith));
        rest = λ a m. other a (λ q. omega arith) ∙ h.rest a (omega arith);
      }

  pub adding-yes : c < 32 → bit e c ≡ true → Adding e t xs (set ys c (bit_or (get_or ys c 0) t)) (c + 1)
  unfolding edge_at
  adding-yes l y =
      step (set ys c (bit_or (get_or ys c 0) t)) (length-set ys c _)
      (λ b.
      ap (λ x. bit x b) (get_or-set_same ys c _ 0 (omega (arith, h.long)))
      ∙ bit-or (get_or ys c 0) t b
      ∙ ap₂ (λ u v. u || v) (ap (λ x. bit x b) (h.rest c (omega arith))) (sym (ap (λ x. x && bit t b) y)))
      (λ a n. get_or-set_other ys c a _ 0 n)

  pub adding-no : bit e c ≡ false → Adding e t xs ys (c + 1)
  unfolding edge_at
  adding-no n =
      step ys refl
      (λ b.
      ap (λ x. bit x b) (h.rest c (omega arith))
      ∙ sym (ap (λ x. edge_at xs c b || x && bit t b) n ∙ or-false (edge_at xs c b)))
      (λ a q. refl)

  pub adding-all : 32 ≤ c → Added e t xs ys
  adding-all l = record { long = h.long; each = λ a b m. h.done a b (omega arith) }
