-- The loop of one round: it adds the edges from the channels of a set, one channel after the other. Assumes nothing.
use Prim.Native.Nat.{ℕ, ◌+◌, ◌<◌, ◌≤◌}
use mathlib.Core.Path.{◌≡◌, sym, ap, ◌∙◌}
use mathlib.Core.Logic.{◌⊎◌, inl, inr, ⊎_elim}
use mathlib.Core.Bool.{true, false}
use mathlib.Core.List.{List}
use native.Mathlib.Nat.{eq-or-lt_of_le}
use native.Mathlib.Omega.{arith}
use lib.Bits.{bit_or}
use lib.ListN.{get_or}
use Rattle.lists.specs.Bits.{bit}
use Rattle.lists.specs.Laws.Booleans.{contradiction, or_left, or_right, or_cases}
use Rattle.lists.specs.Laws.Bits.{bit-or}
use Rattle.graph.specs.Masks.{edge_at, Spread}

-- the edges from the channels of f below b are in t
pub record Spreading (n : ℕ) (xs : List ℕ) (f s t b : ℕ) : Type 0 where
  pub keeps : (c : ℕ) → bit s c ≡ true → bit t c ≡ true
  pub grows : (d c : ℕ) → d < b → bit f d ≡ true → edge_at xs d c ≡ true → bit t c ≡ true
  pub sound : (c : ℕ) → bit t c ≡ true → (bit s c ≡ true) ⊎ ((d : ℕ) × (d < n) × (bit f d ≡ true) × (edge_at xs d c ≡ true))

module _ (n : ℕ) (xs : List ℕ) where
  pub spreading-none : (f s : ℕ) → Spreading n xs f s s 0
  spreading-none f s = record { keeps = λ c k. k; grows = λ d c l. absurd (omega arith); sound = λ c k. inl k }

  module _ {f s t b : ℕ} (h : Spreading n xs f s t b) where
    pub spreading-skip : bit f b ≡ false → Spreading n xs f s t (b + 1)
    spreading-skip miss =
        record {
          keeps = h.keeps;
          grows = λ d c m i g.
              ⊎_elim
              (λ q. contradiction (ap (bit f) (sym q) ∙ i) miss)
              (λ l. h.grows d c l i g)
              (eq-or-lt_of_le {n = d} {m = b} (omega arith));
          sound = h.sound;
        }

    -- the edges from b are added to t
    old : (c : ℕ) → bit t c ≡ true → bit (bit_or t (get_or xs b 0)) c ≡ true
    old c k = bit-or t (get_or xs b 0) c ∙ or_left (bit (get_or xs b 0) c) k

    new : (c : ℕ) → edge_at xs b c ≡ true → bit (bit_or t (get_or xs b 0)) c ≡ true
    unfolding edge_at
    new c k = bit-or t (get_or xs b 0) c ∙ or_right (bit t c) k

    edge : (c : ℕ) → bit (get_or xs b 0) c ≡ true → edge_at xs b c ≡ true
    unfolding edge_at
    edge c k = k

    pub spreading-more : b < n → bit f b ≡ true → Spreading n xs f s (bit_or t (get_or xs b 0)) (b + 1)
    spreading-more lb hit =
        record {
          keeps = λ c k. old c (h.keeps c k);
          grows = λ d c m i g.
              ⊎_elim
              (λ q. new c (ap (λ x. edge_at xs x c) (sym q) ∙ g))
              (λ l. old c (h.grows d c l i g))
              (eq-or-lt_of_le {n = d} {m = b} (omega arith));
          sound = λ c k.
              ⊎_elim (λ j. h.sound c j) (λ j. inr (b, lb, hit, edge c j)) (or_cases (bit t c) (sym (bit-or t (get_or xs b 0) c) ∙ k));
        }

    pub spreading-all : n ≤ b → Spread n (edge_at xs) f s t
    spreading-all l = record { keeps = h.keeps; grows = λ d c m i g. h.grows d c (omega arith) i g; sound = h.sound }
