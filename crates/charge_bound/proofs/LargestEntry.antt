-- The largest entry of row r of a memo, over the first k parts. Assumes nothing.
use Prim.Native.Nat.{ℕ, ◌+◌, ◌*◌, ◌-◌, ◌<◌, max}
use mathlib.Core.Path.{◌≡◌, sym, ap, ◌∙◌}
use mathlib.Core.Logic.{⊎_elim}
use mathlib.Core.Bool.{true, false}
use mathlib.Core.List.{List}
use native.Mathlib.Nat.{eq-or-lt_of_le}
use native.Mathlib.Omega.{arith}
use lib.ListN.{get_or}
use Rattle.lists.specs.Bits.{bit}
use Rattle.lists.specs.Laws.Booleans.{contradiction}
use Rattle.charge.specs.Memo.{RowLargest}

module _ {parts m : List ℕ} {r best : ℕ} where
  pub largest-none : RowLargest parts m 0 r best best
  largest-none = record { from = omega arith; each = λ q l t. absurd (omega arith); least = λ b l each. l }

  module _ {k most : ℕ} (h : RowLargest parts m k r best most) where
    pub largest-yes : (x : ℕ) → bit (get_or parts (4 * k) 0) r ≡ true → x ≡ max most (get_or m (16 * r + k) 0 - 1)
        → RowLargest parts m (k + 1) r best x
    largest-yes x t e =
        record {
          from = omega (arith, h.from);
          each = λ q l u.
              ⊎_elim
              (λ (i : q ≡ k). let same = ap (λ q. get_or m (16 * r + q) 0) i in omega arith)
              (λ (v : q < k). omega (arith, h.each q v u))
              (eq-or-lt_of_le (omega arith));
          least = λ b l each. omega (arith, h.least b l (λ q v. each q (omega arith)), each k (omega arith) t);
        }

    pub largest-no : bit (get_or parts (4 * k) 0) r ≡ false → RowLargest parts m (k + 1) r best most
    largest-no f =
        record {
          from = h.from;
          each = λ q l u.
              ⊎_elim
              (λ (i : q ≡ k). contradiction (ap (λ q. bit (get_or parts (4 * q) 0) r) (sym i) ∙ u) f)
              (λ (v : q < k). h.each q v u)
              (eq-or-lt_of_le (omega arith));
          least = λ b l each. h.least b l (λ q v. each q (omega arith));
        }
