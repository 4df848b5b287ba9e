-- The offsets of a deck's sections. Assumes nothing.
use Prim.Native.Nat.{ℕ, zero, suc, ◌≤◌}
use Rattle.std.specs.Prelude.{◌≡◌}
use Rattle.std.proofs.Math.Path.{refl}
use native.Mathlib.Omega.{arith}
use Rattle.deck.specs.Sections.{offset_of}

module _ (rules_at parts_at end : ℕ) where
  pub offset-end : (k : ℕ) → 3 ≤ k → offset_of rules_at parts_at end k ≡ end
  unfolding offset_of
  offset-end zero h = absurd (omega arith)
  offset-end (suc zero) h = absurd (omega arith)
  offset-end (suc (suc zero)) h = absurd (omega arith)
  offset-end (suc (suc (suc k))) h = refl

  -- a section's count stands before the next one's
  pub offset-order : rules_at ≤ parts_at → parts_at ≤ end → (k : ℕ) → k ≤ 2
      → (offset_of rules_at parts_at end k ≤ offset_of rules_at parts_at end (suc k)) × (offset_of rules_at parts_at end (suc k) ≤ end)
  unfolding offset_of
  offset-order a b zero h = (omega arith, omega arith)
  offset-order a b (suc zero) h = (omega arith, omega arith)
  offset-order a b (suc (suc zero)) h = (omega arith, omega arith)
  offset-order a b (suc (suc (suc k))) h = absurd (omega arith)
