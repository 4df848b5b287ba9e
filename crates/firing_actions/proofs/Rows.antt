-- The place of the update that an action makes, as the code writes it: by the count that the deck holds, and with casts.
-- Assumes nothing.
use Prim.Native.Nat.{ℕ, ◌+◌, ◌*◌, ◌^◌, ◌≤◌, ◌<◌}
use mathlib.Core.Path.{◌≡◌, sym}
use mathlib.Core.List.{List}
use native.Mathlib.Omega.{arith}
use lib.ListN.{length, get_or, set, replicate}
use lib.IntN.{ℤ, pos}
use lib.Signed.{mag}
use mir.Syntax.{w32}
use mir.Val.{of_z, to_z}
use mir.ValLaws.{to_z-of_z}
use Rattle.expression.specs.Answers.{scope}
use Rattle.deck.specs.Deck.{Action}
use Rattle.deck.specs.Layout.{action}
use Rattle.deck.specs.Facts.{ReadsAt}
use Rattle.pool.specs.Places.{place}
use Rattle.firing.specs.Evaluated.{NumberIs, update_by}
use Rattle.firing.proofs.Laws.Lined.{ActionStands, action-stands}
use Rattle.firing.proofs.Laws.Written.{Writing, Turn, writing-none, writing-next, writing-end}
use Rattle.firing_actions.proofs.Naturals.{cast-small}

-- the target and the value of a turn
pub row-turned : (own far : List ℤ) (q : ℕ) (s : List ℕ) (a : Action) (row : List ℤ) (next i : ℕ) (t v : ℤ) (n : ℕ)
    → Turn own far q s a row next i → t ≡ pos (get_or s next 0) → get_or s next 0 < 256 → mag v < 2 ^ 31
    → NumberIs s (next + 1) own far v → n ≡ get_or s (next + 1) 0
    → Writing own far q s a (set (set row (2 + 2 * i) (to_z w32 (of_z w32 t))) (3 + 2 * i) (to_z w32 (of_z w32 v))) (next + (2 + n)) (i + 1)
row-turned own far q s a row next i t v n turn target byte fits is size =
    let there : next + (2 + get_or s (next + 1) 0) ≡ next + 2 + get_or s (next + 1) 0 = omega arith in
    rw (
      target,
      to_z-of_z w32 (pos (get_or s next 0)) (record { sfits = omega (arith, byte) }),
      to_z-of_z w32 v (record { sfits = fits }),
      turn.target,
      is turn.one.value turn.value,
      size,
      there,
    )
    turn.next

-- the readings of an action that the contracts speak of
abbrev pub Reading : List ℤ → List ℤ → List ℕ → ℕ → Action → Type 0
Reading own far s at a = ReadsAt s (action (scope (length own) (length far))) at a

module _ (own far : List ℤ) (s : List ℕ) (at : ℕ) (a : Action) (r : Reading own far s at a) where
  pub stands-there : ActionStands (scope (length own) (length far)) s at a
  stands-there = action-stands (scope (length own) (length far)) s at a r

  -- the part and the count
  pub row-begun : (q n : ℕ) → q < 16 → get_or s at 0 ≡ n
      → Writing own far q s a (set (set (replicate 10 (pos 0)) 0 (to_z w32 q)) 1 (to_z w32 n)) (at + 1) 0
  row-begun q n h e =
      rw (cast-small q (omega arith), cast-small n (omega (arith, stands-there.few, stands-there.count)), sym e)
      (writing-none own far q s a at r)

  -- the next turn, and the end
  module _ (q : ℕ) (row : List ℤ) (next i : ℕ) (w : Writing own far q s a row next i) where
    pub row-turn : i < get_or s at 0 → Turn own far q s a row next i
    row-turn h = writing-next own far q s a row next i (omega (arith, stands-there.count)) w

    pub row-ended : get_or s at 0 ≤ i → row ≡ place (update_by own far q a)
    row-ended h = writing-end own far q s a row next i (omega (arith, stands-there.count)) w
