-- `pool_states::parts_fit` meets its contract. The loop's invariant: the answer for the parts from p on is the answer for all.
-- Assumes nothing.
use Prim.Native.Nat.{◌*◌}
use mathlib.Core.Path.{◌≡◌}
use lib.ListN.{drop}
use Rattle.deck.specs.Deck.{Deck, R, N}
use Rattle.pool.specs.States.{unused_zero}
use Rattle.pool_states.proofs.parts_fit.Given as goal

abbrev pub invariant-loop-p : goal.invariant-loop-p
invariant-loop-p l = (d : Deck) → R d ≡ l.channels → N d ≡ l.parts → unused_zero d (32 * l.p) (drop (32 * l.p) l.values) ≡ unused_zero d 0 l.values
