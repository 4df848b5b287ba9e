-- A settle is as many commits of place 0 as it answers, one after the other, and it stops no earlier and no later than it should. Assumes
-- nothing.
use Rattle.std.specs.Prelude.{ℕ, zero, suc, ◌≤◌, ◌<◌, ◌≡◌, refl, Bool, true, false, cond}
use Rattle.std.proofs.Common.{arith}
use Rattle.lists.specs.Lists.{is_empty}
use Rattle.deck.specs.Deck.{Deck}
use Rattle.pool.specs.States.{Machine}
use Rattle.firing.specs.Firing.{committed}
use Rattle.calls.specs.Calls.{Settling, one_more, settling}

-- n commits of place 0
unfoldable pub repeated : ℕ → Deck → Machine → Machine
repeated zero d x = x
repeated (suc n) d x = repeated n d (committed d 0 x).machine

-- `s` is a settle of x with budget b
pub record Repeats (d : Deck) (b : ℕ) (x : Machine) (s : Settling) : Type 0 where
  pub bounded : s.made ≤ b
  pub machine : s.machine ≡ repeated s.made d x
  pub earlier : (j : ℕ) → j < s.made → is_empty (repeated j d x).pending ≡ false
  pub ended : s.made < b → is_empty s.machine.pending ≡ true

-- nothing is pending, or nothing may be spent
none_made : (d : Deck) (b : ℕ) (x : Machine) → (0 < b → is_empty x.pending ≡ true)
    → Repeats d b x (record { made = 0; machine = x })
unfolding repeated
none_made d b x h = record { bounded = omega arith; machine = refl; earlier = λ j l. absurd (omega arith); ended = h }

one-made : (d : Deck) (b : ℕ) (x : Machine) (s : Settling) → is_empty x.pending ≡ false
    → Repeats d b (committed d 0 x).machine s → Repeats d (suc b) x (one_more s)
unfolding repeated one_more
one-made d b x s h r =
    record {
      bounded = omega (arith, r.bounded);
      machine = r.machine;
      earlier = before;
      ended = λ l. r.ended (omega arith);
    }
  where
    before : (j : ℕ) → j < suc s.made → is_empty (repeated j d x).pending ≡ false
    before zero l = h
    before (suc j) l = r.earlier j (omega arith)

pub settle-repeats : (d : Deck) (b : ℕ) (x : Machine) → Repeats d b x (settling d b x)
unfolding settling
settle-repeats d zero x = none_made d zero x (λ l. absurd (omega arith))
settle-repeats d (suc b) x = go (is_empty x.pending) refl (settle-repeats d b (committed d 0 x).machine)
  where
    go : (t : Bool) → is_empty x.pending ≡ t → Repeats d b (committed d 0 x).machine (settling d b (committed d 0 x).machine)
        → Repeats d (suc b) x (cond t (record { made = 0; machine = x }) (one_more (settling d b (committed d 0 x).machine)))
    go true e r = none_made d (suc b) x (λ l. e)
    go false e r = one-made d b x (settling d b (committed d 0 x).machine) e r
