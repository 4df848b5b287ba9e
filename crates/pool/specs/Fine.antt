-- What is known of a good state. Assumes nothing.
use Rattle.std.specs.Prelude.{ℕ, ◌≤◌, ◌≡◌, Bool, true, leb, length}
use Rattle.lists.specs.Lists.{all_of}
use Rattle.deck.specs.Deck.{Deck}
use Rattle.pool.specs.Updates.{Update, all_different, charge}
use Rattle.pool.specs.States.{Machine, unused_zero, known}

-- at most four pairs, so that a place has room for them
unfoldable pub short : Update → Bool
short u = leb (length u.pairs) 4

-- a good state with C places, as values and pending updates
pub record Fine (d : Deck) (C : ℕ) (x : Machine) : Type 0 where
  pub long : length x.values ≡ 512
  pub unused : unused_zero d 0 x.values ≡ true
  pub known : all_of (known d) x.pending ≡ true
  pub short : all_of short x.pending ≡ true
  pub different : all_different x.pending ≡ true
  pub bounded : charge d x.pending ≤ C
