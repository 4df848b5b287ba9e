-- Document 01, "State and pool": value tables and updates. Assumes nothing.
use Rattle.std.specs.Prelude.{ℕ, ◌+◌, ◌*◌, Bool, true, not, ◌&&◌, List, [], ◌∷◌, map, eqb, get_or, set, ℤ, pos}
use Rattle.lists.specs.Lists.{any_of, sum_of, eq_z, eq_list}
use Rattle.deck.specs.Limits.{limits}
use Rattle.deck.specs.Deck.{Deck}
use Rattle.charge.specs.Charge.{update_charge}

-- "channel c of part p at 32p + c"
unfoldable pub index_of : ℕ → ℕ → ℕ
index_of p c = limits.channels * p + c

unfoldable pub value_at : List ℤ → ℕ → ℕ → ℤ
value_at values p c = get_or values (index_of p c) (pos 0)

-- a channel and a value for it
pub record Pair : Type 0 where
  pub channel : ℕ
  pub value : ℤ

-- the table with channels of part p set, pair by pair
unfoldable pub assign : ℕ → List Pair → List ℤ → List ℤ
assign p [] values = values
assign p (a ∷ l) values = assign p l (set values (index_of p a.channel) a.value)

pub record Update : Type 0 where
  pub part : ℕ
  pub pairs : List Pair

unfoldable pub channels : Update → List ℕ
channels u = map (λ a. a.channel) u.pairs

-- "Two updates are equal when part and list of pairs are equal"
unfoldable pub eq_pair : Pair → Pair → Bool
eq_pair a b = eqb a.channel b.channel && eq_z a.value b.value

unfoldable pub eq_update : Update → Update → Bool
eq_update u w = eqb u.part w.part && eq_list eq_pair u.pairs w.pairs

unfoldable pub is_among : Update → List Update → Bool
is_among u us = any_of (eq_update u) us

-- "no two equal"
unfoldable pub all_different : List Update → Bool
all_different [] = true
all_different (u ∷ us) = not (is_among u us) && all_different us

-- "The charge of a state is the sum over its pending updates"
unfoldable pub charge : Deck → List Update → ℕ
charge d us = sum_of (λ u. update_charge d u.part (channels u)) us

-- to open all definitions of this file, on an `unfolding` line
unfoldable pub updates : Unit {0}
unfolding index_of value_at assign channels eq_pair eq_update is_among all_different charge
updates = tt
