-- Document 01, "State and pool": the lent pool as places of ten numbers. Assumes nothing.
use Rattle.std.specs.Prelude.{ℕ, zero, suc, ◌*◌, ◌-◌, ◌/◌, Bool, length, get_or, take, drop, replicate, ℤ, pos, nat_abs}
use mathlib.Core.List.{List, [], ◌∷◌, ◌++◌, map, flat_map}
use Rattle.lists.specs.Lists.{eq_z, eq_list}
use Rattle.deck.specs.Limits.{limits}
use Rattle.pool.specs.Updates.{Pair, Update}

unfoldable pub zeros : ℕ → List ℤ
zeros n = replicate n (pos 0)

unfoldable pub is_zero : ℤ → Bool
is_zero v = eq_z v (pos 0)

-- C, the number of places of a pool of n numbers
unfoldable pub capacity : ℕ → ℕ
capacity n = n / limits.place

-- An update as it is written: "part, assignment count 1 to 4, then four pairs of channel and value, unused numbers 0"
unfoldable pub place : Update → List ℤ
place u =
    pos u.part ∷ pos (length u.pairs) ∷ flat_map (λ a. pos a.channel ∷ a.value ∷ []) u.pairs
    ++ zeros (2 * (limits.assignments - length u.pairs))

-- a pool of n numbers with these updates in front. "Places from the pending number on are all 0"
unfoldable pub pool_of : ℕ → List Update → List ℤ
pool_of n us = flat_map place us ++ zeros (n - limits.place * length us)

-- channel, value, channel, value; the sign of a channel is tested elsewhere
unfoldable pub pairs_of : List ℤ → List Pair
pairs_of [] = []
pairs_of (c ∷ []) = []
pairs_of (c ∷ v ∷ l) = record { channel = nat_abs c; value = v } ∷ pairs_of l

-- the update that a place holds
unfoldable pub update_of : List ℤ → Update
update_of l = record { part = nat_abs (get_or l 0 (pos 0)); pairs = take (nat_abs (get_or l 1 (pos 0))) (pairs_of (drop 2 l)) }

-- writing the update again gives the same numbers: none of part, count and channels is negative, the count is at most 4, and
-- the unused numbers are 0
unfoldable pub well_written : List ℤ → Bool
well_written l = eq_list eq_z (place (update_of l)) l

-- the first n places
unfoldable pub places : ℕ → List ℤ → List (List ℤ)
places zero pool = []
places (suc n) pool = take limits.place pool ∷ places n (drop limits.place pool)

unfoldable pub updates_of : ℕ → List ℤ → List Update
updates_of n pool = map update_of (places n pool)

-- to open all definitions of this file, on an `unfolding` line
unfoldable pub pools : Unit {0}
unfolding zeros is_zero capacity place pool_of pairs_of update_of well_written places updates_of
pools = tt
