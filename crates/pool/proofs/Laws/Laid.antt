-- A pool that holds a list of updates, zeros behind them: what clearing makes of it, and what is read from it. Assumes nothing.
use Rattle.std.specs.Prelude.{ℕ, ◌+◌, ◌*◌, ◌-◌, ◌/◌, ◌≤◌, ◌≡◌, refl, true, take, drop, ℤ, pos}
use Rattle.std.proofs.Common.{sym, ◌∙◌, arith, take-append-drop, length-take, take_at, drop_at, leb-true}
use Rattle.std.proofs.Math.Path.{ap}
use mathlib.Core.List.{List, [], ◌∷◌, ◌++◌, map, append_assoc, flat_map}
use Rattle.std.proofs.Math.ListN.{length, length-append}
use Rattle.std.proofs.lemmas.List.{replicate-append-replicate, length-replicate}
use Rattle.lists.specs.Lists.{lists, all_of}
use Rattle.lists.specs.Laws.Alls.{all_of-left, all_of-take}
use Rattle.deck.specs.Deck.{Deck}
use Rattle.pool.specs.Updates.{Update}
use Rattle.pool.specs.Places.{zeros, capacity, place, pool_of, places, updates_of}
use Rattle.pool.specs.States.{Memory, load, store, good}
use Rattle.pool.specs.Moves.{Laid}
use Rattle.pool.proofs.Laws.Places.{places-back, places-length, pool-length}
use Rattle.pool.specs.Fine.{short}
use Rattle.pool.proofs.Laws.Good.{updates-length, updates-short, good-tests, store-load}

-- ---- the numbers of some updates, cut at a place

numbers-append : (us ws : List Update) → flat_map place (us ++ ws) ≡ flat_map place us ++ flat_map place ws
unfolding lists
numbers-append [] ws = refl
numbers-append (u ∷ us) ws =
    ap (λ l. place u ++ l) (numbers-append us ws) ∙ sym (append_assoc (place u) (flat_map place us) (flat_map place ws))

pub zeros-length : (n : ℕ) → length (zeros n) ≡ n
unfolding zeros
zeros-length n = length-replicate n (pos 0)

pub zeros-append : (a b : ℕ) → zeros a ++ zeros b ≡ zeros (a + b)
unfolding zeros
zeros-append a b = replicate-append-replicate a b (pos 0)

module _ (n : ℕ) (us : List Update) (h : all_of short us ≡ true) where
  module _ (k : ℕ) (l : k ≤ length us) where
    front_length : length (flat_map place (take k us)) ≡ 10 * k
    front_length = omega (arith, places-length (take k us) (all_of-take short k us h), length-take k us)

    cut : pool_of n us ≡ flat_map place (take k us) ++ (flat_map place (drop k us) ++ zeros (n - 10 * length us))
    unfolding pool_of
    cut =
        ap (λ x. flat_map place x ++ zeros (n - 10 * length us)) (sym (take-append-drop k us))
        ∙ ap (λ x. x ++ zeros (n - 10 * length us)) (numbers-append (take k us) (drop k us))
        ∙ append_assoc (flat_map place (take k us)) (flat_map place (drop k us)) (zeros (n - 10 * length us))

    take-pool : take (10 * k) (pool_of n us) ≡ flat_map place (take k us)
    take-pool =
        ap (take (10 * k)) cut
        ∙ take_at (flat_map place (take k us)) (flat_map place (drop k us) ++ zeros (n - 10 * length us)) (10 * k) front_length

    drop-pool : drop (10 * k) (pool_of n us) ≡ flat_map place (drop k us) ++ zeros (n - 10 * length us)
    drop-pool =
        ap (drop (10 * k)) cut
        ∙ drop_at (flat_map place (take k us)) (flat_map place (drop k us) ++ zeros (n - 10 * length us)) (10 * k) front_length

-- ---- the laws

module _ (n : ℕ) (us : List Update) (h : all_of short us ≡ true) (r : 10 * length us ≤ n) (pool : List ℤ) (e : pool ≡ pool_of n us) where
  same_length : length pool ≡ n
  same_length = ap length e ∙ pool-length n us h r

  pub is-laid : Laid pool us
  is-laid = record { is = e ∙ ap (λ k. pool_of k us) (sym same_length); short = h; room = omega (arith, same_length, r) }

module _ {pool : List ℤ} {us : List Update} (h : Laid pool us) where
  pub laid-places : places (length us) pool ≡ map place us
  unfolding pool_of
  laid-places =
      ap (places (length us)) h.is ∙ places-back (zeros (length pool - 10 * length us)) us h.short

-- the last updates become zeros
module _ {pool : List ℤ} (us extra : List Update) (h : Laid pool (us ++ extra)) where
  first-room : 10 * length us ≤ length pool
  first-room = omega (arith, h.room, length-append us extra)

  cleared : take (10 * length us) pool ++ zeros (length pool - 10 * length us) ≡ pool_of (length pool) us
  unfolding pool_of
  cleared =
      let few : length us ≤ length (us ++ extra) = omega (arith, length-append us extra) in
      ap (λ a. a ++ zeros (length pool - 10 * length us))
      (ap (take (10 * length us)) h.is
      ∙ take-pool (length pool) (us ++ extra) h.short (length us) few
      ∙ ap (flat_map place) (take_at us extra (length us) refl))

  pub laid-cleared : Laid (take (10 * length us) pool ++ zeros (length pool - 10 * length us)) us
  laid-cleared =
      is-laid (length pool) us (all_of-left short us extra h.short) first-room
      (take (10 * length us) pool ++ zeros (length pool - 10 * length us))
      cleared

  pub cleared-length : length (take (10 * length us) pool ++ zeros (length pool - 10 * length us)) ≡ length pool
  cleared-length =
      same_length (length pool) us (all_of-left short us extra h.short) first-room
      (take (10 * length us) pool ++ zeros (length pool - 10 * length us))
      cleared

-- a good state's pool holds its pending updates
pub laid-good : (d : Deck) (m : Memory) → good d m ≡ true → Laid m.pool (updates_of m.state.pending m.pool)
unfolding load store capacity
laid-good d m h =
    let n = m.state.pending in
    let t = good-tests d m h in
    record {
      is = sym (ap (λ x. x.pool) (store-load d m h));
      short = updates-short n m.pool;
      room = omega (arith, leb-true n (length m.pool / 10) t.few, updates-length n m.pool);
    }
