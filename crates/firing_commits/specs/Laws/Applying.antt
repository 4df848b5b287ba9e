-- The pairs of the update that a place holds, as numbers of the place, and what they change. Assumes nothing.
use Rattle.std.specs.Prelude.{ℕ, ◌*◌, ◌-◌, ◌<◌, ◌≤◌, ◌≡◌, true, get_or, take, drop, ℤ, pos}
use Rattle.std.proofs.Common.{sym, ◌∙◌, arith, length-take, length-drop}
use Rattle.std.proofs.Math.Path.{ap, subst}
use mathlib.Core.List.{List, flat_map}
use Rattle.std.proofs.Math.ListN.{length}
use Rattle.std.proofs.Math.Seq.{take_at}
use borrow.Author.Tests.{leb-true}
use Rattle.lists.specs.Bits.{mask_of}
use Rattle.deck.specs.Deck.{Deck, R, N}
use Rattle.pool.specs.Updates.{Update, channels, assign}
use Rattle.pool.specs.Places.{zeros, place, pairs_of, update_of, pools}
use Rattle.pool.proofs.Laws.Places.{numbers-length}
use Rattle.pool.specs.Fine.{short}
use Rattle.pool.proofs.Laws.Good.{written_same, place_short}
use Rattle.pool_states.specs.Answer.{HoldsKnown}
use Rattle.pool_states.specs.Fits.{within}
use Rattle.pool_states.specs.Laws.Fits.{within-pos}
use Rattle.pool_states.specs.Laws.PairsHeld.{known-low}
use Rattle.firing.specs.Firing.{changed}
use Rattle.firing.specs.Evaluated.{Assignable, held_pairs, channels_set, Compared}
use Rattle.firing.proofs.Laws.Commits.{Known, known-has}
use Rattle.firing.proofs.Laws.Pairs.{numbers, pairs-numbers, numbers-assignable}
use Rattle.firing.proofs.Laws.Setting.{set_back, compared-changed}

-- the first numbers of a place, and the pairs behind them
module _ (u : Update) (s : short u ≡ true) where
  place-count : within 5 (get_or (place u) 1 (pos 0)) ≡ length u.pairs
  unfolding pools short
  place-count = within-pos 5 (length u.pairs) (omega (arith, leb-true (length u.pairs) 4 s))

  place-pairs : take (2 * length u.pairs) (drop 2 (place u)) ≡ flat_map numbers u.pairs
  unfolding pools
  place-pairs =
      take_at (flat_map numbers u.pairs) (zeros (2 * (4 - length u.pairs))) (2 * length u.pairs) (numbers-length u.pairs)

module _ (d : Deck) (l : List ℤ) (h : HoldsKnown d l) where
  abbrev n : ℕ
  n = within 5 (get_or l 1 (pos 0))

  abbrev u : Update
  u = update_of l

  same : place u ≡ l
  same = written_same l h.written

  few-pairs : short u ≡ true
  few-pairs = place_short l (omega (arith, h.long))

  held-count : n ≡ length u.pairs
  held-count = ap (λ l. within 5 (get_or l 1 (pos 0))) (sym same) ∙ place-count u few-pairs

  pub held-few : n < 5
  unfolding short
  held-few = omega (arith, held-count, leb-true (length u.pairs) 4 few-pairs)

  held-pairs : take (2 * n) (drop 2 l) ≡ flat_map numbers u.pairs
  held-pairs =
      ap (λ k. take (2 * k) (drop 2 l)) held-count
      ∙ ap (λ m. take (2 * length u.pairs) (drop 2 m)) (sym same)
      ∙ place-pairs u few-pairs

  pub held-assignable : R d ≤ 32 → Assignable (take (2 * n) (drop 2 l))
  unfolding channels
  held-assignable r = subst Assignable (sym held-pairs) (numbers-assignable u.pairs (known-low d u h.known r))

  pub held-long : length (take (2 * n) (drop 2 l)) ≡ 2 * n
  held-long = omega (arith, length-take (2 * n) (drop 2 l), length-drop 2 l, h.long, held-few)

  pub held_update : pairs_of (take (2 * n) (drop 2 l)) ≡ u.pairs
  held_update = ap pairs_of held-pairs ∙ pairs-numbers u.pairs

  -- the table with the update applied, when its pairs were compared with the one before
  module _ (low : R d ≤ 32) (vs : List ℤ) {back : List ℤ} {mask : ℕ} (c : Compared u.part (take (2 * n) (drop 2 l)) vs back mask) where
    abbrev after : List ℤ
    after = assign u.part u.pairs vs

    abbrev known_so : Known d u
    known_so = known-has d u h.known

    pub held_back : Assignable (take (2 * n) back)
    held_back = subst (λ k. Assignable (take k back)) held-long c.assignable

    pub held-undone : assign u.part (pairs_of (take (2 * n) back)) after ≡ vs
    unfolding channels
    held-undone =
        ap (λ b. assign u.part b after)
        (ap (λ k. pairs_of (take k back)) (sym held-long) ∙ c.held ∙ ap (held_pairs u.part vs) held_update)
        ∙ set_back u.part u.pairs vs known_so.different

    pub held-changes : N d ≤ 16 → length vs ≡ 512 → mask ≡ mask_of (changed d u.part vs after)
    unfolding channels
    held-changes parts long =
        c.mask
        ∙ ap (λ m. mask_of (channels_set u.part vs m)) held_update
        ∙ compared-changed d u.part u.pairs vs low (omega (arith, known_so.part)) long known_so.inside known_so.different
