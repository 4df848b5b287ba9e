-- What a place holds that is well written: its part, and the channels of its pairs. Assumes nothing.
use Rattle.std.specs.Prelude.{ℕ, zero, suc, ◌*◌, ◌-◌, ◌<◌, ◌≤◌, ◌≡◌, refl, true, not, length, get_or, take, drop, ℤ, pos, nat_abs}
use Rattle.std.proofs.Common.{sym, ap, ◌∙◌, arith, ltb-true, lt-ltb}
use mathlib.Core.List.{List, [], ◌∷◌, ◌++◌, map, flat_map}
use Rattle.std.proofs.Math.Dec.{ltb}
use Rattle.lists.specs.Lists.{lists, all_of, distinct, is_empty}
use Rattle.lists.specs.Laws.Booleans.{and_both, four}
use Rattle.lists.specs.Laws.Alls.{all_of-head, all_of-tail, all_of-weaken}
use Rattle.deck.specs.Deck.{Deck, R, N}
use Rattle.pool.specs.Updates.{Update, channels}
use Rattle.pool.specs.Places.{zeros, pairs_of, update_of, well_written}
use Rattle.pool.specs.States.{known}
use Rattle.pool.proofs.Laws.Good.{written_same}
use Rattle.pool_index.specs.Index.{lives}
use Rattle.pool_index.specs.Laws.Indexed.{place-lives}
use Rattle.pool_states.specs.Answer.{HoldsKnown}
use Rattle.pool_states.specs.Fits.{within, channels_of, in_range}
use Rattle.pool_states.specs.Laws.Fits.{within-pos, numbers}
use Rattle.pool_states.specs.Laws.Places.{written}

module _ (d : Deck) (u : Update) (h : known d u ≡ true) where
  known-tests : (u.part < N d) × (all_of (λ c. ltb c (R d)) (channels u) ≡ true) × (not (is_empty u.pairs) ≡ true)
  unfolding known
  known-tests =
      let t = four (ltb u.part (N d)) (not (is_empty u.pairs)) (all_of (λ c. ltb c (R d)) (channels u)) (distinct (channels u)) h in
      (ltb-true u.part (N d) t.0, t.2, t.1)

  pub known-part : u.part < N d
  known-part = known-tests.0

  pub known_some : not (is_empty u.pairs) ≡ true
  known_some = known-tests.2

  -- of a deck with at most 32 channels
  pub known-low : R d ≤ 32 → all_of (λ c. ltb c 32) (channels u) ≡ true
  known-low few =
      all_of-weaken (λ c. ltb c 32) (λ c. ltb c (R d)) (λ c e. lt-ltb c 32 (omega (arith, ltb-true c (R d) e))) (channels u) known-tests.1

ranged-in : (r n : ℕ) (t z : List ℤ) → 2 * n ≤ length t → flat_map numbers (take n (pairs_of t)) ++ z ≡ t
    → all_of (λ c. ltb c r) (channels_of n t) ≡ true → in_range r n t ≡ true
unfolding in_range pairs_of lists
ranged-in r zero t z l e k = refl
ranged-in r (suc n) [] z l e k = absurd (omega arith)
ranged-in r (suc n) (c ∷ []) z l e k = absurd (omega arith)
ranged-in r (suc n) (c ∷ v ∷ t) z l e k =
    let first : pos (nat_abs c) ≡ c = cc in
    let rest : flat_map numbers (take n (pairs_of t)) ++ z ≡ t = cc in
    let test = all_of-head (λ c. ltb c r) (nat_abs c) (channels_of n t) k in
    let same : within r c ≡ nat_abs c = ap (within r) (sym first) ∙ within-pos r (nat_abs c) (ltb-true (nat_abs c) r test) in
    and_both (ap (λ x. ltb x r) same ∙ test)
    (ranged-in r n t z (omega arith) rest (all_of-tail (λ c. ltb c r) (nat_abs c) (channels_of n t) k))

-- the first n pairs, and they are those of the update
pub record PairsHeld (l : List ℤ) (n : ℕ) : Type 0 where
  pub few : n < 5
  pub ranged : in_range 32 n (drop 2 l) ≡ true
  pub same : channels_of n (drop 2 l) ≡ channels (update_of l)

pub pairs-held : (l : List ℤ) → length l ≡ 10 → well_written l ≡ true → all_of (λ c. ltb c 32) (channels (update_of l)) ≡ true
    → PairsHeld l (within 5 (get_or l 1 (pos 0)))
unfolding update_of channels
pairs-held [] h w low = absurd (omega arith)
pairs-held (a ∷ []) h w low = absurd (omega arith)
pairs-held (a ∷ b ∷ t) h w low =
    let long : length t ≡ 8 = omega arith in
    let n = within 5 b in
    let x = written a b t long w in
    let same : channels_of n t ≡ channels (update_of (a ∷ b ∷ t)) = sym (ap (map (λ p. p.channel)) x.pairs) in
    record {
      few = x.few;
      ranged = ranged-in 32 n t (zeros (2 * (4 - n))) (omega (arith, x.few)) x.back (ap (all_of (λ c. ltb c 32)) same ∙ low);
      same = same;
    }

pub held-part : (n : ℕ) (l : List ℤ) → length l ≡ 10 → well_written l ≡ true → (update_of l).part < n
    → within n (get_or l 0 (pos 0)) ≡ (update_of l).part
unfolding update_of
held-part n [] h w low = absurd (omega arith)
held-part n (a ∷ []) h w low = absurd (omega arith)
held-part n (a ∷ b ∷ t) h w low =
    let x = written a b t (omega arith) w in ap (within n) (sym x.part) ∙ within-pos n (nat_abs a) low

-- a place that holds a known update lives
pub holds-lives : {d : Deck} {l : List ℤ} → HoldsKnown d l → lives l ≡ true
holds-lives {d} {l} h =
    ap lives (sym (written_same l h.written)) ∙ place-lives (update_of l) (known_some d (update_of l) h.known)
