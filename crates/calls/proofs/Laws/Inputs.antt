-- A good input list has known, different channels, in the form that the firing asks for. Assumes nothing.
use Rattle.std.specs.Prelude.{ℕ, ◌%◌, ◌≤◌, ◌≡◌, refl, Bool, true, ◌&&◌, List, [], ◌∷◌, map, leb, ltb, eqb, length, ℤ, pos, negsuc, nat_abs}
use Rattle.std.proofs.Common.{ap, ◌∙◌, arith, leb-true, eqb-true}
use Rattle.std.proofs.lemmas.Bool.{false≢true}
use Rattle.std.specs.Int.Signed.{le_z, lt_z}
use Rattle.lists.specs.Lists.{all_of, distinct}
use Rattle.lists.specs.Laws.Booleans.{and_left, and_right}
use Rattle.lists.specs.Laws.Alls.{all_of-none, all_of-cons, all_of-head, all_of-tail}
use Rattle.deck.specs.Deck.{Deck, R}
use Rattle.pool.specs.Places.{pairs_of}
use Rattle.pool.proofs.Laws.Values.{channels_in}
use Rattle.calls.specs.Calls.{channels_of, good_input}

-- a channel's number is neither negative nor too large
abbrev pub inside : ℕ → ℤ → Bool
inside n c = le_z (pos 0) c && lt_z c (pos n)

pub inside-known : (n : ℕ) (c : ℤ) → inside n c ≡ true → ltb (nat_abs c) n ≡ true
inside-known n (pos a) h = and_right (leb 0 a) (ltb a n) h
inside-known n (negsuc a) h = absurd (false≢true h)

pairs-known : (n : ℕ) (l : List ℤ) → all_of (inside n) (channels_of l) ≡ true → all_of (λ c. ltb c n) (channels_in (pairs_of l)) ≡ true
unfolding channels_of pairs_of
pairs-known n [] h = all_of-none (λ c. ltb c n)
pairs-known n (c ∷ []) h = all_of-none (λ c. ltb c n)
pairs-known n (c ∷ v ∷ l) h =
    all_of-cons (λ c. ltb c n) (nat_abs c) (channels_in (pairs_of l)) (inside-known n c (all_of-head (inside n) c (channels_of l) h))
    (pairs-known n l (all_of-tail (inside n) c (channels_of l) h))

-- every pair has a channel
pairs-channels : (l : List ℤ) → length l % 2 ≡ 0 → channels_in (pairs_of l) ≡ map nat_abs (channels_of l)
unfolding channels_of pairs_of
pairs-channels [] e = refl
pairs-channels (c ∷ []) e = absurd (omega arith)
pairs-channels (c ∷ v ∷ l) e = ap (λ t. nat_abs c ∷ t) (pairs-channels l (omega arith))

module _ (d : Deck) (l : List ℤ) (h : good_input d l ≡ true) where
  abbrev short : Bool
  short = leb 2 (length l) && leb (length l) 64

  abbrev even : Bool
  even = eqb (length l % 2) 0

  abbrev known : Bool
  known = all_of (inside (R d)) (channels_of l)

  abbrev different : Bool
  different = distinct (map nat_abs (channels_of l))

  tests : (short && even && known ≡ true) × (different ≡ true)
  unfolding good_input
  tests = (and_left (short && even && known) different h, and_right (short && even && known) different h)

  sizes : short && even ≡ true
  sizes = and_left (short && even) known tests.0

  pub input-even : length l % 2 ≡ 0
  input-even = eqb-true (length l % 2) 0 (and_right short even sizes)

  pub input-few : length l ≤ 64
  input-few = leb-true (length l) 64 (and_right (leb 2 (length l)) (leb (length l) 64) (and_left short even sizes))

  pub input-inside : known ≡ true
  input-inside = and_right (short && even) known tests.0

  pub input-known : all_of (λ c. ltb c (R d)) (channels_in (pairs_of l)) ≡ true
  input-known = pairs-known (R d) l input-inside

  pub input-different : distinct (channels_in (pairs_of l)) ≡ true
  input-different = ap distinct (pairs-channels l input-even) ∙ tests.1
