-- What pairs change at a part, and the pairs that set it back. Assumes nothing.
use Rattle.std.specs.Prelude.{ℕ, zero, suc, ◌+◌, ◌/◌, ◌%◌, ◌<◌, ◌≤◌, ◌≡◌, Bool, true, false, ◌||◌, cond, eqb, length, set, get_or, pos}
use Rattle.std.proofs.Math.Path.{refl, sym}
use Rattle.std.proofs.Common.{ap, ◌∙◌, ⊎_elim, arith, set-set}
use Rattle.std.proofs.Math.Bool.{not}
use Rattle.std.proofs.lemmas.Bool.{false≢true}
use mathlib.Core.List.{List, [], ◌∷◌, map}
use Rattle.std.proofs.Math.Dec.{ltb}
use Rattle.std.proofs.lemmas.List.{set_comm, set-get_or}
use Rattle.std.proofs.Math.IntN.{ℤ}
use borrow.Author.Tests.{ltb-true, eqb-true, not-true}
use Rattle.lists.specs.Lists.{lists, all_of, keep, select, member, distinct, eq_z}
use Rattle.lists.specs.Bits.{bit, mask_of}
use Rattle.lists.specs.Laws.Alls.{all_of-head, all_of-tail}
use Rattle.lists.specs.Laws.Below.{select-below}
use Rattle.lists.specs.Laws.Bits.{bit_up, bit-low, mask_of-bit}
use Rattle.lists.specs.Laws.Booleans.{and_left, and_right, or-false-right, contradiction, true-or-false}
use Rattle.lists.specs.Laws.Members.{member-head, all_of-member}
use Rattle.lists.specs.Laws.Same.{SameMembers}
use Rattle.lists.specs.Laws.Statements.{same_test}
use Rattle.deck.specs.Deck.{Deck, R}
use Rattle.pool.specs.Updates.{Pair, index_of, value_at, assign, updates}
use Rattle.pool.proofs.Laws.Values.{channels_in, assign-length, assign_other}
use Rattle.pool.proofs.Laws.Assigned.{set_value}
use Rattle.firing.specs.Firing.{changed}
use Rattle.firing.specs.Evaluated.{held_pairs, channels_set}
use Rattle.firing.proofs.Laws.Pairs.{equal}

-- ---- sets with the same numbers are equal

same-digit : (x y : ℕ) → x < 2 → y < 2 → eqb x 1 ≡ eqb y 1 → x ≡ y
same-digit zero zero l m e = refl
same-digit zero (suc zero) l m e = absurd (false≢true e)
same-digit (suc zero) zero l m e = absurd (false≢true (sym e))
same-digit (suc zero) (suc zero) l m e = refl
same-digit zero (suc (suc y)) l m e = absurd (omega arith)
same-digit (suc zero) (suc (suc y)) l m e = absurd (omega arith)
same-digit (suc (suc x)) y l m e = absurd (omega arith)

same_bits : (k a b : ℕ) → a ≤ k → b ≤ k → ((c : ℕ) → bit a c ≡ bit b c) → a ≡ b
same_bits zero a b l m h = omega arith
same_bits (suc k) a b l m h =
    let high = same_bits k (a / 2) (b / 2) (omega arith) (omega arith) (λ c. sym (bit_up a c) ∙ h (suc c) ∙ bit_up b c) in
    let low = same-digit (a % 2) (b % 2) (omega arith) (omega arith) (sym (bit-low a) ∙ h 0 ∙ bit-low b) in
    omega arith

same-mask : (l m : List ℕ) → SameMembers l m → mask_of l ≡ mask_of m
same-mask l m s =
    same_bits (mask_of l + mask_of m) (mask_of l) (mask_of m) (omega arith) (omega arith)
    (λ c. mask_of-bit l c ∙ s c ∙ sym (mask_of-bit m c))

-- ---- one channel and pairs of other ones

apart : (p a : ℕ) (l : List Pair) (values : List ℤ) (v : ℤ) → member a (channels_in l) ≡ false
    → set (assign p l values) (index_of p a) v ≡ assign p l (set values (index_of p a) v)
unfolding updates lists
apart p a [] values v h = refl
apart p a (b ∷ l) values v h =
    apart p a l (set values (index_of p b.channel) b.value) v (or-false-right (eqb a b.channel) (member a (channels_in l)) h)
    ∙ ap (assign p l) (set_comm values (index_of p b.channel) (index_of p a) b.value v other)
  where
    other : index_of p b.channel ≡ index_of p a → ⊥
    other e =
        let same : a ≡ b.channel = omega arith in
        contradiction (ap (λ x. member x (b.channel ∷ channels_in l)) same ∙ member-head b.channel (channels_in l)) h

-- the first channel of a list of different ones is not among the others
module _ (a : Pair) (l : List Pair) (h : distinct (channels_in (a ∷ l)) ≡ true) where
  pub head_apart : member a.channel (channels_in l) ≡ false
  unfolding lists
  head_apart =
      not-true (member a.channel (channels_in l)) (and_left (not (member a.channel (channels_in l))) (distinct (channels_in l)) h)

  pub tail-distinct : distinct (channels_in l) ≡ true
  unfolding lists
  tail-distinct = and_right (not (member a.channel (channels_in l))) (distinct (channels_in l)) h

-- ---- set back

pub set_back : (p : ℕ) (l : List Pair) (values : List ℤ) → distinct (channels_in l) ≡ true
    → assign p (held_pairs p values l) (assign p l values) ≡ values
unfolding updates held_pairs
set_back p [] values h = refl
set_back p (a ∷ l) values h =
    let i = index_of p a.channel in
    let v = get_or values i (pos 0) in
    ap (assign p (held_pairs p values l))
    (apart p a.channel l (set values i a.value) v (head_apart a l h)
    ∙ ap (assign p l) (set-set values i a.value v ∙ set-get_or values i (pos 0)))
    ∙ set_back p l values (tail-distinct a l h)

-- ---- what changed

-- the test of one channel
unfoldable differs : ℕ → List ℤ → List ℤ → ℕ → Bool
differs p before after c = not (eq_z (value_at before p c) (value_at after p c))

differs-not : (p : ℕ) (before after : List ℤ) (c : ℕ) → value_at before p c ≡ value_at after p c → differs p before after c ≡ false
unfolding differs
differs-not p before after c e = equal (value_at before p c) (value_at after p c) e

module _ (n p : ℕ) (values : List ℤ) (few : n ≤ 32) (low : p < 16) (long : length values ≡ 512) where
  -- the channels that the pairs change are those whose value differs
  set-differs : (l : List Pair) → all_of (λ c. ltb c n) (channels_in l) ≡ true → distinct (channels_in l) ≡ true
      → (c : ℕ) → member c (channels_set p values l) ≡ differs p values (assign p l values) c
  unfolding channels_set lists assign differs
  set-differs [] k h c = sym (differs-not p values values c refl)
  set-differs (a ∷ l) k h c =
      go (set-differs l (all_of-tail (λ c. ltb c n) a.channel (channels_in l) k) (tail-distinct a l h) c)
      (eqb c a.channel) (not (eq_z (value_at values p a.channel) a.value)) refl refl
      ∙ sym (ap (λ v. not (eq_z (value_at values p c) v)) then)
    where
      after : List ℤ
      after = assign p l values

      inside : index_of p a.channel < length after
      inside =
          unfold index_of in
          omega (arith, ltb-true a.channel n (all_of-head (λ c. ltb c n) a.channel (channels_in l) k), assign-length p l values)

      -- the value that is read afterwards
      then : value_at (assign p (a ∷ l) values) p c ≡ cond (eqb c a.channel) a.value (value_at after p c)
      then =
          ap (λ vs. value_at vs p c) (sym (apart p a.channel l values a.value (head_apart a l h)))
          ∙ set_value p a.channel c a.value after inside

      none : member c (channels_set p values l) ≡ differs p values after c → c ≡ a.channel → member c (channels_set p values l) ≡ false
      none rest e =
          rest ∙ differs-not p values after c (sym (assign_other p c l values (ap (λ x. member x (channels_in l)) e ∙ head_apart a l h)))

      go : member c (channels_set p values l) ≡ differs p values after c → (same t : Bool) → eqb c a.channel ≡ same
          → not (eq_z (value_at values p a.channel) a.value) ≡ t
          → member c (map (λ a. a.channel) (keep t a (select (λ a. not (eq_z (value_at values p a.channel) a.value)) l)))
          ≡ not (eq_z (value_at values p c) (cond same a.value (value_at after p c)))
      go rest true true e f =
          let q = eqb-true c a.channel e in
          ap (λ b. b || member c (channels_set p values l)) e ∙ sym (ap (λ x. not (eq_z (value_at values p x) a.value)) q ∙ f)
      go rest true false e f =
          let q = eqb-true c a.channel e in
          none rest q ∙ sym (ap (λ x. not (eq_z (value_at values p x) a.value)) q ∙ f)
      go rest false true e f = ap (λ b. b || member c (channels_set p values l)) e ∙ rest
      go rest false false e f = rest

pub compared-changed : (d : Deck) (p : ℕ) (l : List Pair) (values : List ℤ) → R d ≤ 32 → p < 16 → length values ≡ 512
    → all_of (λ c. ltb c (R d)) (channels_in l) ≡ true → distinct (channels_in l) ≡ true
    → mask_of (channels_set p values l) ≡ mask_of (changed d p values (assign p l values))
unfolding changed differs
compared-changed d p l values few low long k h =
    same-mask (channels_set p values l) (changed d p values (assign p l values)) λ c.
    same_test (member c (channels_set p values l)) (member c (changed d p values (assign p l values))) (to c) (from c)
  where
    test : ℕ → Bool
    test = differs p values (assign p l values)

    same : (c : ℕ) → member c (channels_set p values l) ≡ test c
    same = set-differs (R d) p values few low long l k h

    known : (c : ℕ) → test c ≡ true → c < R d
    known c t =
        ltb-true c (R d)
        ((all_of-member (λ c. ltb c (R d)) (channels_in l)).0 k c
        (⊎_elim
        (λ y. y)
        (λ n. contradiction t (differs-not p values (assign p l values) c (sym (assign_other p c l values n))))
        (true-or-false (member c (channels_in l)))))

    to : (c : ℕ) → member c (channels_set p values l) ≡ true → member c (changed d p values (assign p l values)) ≡ true
    to c m = let t = sym (same c) ∙ m in (select-below test (R d) c).1 (known c t, t)

    from : (c : ℕ) → member c (changed d p values (assign p l values)) ≡ true → member c (channels_set p values l) ≡ true
    from c m = same c ∙ ((select-below test (R d) c).0 m).1
