-- Laws of reading at an offset of the whole deck, where the bytes left are `drop at s`: a number, and lists in turns, one
-- element a turn. Assumes nothing.
use Prim.Native.Nat.{ℕ, zero, suc, ◌+◌, ◌*◌, ◌-◌, ◌≤◌, ◌<◌}
use Rattle.std.specs.Prelude.{◌≡◌, Bool, true, false, ◌&&◌, cond, List, [], ◌∷◌, ◌++◌, leb, ltb, ℤ, length, get_or, Result, Ok}
use Rattle.std.proofs.Math.Path.{refl, ap}
use Rattle.std.proofs.Common.{sym, ap₂, ◌∙◌, subst, append-nil, add-zero, add-one, ltb-true, lt-ltb, le-ltb, le-leb, length-drop, drop_of_length-le, drop-cons, drop-drop}
use native.Mathlib.Omega.{arith}
use Rattle.std.proofs.lemmas.Bool.{lt-leb}
use Rattle.std.proofs.lemmas.Result.{err_from_is_err_and}
use Rattle.std.specs.Result.{IsErrAnd}
use Rattle.std.proofs.Math.ListN.{drop}
use Rattle.std.proofs.Math.Seq.{append_snoc}
use Rattle.lists.specs.Laws.Booleans.{and_both, and_right}
use Rattle.refusals.specs.Outcome.{Outcome, refused, accepted}
use Rattle.refusals.specs.Numbers.{deck_ends, out_of_range}
use Rattle.refusals.specs.Declined.{fault_outcome}
use Rattle.refusals.specs.declared.Fault.{Fault}
use Rattle.expression.specs.Reading.{word, signed}
use Rattle.deck.specs.Reader.{Got, Reader, and_then, ◌>>=◌, give, expect, number, repeats, rising, value, readers}
use Rattle.deck.specs.Marks.{Reads, ReadsKept}
use Rattle.deck.specs.declared.Read.{Read}
use Rattle.deck.proofs.Laws.Exact.{Accepts, accepting, refusing, accepts}

-- ---- a number

pub number-ends : (lo hi : ℕ) (s : List ℕ) (at : ℕ) → length s ≤ at → number lo hi (drop at s) at ≡ refused deck_ends at
unfolding readers
number-ends lo hi s at h = rw (drop_of_length-le s h)

-- what a byte b that was read gives
abbrev pub got_byte : ℕ → List ℕ → ℕ → Got ℕ
got_byte b s at = record { value = b; rest = drop (at + 1) s; at = at + 1 }

number-cons : (lo hi b : ℕ) (s : List ℕ) (at : ℕ)
    → number lo hi (b ∷ s) at ≡ cond (leb lo b && ltb b hi) (accepted (record { value = b; rest = s; at = suc at })) (refused out_of_range at)
unfolding readers
number-cons lo hi b s at = go (leb lo b && ltb b hi)
  where
    go : (t : Bool) → and_then (expect t out_of_range at s (suc at)) (λ _. give b)
        ≡ cond t (accepted (record { value = b; rest = s; at = suc at })) (refused out_of_range at)
    go true = refl
    go false = refl

-- the byte that stands at an offset is read, or it is outside its range
module _ (lo hi : ℕ) (s : List ℕ) (at : ℕ) (h : at < length s) where
  pub by-test : (t : Bool) → (leb lo (get_or s at 0) && ltb (get_or s at 0) hi) ≡ t
      → number lo hi (drop at s) at ≡ cond t (accepted (got_byte (get_or s at 0) s at)) (refused out_of_range at)
  by-test t e =
      rw (drop-cons s at 0 h, add-one at)
      (number-cons lo hi (get_or s at 0) (drop (suc at) s) at
      ∙ ap (λ u. cond u (accepted (record { value = get_or s at 0; rest = drop (suc at) s; at = suc at })) (refused out_of_range at)) e)

  pub number_small : get_or s at 0 < lo → number lo hi (drop at s) at ≡ refused out_of_range at
  number_small l = by-test false (ap (λ u. u && ltb (get_or s at 0) hi) (lt-leb lo (get_or s at 0) l))

  pub number-large : lo ≤ get_or s at 0 → hi ≤ get_or s at 0 → number lo hi (drop at s) at ≡ refused out_of_range at
  number-large l m =
      by-test false (ap (λ u. u && ltb (get_or s at 0) hi) (le-leb lo (get_or s at 0) l) ∙ le-ltb (get_or s at 0) hi m)

  pub number-reads : lo ≤ get_or s at 0 → get_or s at 0 < hi → number lo hi (drop at s) at ≡ accepted (got_byte (get_or s at 0) s at)
  number-reads l m = by-test true (and_both (le-leb lo (get_or s at 0) l) (lt-ltb (get_or s at 0) hi m))

-- a number that was read is below its bound
pub number-below : (lo hi : ℕ) (s : List ℕ) (at : ℕ) (g : Got ℕ) → number lo hi s at ≡ accepted g → g.value < hi
unfolding readers
number-below lo hi s at g e = accepts (below s) e
  where
    by_test : (b : ℕ) (s : List ℕ) (t : Bool) → (leb lo b && ltb b hi) ≡ t
        → Accepts (λ g. g.value < hi) (and_then (expect t out_of_range at s (suc at)) (λ _. give b))
    by_test b s true e = accepting (ltb-true b hi (and_right (leb lo b) (ltb b hi) e))
    by_test b s false e = refusing

    below : (s : List ℕ) → Accepts (λ g. g.value < hi) (number lo hi s at)
    below [] = refusing
    below (b ∷ s) = by_test b s (leb lo b && ltb b hi) refl

-- what was read is the value that the code holds
pub got-value : {A : Type 0} {o : Outcome (Got A)} (s : List ℕ) (n : ℕ) (a : A) → Reads s o (λ v. a ≡ v) (Ok n)
    → o ≡ accepted (record { value = a; rest = drop n s; at = n })
got-value s n a r = r.1 ∙ ap (λ x. accepted (record { value = x; rest = drop n s; at = n })) (sym r.3)

-- and so it is below its bound
pub kept-below : (lo hi : ℕ) (s : List ℕ) (at n a : ℕ) → Reads s (number lo hi (drop at s) at) (λ v. a ≡ v) (Ok n) → a < hi
kept-below lo hi s at n a r = number-below lo hi (drop at s) at _ (got-value s n a r)

-- ---- a fault that `?` hands on: f of the part that is read, and so of the whole

module _ {A : Type 0} (s : List ℕ) (o : Outcome (Got A)) (f : Fault) where
  pub hands-on : (P : A → Type 0) (r : Result ℕ Fault) → IsErrAnd r (λ e. e ≡ f) → o ≡ fault_outcome f → Reads s o P r
  hands-on P r e h =
      let p = err_from_is_err_and r e in
      rw (p.1, p.2) h

  pub hands_on_kept : {T : Type 0} (P : T → A → Type 0) (r : Result (Read T) Fault) → IsErrAnd r (λ e. e ≡ f)
      → o ≡ fault_outcome f → ReadsKept s o P r
  hands_on_kept P r e h =
      let p = err_from_is_err_and r e in
      rw (p.1, p.2) h

-- ---- lists in turns

-- o is what reading a list comes to. So far `list` was read, which has P, and reading the others comes to `later`
pub record Turns {A : Type 0} (o later : Outcome (Got (List A))) (P : List A → Type 0) : Type 0 where
  pub list : List A
  pub outcome : o ≡ and_then later (λ l. give (list ++ l))
  pub has : P list

-- an element, and the others by it
abbrev pub first : {A : Type 0} → Reader A → (A → Reader (List A)) → Reader (List A)
first r others = r >>= λ x. others x >>= λ xs. give (x ∷ xs)

module _ {A : Type 0} {o : Outcome (Got (List A))} {P : List A → Type 0} where
  -- before the first turn
  pub turns-none : P [] → Turns o o P
  unfolding readers
  turns-none p = record { list = []; outcome = go o; has = p }
    where
      go : (o : Outcome (Got (List A))) → o ≡ and_then o (λ l. give ([] ++ l))
      go (refused n p) = refl
      go (accepted g) = refl

  pub turn-next : {Q : List A → Type 0} (r : Reader A) (others : A → Reader (List A)) (s : List ℕ) (at : ℕ) {g : Got A}
      → r s at ≡ accepted g
      → ((l : List A) → P l → Q (l ++ (g.value ∷ []))) → Turns o (first r others s at) P
      → Turns o (others g.value g.rest g.at) Q
  unfolding readers
  turn-next r others s at {g} e q t =
      record {
        list = t.list ++ (g.value ∷ []);
        outcome = t.outcome
            ∙ ap (λ u. and_then (and_then u (λ x. others x >>= λ xs. give (x ∷ xs))) (λ l. give (t.list ++ l))) e
            ∙ go (others g.value g.rest g.at);
        has = q t.list t.has;
      }
    where
      go : (u : Outcome (Got (List A)))
          → and_then (and_then u (λ xs. give (g.value ∷ xs))) (λ l. give (t.list ++ l))
          ≡ and_then u (λ l. give (t.list ++ (g.value ∷ []) ++ l))
      go (refused n p) = refl
      go (accepted h) =
          ap (λ l. accepted (record { value = l; rest = h.rest; at = h.at })) (sym (append_snoc t.list g.value h.value))

  pub turn-fault : (r : Reader A) (others : A → Reader (List A)) (s : List ℕ) (at : ℕ) {n p : ℕ} → r s at ≡ refused n p
      → Turns o (first r others s at) P → o ≡ refused n p
  unfolding readers
  turn-fault r others s at e t =
      t.outcome ∙ ap (λ u. and_then (and_then u (λ x. others x >>= λ xs. give (x ∷ xs))) (λ l. give (t.list ++ l))) e

  pub turn_end : (s : List ℕ) (place : ℕ) → place ≤ length s → Turns o (give [] (drop place s) place) P → Reads s o P (Ok place)
  unfolding readers
  turn_end s place b t = (
    t.list,
    t.outcome ∙ ap (λ l. accepted (record { value = l; rest = drop place s; at = place })) (append-nil t.list),
    b,
    t.has,
  )

-- turn i of `count`, at a place of the deck, each turn by the same reader
module _ {A : Type 0} {o : Outcome (Got (List A))} {P : List A → Type 0} (r : Reader A) (count i : ℕ) (s : List ℕ) (place : ℕ) where
  pub repeats-next : {Q : List A → Type 0} {g : Got A} → i < count → r (drop place s) place ≡ accepted g
      → ((l : List A) → P l → Q (l ++ (g.value ∷ []))) → Turns o (repeats (count - i) r (drop place s) place) P
      → Turns o (repeats (count - (i + 1)) r g.rest g.at) Q
  unfolding readers
  repeats-next h e q t =
      let k : count - i ≡ suc (count - (i + 1)) = omega arith in
      turn-next r (λ _. repeats (count - (i + 1)) r) (drop place s) place e q
      (subst (λ n. Turns o (repeats n r (drop place s) place) P) k t)

  pub repeats-fault : {n p : ℕ} → i < count → r (drop place s) place ≡ refused n p
      → Turns o (repeats (count - i) r (drop place s) place) P → o ≡ refused n p
  unfolding readers
  repeats-fault h e t =
      let k : count - i ≡ suc (count - (i + 1)) = omega arith in
      turn-fault r (λ _. repeats (count - (i + 1)) r) (drop place s) place e
      (subst (λ n. Turns o (repeats n r (drop place s) place) P) k t)

  pub repeats-end : count ≤ i → place ≤ length s → Turns o (repeats (count - i) r (drop place s) place) P → Reads s o P (Ok place)
  unfolding readers
  repeats-end h b t =
      let k : count - i ≡ 0 = omega arith in
      turn_end s place b (subst (λ n. Turns o (repeats n r (drop place s) place) P) k t)

-- the same where each turn reads a number above the one before
module _ {o : Outcome (Got (List ℕ))} {P : List ℕ → Type 0} (count i low hi : ℕ) (s : List ℕ) (place : ℕ) where
  pub rising-next : {Q : List ℕ → Type 0} {g : Got ℕ} → i < count → number low hi (drop place s) place ≡ accepted g
      → ((l : List ℕ) → P l → Q (l ++ (g.value ∷ []))) → Turns o (rising (count - i) low hi (drop place s) place) P
      → Turns o (rising (count - (i + 1)) (g.value + 1) hi g.rest g.at) Q
  unfolding readers
  rising-next {g} h e q t =
      let k : count - i ≡ suc (count - (i + 1)) = omega arith in
      rw (add-one g.value)
      (turn-next (number low hi) (λ c. rising (count - (i + 1)) (suc c) hi) (drop place s) place e q
      (subst (λ n. Turns o (rising n low hi (drop place s) place) P) k t))

  pub rising-fault : {n p : ℕ} → i < count → number low hi (drop place s) place ≡ refused n p
      → Turns o (rising (count - i) low hi (drop place s) place) P → o ≡ refused n p
  unfolding readers
  rising-fault h e t =
      let k : count - i ≡ suc (count - (i + 1)) = omega arith in
      turn-fault (number low hi) (λ c. rising (count - (i + 1)) (suc c) hi) (drop place s) place e
      (subst (λ n. Turns o (rising n low hi (drop place s) place) P) k t)

  pub rising-end : count ≤ i → place ≤ length s → Turns o (rising (count - i) low hi (drop place s) place) P
      → Reads s o P (Ok place)
  unfolding readers
  rising-end h b t =
      let k : count - i ≡ 0 = omega arith in
      turn_end s place b (subst (λ n. Turns o (rising n low hi (drop place s) place) P) k t)

-- ---- values: n of them are read exactly where 4 n bytes are there

-- n values were read
abbrev Values : ℕ → List ℕ → ℕ → Type 0
Values n s at = (l : List ℤ) × (repeats n value s at ≡ accepted (record { value = l; rest = drop (4 * n) s; at = at + 4 * n }))

values-there : (n : ℕ) (s : List ℕ) (at : ℕ) → 4 * n ≤ length s → Values n s at
unfolding readers
values-there zero s at h = ([], rw (add-zero at) refl)
values-there (suc n) (a ∷ b ∷ c ∷ d ∷ s) at h =
    let v : Values n s (suc (suc (suc (suc at)))) = values-there n s (suc (suc (suc (suc at)))) (omega arith) in
    let k : suc (suc (suc (suc (4 * n)))) ≡ 4 * suc n = omega arith in
    let m : suc (suc (suc (suc at))) + 4 * n ≡ at + 4 * suc n = omega arith in
    let x : List ℤ = signed (word a b c d) ∷ v.0 in (
      x,
      ap (λ o. and_then o (λ xs. give (signed (word a b c d) ∷ xs))) v.1
          ∙ ap₂ (λ j p. accepted (record { value = x; rest = drop j (a ∷ b ∷ c ∷ d ∷ s); at = p })) k m,
    )
values-there (suc n) (a ∷ b ∷ c ∷ []) at h = absurd (omega arith)
values-there (suc n) (a ∷ b ∷ []) at h = absurd (omega arith)
values-there (suc n) (a ∷ []) at h = absurd (omega arith)
values-there (suc n) [] at h = absurd (omega arith)

values-short : (n : ℕ) (s : List ℕ) (at : ℕ) → length s < 4 * n → repeats n value s at ≡ refused deck_ends (at + length s)
unfolding readers
values-short zero s at h = absurd (omega arith)
values-short (suc n) (a ∷ b ∷ c ∷ d ∷ s) at h =
    let e : repeats n value s (suc (suc (suc (suc at)))) ≡ refused deck_ends (suc (suc (suc (suc at))) + length s)
    = values-short n s (suc (suc (suc (suc at)))) (omega arith) in
    ap (λ o. and_then o (λ xs. give (signed (word a b c d) ∷ xs))) e ∙ ap (λ p. refused deck_ends p) (omega arith)
values-short (suc n) (a ∷ b ∷ c ∷ []) at h = ap (λ p. refused deck_ends p) (omega arith)
values-short (suc n) (a ∷ b ∷ []) at h = ap (λ p. refused deck_ends p) (omega arith)
values-short (suc n) (a ∷ []) at h = ap (λ p. refused deck_ends p) (omega arith)
values-short (suc n) [] at h = ap (λ p. refused deck_ends p) (omega arith)

module _ (n : ℕ) (s : List ℕ) (at : ℕ) where
  pub values-read : at + 4 * n ≤ length s → Reads s (repeats n value (drop at s) at) (λ _. Unit {0}) (Ok (at + 4 * n))
  values-read h =
      let v : Values n (drop at s) at = values-there n (drop at s) at (omega (arith, length-drop at s)) in
      (v.0, v.1 ∙ ap (λ t. accepted (record { value = v.0; rest = t; at = at + 4 * n })) (drop-drop (4 * n) at s), h, tt)

  pub values-end : at ≤ length s → length s < at + 4 * n → repeats n value (drop at s) at ≡ refused deck_ends (length s)
  values-end b h =
      let e : length (drop at s) ≡ length s - at = length-drop at s in
      values-short n (drop at s) at (omega arith) ∙ ap (λ p. refused deck_ends p) (omega arith)
