-- The readers of numbers and lists are exact. Assumes nothing.
use Prim.Native.Nat.{ℕ, zero, suc, ◌<◌}
use Rattle.std.specs.Prelude.{◌≡◌, refl, Bool, true, ◌&&◌, leb, ltb, length, get_or}
use Rattle.std.proofs.Math.Path.{sym, ap}
use Rattle.std.proofs.Common.{◌∙◌, lit<}
use mathlib.Core.List.{List, [], ◌∷◌, ◌++◌, append-nil, flat_map}
use Rattle.std.proofs.Math.Nat.{suc_inj, suc-ne-zero}
use Rattle.lists.specs.Lists.{all_of, lists}
use Rattle.lists.specs.Laws.Booleans.{and_both, and_left, and_right}
use Rattle.lists.specs.Laws.Alls.{all_of-every}
use Rattle.lists.specs.Laws.FlatMaps.{flat_map-one}
use Rattle.refusals.specs.Numbers.{out_of_range}
use Rattle.expression.specs.Reading.{word, signed}
use Rattle.expression.specs.Encoding.{encode_value, fits}
use Rattle.expression.proofs.Laws.Bytes.{byte-below}
use Rattle.expression.proofs.Laws.Value.{FourBytes, four_bytes_lem, encode-word, word_fits}
use Rattle.deck.specs.Reader.{Reader, give, byte, number, repeats, rising, value, readers}
use Rattle.deck.specs.Encoding.{is_rising, encodings}
use Rattle.deck.proofs.Laws.Exact.{Exact, Any, Coded, Then, exact-by, give-exact, here-exact, expect-exact, byte-exact, then-exact}

pub number-exact : (lo hi : ℕ) → Exact Any (number lo hi) (Coded (λ b. b ∷ []) (λ b. (leb lo b && ltb b hi) ≡ true))
unfolding readers
number-exact lo hi =
    exact-by (here-exact λ p. then-exact byte-exact λ b. expect-exact (leb lo b && ltb b hi) out_of_range p (give-exact b))
    (λ at a w _ p. rw (p.4.1.0, p.2, p.4.1.1) (p.4.0, refl))
    (λ at a w q. (a, [], q.1, tt, (q.0, (refl, refl))))

-- ---- lists, one element after the other

module _ {A : Type 0} (enc : A → List ℕ) where
  pub nil-exact : (All : List A → Type 0) → All [] → ((y : A) (ys : List A) → All (y ∷ ys) → ⊥)
      → Exact Any (give []) (Coded (flat_map enc) All)
  unfolding lists
  nil-exact All h never =
      exact-by (give-exact [])
      (λ at xs w _ p. rw (p.0, p.1) (h, refl))
      (λ at xs w q. back xs w q.0 q.1)
    where
      back : (xs : List A) (w : List ℕ) → All xs → w ≡ flat_map enc xs → (xs ≡ []) × (w ≡ [])
      back [] w q e = (refl, e)
      back (y ∷ ys) w q e = absurd (never y ys q)

  -- a first element, and the list of the others
  pub cons-exact : (Ok : A → Type 0) (Others : A → List A → Type 0) (All : List A → Type 0) {r : Reader (List A)} → (All [] → ⊥)
      → ((y : A) (ys : List A) → Ok y → Others y ys → All (y ∷ ys)) → ((y : A) (ys : List A) → All (y ∷ ys) → Ok y × Others y ys)
      → Exact Any r (Then enc Ok (λ y. Then (flat_map enc) (Others y) (λ ys at xs w. (xs ≡ y ∷ ys) × (w ≡ []))))
      → Exact Any r (Coded (flat_map enc) All)
  unfolding lists
  cons-exact Ok Others All never join part x =
      exact-by x
      (λ at xs w _ p.
      rw (p.4.4.0, p.2, p.4.2, p.4.4.1)
      (join p.0 p.4.0 p.3 p.4.3, ap (λ t. enc p.0 ++ t) (append-nil (flat_map enc p.4.0))))
      (λ at xs w q. back at xs w q.0 q.1)
    where
      back : (at : ℕ) (xs : List A) (w : List ℕ) → All xs → w ≡ flat_map enc xs
          → Then enc Ok (λ y. Then (flat_map enc) (Others y) (λ ys at xs w. (xs ≡ y ∷ ys) × (w ≡ []))) at xs w
      back at [] w q e = absurd (never q)
      back at (y ∷ ys) w q e =
          (y, flat_map enc ys, e, (part y ys q).0, (ys, [], sym (append-nil (flat_map enc ys)), (part y ys q).1, (refl, refl)))

module _ {A : Type 0} {r : Reader A} {enc : A → List ℕ} {ok : A → Bool} (x : Exact Any r (Coded enc (λ a. ok a ≡ true))) where
  pub repeats-exact : (n : ℕ) → Exact Any (repeats n r) (Coded (flat_map enc) (λ xs. (length xs ≡ n) × (all_of ok xs ≡ true)))
  unfolding readers lists
  repeats-exact zero = nil-exact enc _ (refl, refl) (λ y ys q. suc-ne-zero _ q.0)
  repeats-exact (suc n) =
      cons-exact enc _ (λ y ys. (length ys ≡ n) × (all_of ok ys ≡ true)) _
      (λ q. suc-ne-zero _ (sym q.0))
      (λ y ys p q. (ap suc q.0, and_both p q.1))
      (λ y ys q. (and_left (ok y) _ q.1, (suc_inj q.0, and_right (ok y) _ q.1)))
      (then-exact x λ y. then-exact (repeats-exact n) λ ys. give-exact (y ∷ ys))

-- a list of bytes is its own encoding
pub bytes-coded : {r : Reader (List ℕ)} {Ok : List ℕ → Type 0} → Exact Any r (Coded (flat_map (λ b. b ∷ [])) Ok)
    → Exact Any r (Coded (λ s. s) Ok)
bytes-coded x = exact-by x (λ at s w _ p. (p.0, p.1 ∙ flat_map-one s)) (λ at s w q. (q.0, q.1 ∙ sym (flat_map-one s)))

pub bytes-exact : (n : ℕ) → Exact Any (repeats n byte) (Coded (λ s. s) (λ s. length s ≡ n))
bytes-exact n =
    exact-by (bytes-coded (repeats-exact {ok = λ _. true} (exact-by byte-exact (λ at b w _ p. (refl, p.1)) (λ at b w q. (tt, q.1))) n))
    (λ at s w _ p. (p.0.0, p.1))
    (λ at s w q. ((q.0, all_of-every (λ _. true) (λ _. refl) s), q.1))

rising-from : (n lo hi : ℕ)
    → Exact Any (rising n lo hi) (Coded (flat_map (λ c. c ∷ [])) (λ cs. (length cs ≡ n) × (is_rising lo hi cs ≡ true)))
unfolding readers encodings
rising-from zero lo hi = nil-exact _ _ (refl, refl) (λ c cs q. suc-ne-zero _ q.0)
rising-from (suc n) lo hi =
    cons-exact _ _ (λ c cs. (length cs ≡ n) × (is_rising (suc c) hi cs ≡ true)) _
    (λ q. suc-ne-zero _ (sym q.0))
    (λ c cs p q. (ap suc q.0, and_both p q.1))
    (λ c cs q. (and_left (leb lo c && ltb c hi) _ q.1, (suc_inj q.0, and_right (leb lo c && ltb c hi) _ q.1)))
    (then-exact (number-exact lo hi) λ c. then-exact (rising-from n (suc c) hi) λ cs. give-exact (c ∷ cs))

pub rising-exact : (n lo hi : ℕ)
    → Exact Any (rising n lo hi) (Coded (λ cs. cs) (λ cs. (length cs ≡ n) × (is_rising lo hi cs ≡ true)))
rising-exact n lo hi = bytes-coded (rising-from n lo hi)

-- ---- four bytes

pub value-exact : Exact Any value (Coded encode_value (λ z. fits z ≡ true))
unfolding readers
value-exact =
    exact-by (then-exact byte-exact λ a.
    then-exact byte-exact λ b.
    then-exact byte-exact λ c.
    then-exact byte-exact λ d.
    give-exact (signed (word a b c d)))
    (λ at z w b p.
    let four : List ℕ = p.0 ∷ p.4.0 ∷ p.4.4.0 ∷ p.4.4.4.0 ∷ [] in
    let e : w ≡ four = rw (p.2, p.4.2, p.4.4.2, p.4.4.4.2, p.4.4.4.4.1) in
    let below : (k : ℕ) → k < 4 → get_or four k 0 < 256 = λ k l. byte-below k four l (rw e at b) in
    let i = below 0 (lit< tt) in
    let j = below 1 (lit< tt) in
    let k = below 2 (lit< tt) in
    let l = below 3 (lit< tt) in
    rw p.4.4.4.4.0 (word_fits _ _ _ _ i j k l, e ∙ sym (encode-word _ _ _ _ i j k l)))
    (λ at z w q.
    let f : FourBytes z = four_bytes_lem z q.0 in (
      f.first,
      f.second ∷ f.third ∷ f.fourth ∷ [],
      q.1 ∙ f.bytes,
      tt,
      (
        f.second,
        f.third ∷ f.fourth ∷ [],
        refl,
        tt,
        (f.third, f.fourth ∷ [], refl, tt, (f.fourth, [], refl, tt, (sym f.value, refl))),
      ),
    ))
