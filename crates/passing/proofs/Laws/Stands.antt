-- An expression that can be read at an offset of the deck stands there; so do opening values. Assumes nothing.
use Prim.Native.Nat.{ℕ, zero, suc, ◌+◌, ◌*◌, ◌≤◌, ◌<◌}
use Rattle.std.specs.Prelude.{◌≡◌, Bool, take, ℤ, pos, Option, Some, None}
use Rattle.std.proofs.Math.Path.{refl, sym, ap}
use Rattle.std.proofs.Common.{ap₂, ◌∙◌, add-zero, get_or-drop}
use mathlib.Core.List.{List, [], ◌∷◌}
use native.Mathlib.Omega.{arith}
use Rattle.std.proofs.Math.Decide.{dec_lt, dec_le}
use Rattle.std.proofs.Math.ListN.{length, get_or, drop, length-drop}
use Rattle.std.proofs.Math.Seq.{drop-drop}
use Rattle.refusals.specs.Outcome.{refused, accepted}
use Rattle.refusals.specs.Laws.Outcomes.{refused≢accepted, accepted-inj}
use Rattle.expression.specs.Syntax.{Truth}
use Rattle.expression.specs.Reading.{Read, got, nothing, word, signed, whole_truth}
use Rattle.expression.specs.Answers.{scope, map_read, truth_in, truth_result, whole_truth_value}
use Rattle.expression.specs.Faults.{Found, sound}
use Rattle.deck.specs.Reader.{Got, ◌>>=◌, give, fault, number, repeats, value, readers}
use Rattle.deck.specs.Layout.{Expected, judged, expression}
use Rattle.deck.proofs.Laws.Judging.{judged-cases}
use Rattle.deck.proofs.Laws.Turns.{number-ends, number_small, number-large, number-reads}
use Rattle.deck.proofs.Laws.Offsets.{then-fault, whole-ends, whole-there}
use Rattle.deck.proofs.Laws.Points.{then_at, given, repeats-tracks, value-tracks}
use Rattle.deck.specs.Facts.{ReadsAt}
use Rattle.passing.specs.Stands.{Stands, value_from, values_from}

module _ {A : Type 0} (j : Expected A) (s : List ℕ) (at : ℕ) (a : A) (r : ReadsAt s (expression j) at a) where
  -- no fault was found
  never : {n p : ℕ} → expression j (drop at s) at ≡ refused n p → Stands j.whole s at a
  never e = refused≢accepted (sym e ∙ r.1)

  length-fault : {n p : ℕ} → number 1 65 (drop at s) at ≡ refused n p → expression j (drop at s) at ≡ refused n p
  unfolding expression ◌>>=◌
  length-fault e = then-fault _ e

  byte-there : (w : Read A) (f : Found) (has : w ≡ nothing → f ≡ sound → ⊥) (t : List ℕ) (n : ℕ)
      → judged w f has t n ≡ accepted (record { value = a; rest = drop r.0 s; at = r.0 }) → (k : ℕ) × (w ≡ got a k)
  unfolding give fault
  byte-there w f has t n =
      judged-cases w f has (λ q. q t n ≡ accepted (record { value = a; rest = drop r.0 s; at = r.0 }) → (k : ℕ) × (w ≡ got a k))
      (λ b k e h. (k, e ∙ ap (λ x. got x k) (ap (λ g. g.value) (accepted-inj h))))
      (λ m p _ _ h. refused≢accepted h)

  pub stands : Stands j.whole s at a
  stands = at_offset (dec_lt at (length s))
    where
      n : ℕ
      n = get_or s at 0

      whole-bytes : at < length s → 1 ≤ n → n < 65 → Dec (at + 1 + n ≤ length s) → Stands j.whole s at a
      whole-bytes l lo hi (yes h) =
          let e = number-reads 1 65 s at l lo hi in
          let bytes = take n (drop (at + 1) s) in
          let b = byte-there (j.whole bytes) (j.find bytes (at + 1)) (j.has_fault bytes (at + 1)) (drop (at + 1 + n) s) (at + 1 + n)
          (sym (whole-there j s at n (at + 1) e h) ∙ r.1) in
          record { inside = l; ends = h; end = b.0; holds = b.1 }
      whole-bytes l lo hi (no h) = never (whole-ends j s at n (at + 1) (number-reads 1 65 s at l lo hi) (omega arith) (omega arith))

      in-range : at < length s → Dec (1 ≤ n) → Dec (n < 65) → Stands j.whole s at a
      in-range l (yes lo) (yes hi) = whole-bytes l lo hi (dec_le (at + 1 + n) (length s))
      in-range l (yes lo) (no hi) = never (length-fault (number-large 1 65 s at l lo (omega arith)))
      in-range l (no lo) hi = never (length-fault (number_small 1 65 s at l (omega arith)))

      at_offset : Dec (at < length s) → Stands j.whole s at a
      at_offset (yes l) = in-range l (dec_le 1 n) (dec_lt n 65)
      at_offset (no l) = never (length-fault (number-ends 1 65 s at (omega arith)))

-- ---- opening values

pub values_length : (s : List ℕ) (at n : ℕ) → length (values_from s at n) ≡ n
unfolding values_from
values_length s at zero = refl
values_length s at (suc n) = ap suc (values_length s (at + 4) n)

pub values-at : (s : List ℕ) (at n c : ℕ) → c < n → get_or (values_from s at n) c (pos 0) ≡ value_from s (at + 4 * c)
unfolding values_from
values-at s at zero c h = absurd (omega arith)
values-at s at (suc n) zero h = ap (value_from s) (sym (add-zero at))
values-at s at (suc n) (suc c) h =
    let k : at + 4 + 4 * c ≡ at + 4 * suc c = omega arith in
    values-at s (at + 4) n c (omega arith) ∙ ap (value_from s) k

-- four bytes that were read
module _ (s : List ℕ) (at : ℕ) (g : Got ℤ) where
  abbrev FourRead : Type 0
  FourRead = (g.value ≡ value_from s at) × (g.rest ≡ drop (at + 4) s) × (g.at ≡ at + 4) × (at + 4 ≤ length s)

  four-read : (l : List ℕ) → drop at s ≡ l → value l at ≡ accepted g → FourRead
  unfolding readers value_from
  four-read (a ∷ b ∷ c ∷ d ∷ t) h e =
      let first : get_or s at 0 ≡ a = ap (λ k. get_or s k 0) (sym (add-zero at)) ∙ sym (get_or-drop at s 0 0) ∙ ap (λ l. get_or l 0 0) h in
      let second : get_or s (at + 1) 0 ≡ b = sym (get_or-drop at s 1 0) ∙ ap (λ l. get_or l 1 0) h in
      let third : get_or s (at + 2) 0 ≡ c = sym (get_or-drop at s 2 0) ∙ ap (λ l. get_or l 2 0) h in
      let fourth : get_or s (at + 3) 0 ≡ d = sym (get_or-drop at s 3 0) ∙ ap (λ l. get_or l 3 0) h in
      let size : length (drop at s) ≡ suc (suc (suc (suc (length t)))) = ap length h in
      let same = sym (accepted-inj e) in
      let k : suc (suc (suc (suc at))) ≡ at + 4 = omega arith in (
        ap (λ g. g.value) same ∙ rw (first, second, third, fourth) refl,
        ap (λ g. g.rest) same ∙ ap (drop 4) (sym h) ∙ drop-drop 4 at s,
        ap (λ g. g.at) same ∙ k,
        omega (arith, size, length-drop at s),
      )
  four-read (a ∷ b ∷ c ∷ []) h e = refused≢accepted e
  four-read (a ∷ b ∷ []) h e = refused≢accepted e
  four-read (a ∷ []) h e = refused≢accepted e
  four-read [] h e = refused≢accepted e

-- n values that were read: those that stand there
values-got : (s : List ℕ) (n at : ℕ) (g : Got (List ℤ)) → repeats n value (drop at s) at ≡ accepted g → at ≤ length s
    → (g.value ≡ values_from s at n) × (at + 4 * n ≤ length s)
unfolding readers values_from
values-got s zero at g e b = (ap (λ g. g.value) (sym (accepted-inj e)), omega arith)
values-got s (suc n) at g e b =
    let x = then_at value _ value-tracks s at g e in
    let xs = then_at (repeats n value) _ (repeats-tracks value value-tracks n) s x.0.at g x.2 in
    let f = four-read s at x.0 (drop at s) refl x.1 in
    let rest = values-got s n (at + 4) xs.0 (ap (λ k. repeats n value (drop k s) k) (sym f.2) ∙ xs.1) f.3 in (
      sym (given _ (drop xs.0.at s) xs.0.at g xs.2) ∙ ap₂ (λ v vs. v ∷ vs) f.0 rest.0,
      omega (arith, rest.1),
    )

-- one value at least, so that the offset lies inside
values-inside : (s : List ℕ) (n at : ℕ) (g : Got (List ℤ)) → repeats (suc n) value (drop at s) at ≡ accepted g → at ≤ length s
unfolding readers
values-inside s n at g e =
    let x = then_at value _ value-tracks s at g e in
    let f = four-read s at x.0 (drop at s) refl x.1 in
    omega (arith, f.3)

pub values-stand : (s : List ℕ) (n at : ℕ) (l : List ℤ) → 1 ≤ n → ReadsAt s (repeats n value) at l → (l ≡ values_from s at n)
    × (at + 4 * n ≤ length s)
values-stand s zero at l some r = absurd (omega arith)
values-stand s (suc n) at l some r = values-got s (suc n) at _ r.1 (values-inside s n at _ r.1)

pub truth-there : (s : List ℕ) (at : ℕ) (own far : List ℤ) (t : Truth) → Stands (whole_truth (scope (length own) (length far))) s at t
    → whole_truth_value own far (take (get_or s at 0) (drop (at + 1) s)) ≡ Some (truth_in own far t)
truth-there s at own far t h = ap (λ r. truth_result (map_read (truth_in own far) r)) h.holds

pub told : (b c : Bool) → Some b ≡ Some c → b ≡ c
told b c e = cc

pub not_none : {A : Type 0} {b : Bool} {o : Option Bool} → o ≡ None → o ≡ Some b → A
not_none n e = absurd (cc)

-- four bytes, as the code puts them together
pub value-is : (s : List ℕ) (at : ℕ) → signed (word (get_or s at 0) (get_or s (at + 1) 0) (get_or s (at + 2) 0) (get_or s (at + 3) 0))
    ≡ value_from s at
unfolding value_from
value-is s at = refl
