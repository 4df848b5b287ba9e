-- The reader of an expression in the deck is exact. Assumes nothing.
use Prim.Native.Nat.{ℕ, suc}
use Rattle.std.specs.Prelude.{◌≡◌, Bool, true, ◌&&◌, leb, ltb}
use Rattle.std.proofs.Math.Path.{refl, sym, ap}
use Rattle.std.proofs.Common.{◌∙◌}
use mathlib.Core.List.{List, [], ◌∷◌, ◌++◌, append-nil}
use Rattle.std.proofs.Math.Dec.{leb-zero, leb-suc-suc}
use Rattle.std.proofs.Math.ListN.{length}
use Rattle.lists.specs.Laws.Alls.{all_of-left, all_of-right}
use Rattle.expression.specs.Reading.{Read, got, nothing}
use Rattle.expression.proofs.Laws.Holds.{none, holds}
use Rattle.expression.proofs.Laws.Whole.{Whole}
use Rattle.expression.specs.Faults.{Found, sound}
use Rattle.deck.specs.Limits.{limits}
use Rattle.deck.specs.Layout.{Expected, judged, expression, layouts}
use Rattle.deck.specs.Encoding.{encode_expression, in_range, fitting_length, encodings}
use Rattle.deck.proofs.Laws.Judging.{judged-cases}
use Rattle.deck.proofs.Laws.Exact.{Exact, Any, Coded, exact-by, give-exact, here-exact, then-exact, fault-exact}
use Rattle.deck.proofs.Laws.Readers.{number-exact, bytes-exact}

-- a number from lo to hi, as the readers and as the tests of decks say it
pub range : (lo hi n : ℕ) → (leb lo n && ltb n (suc hi)) ≡ in_range lo hi n
unfolding encodings
range lo hi n = ap (λ t. leb lo n && t) (leb-suc-suc n hi)

-- the same from 0 on
pub below-range : (hi n : ℕ) → (leb 0 n && ltb n hi) ≡ ltb n hi
below-range hi n = rw (leb-zero n)

pub zero-range : (hi n : ℕ) → (leb 0 n && ltb n (suc hi)) ≡ leb n hi
zero-range hi n = below-range (suc hi) n ∙ leb-suc-suc n hi

judged-exact : {A : Type 0} (r : Read A) (f : Found) (has : r ≡ nothing → f ≡ sound → ⊥)
    → Exact Any (judged r f has) (λ at e w. (n : ℕ) × (r ≡ got e n) × (w ≡ []))
judged-exact r f has =
    judged-cases r f has (λ q. Exact Any q (λ at e w. (n : ℕ) × (r ≡ got e n) × (w ≡ [])))
    (λ a n k.
    exact-by (give-exact a)
    (λ at e w _ q. (n, k ∙ ap (λ x. got x n) (sym q.0), q.1))
    (λ at e w q. let h : got a n ≡ got e q.0 = sym k ∙ q.1 in (cc, q.2)))
    (λ n p k _. fault-exact n p (λ at e w q. holds {P = λ _ _. ⊥} none (sym k ∙ q.1)))

module _ {A : Type 0} (j : Expected A) {enc : A → List ℕ} {ok : A → Bool} where
  pub expression-exact : Whole j.whole enc ok
      → Exact Any (expression j) (Coded (λ e. encode_expression (enc e)) (λ e. (ok e ≡ true) × (fitting_length (enc e) ≡ true)))
  unfolding layouts encodings
  expression-exact x =
      exact-by (then-exact (number-exact 1 (suc limits.expression)) λ n.
      here-exact λ p.
      then-exact (bytes-exact n) λ s.
      judged-exact (j.whole s) (j.find s p) (j.has_fault s p))
      (λ at e w b p.
      let n : ℕ = p.0 in
      let s : List ℕ = p.4.0 in
      let there : w ≡ n ∷ (s ++ []) = rw (p.2, p.4.2, p.4.4.2) in
      let read = holds (x.sound s (all_of-left _ s [] (all_of-right _ (n ∷ []) (s ++ []) (rw there at b)))) p.4.4.1 in
      let size : length (enc e) ≡ n = ap length (sym read.1) ∙ p.4.3 in (
        (read.0, rw size (sym (range 1 limits.expression n) ∙ p.3)),
        there ∙ rw (append-nil s, read.1) (ap (λ k. k ∷ enc e) (sym size)),
      ))
      (λ at e w q.
      let s : List ℕ = enc e in (
        length s,
        s,
        q.1,
        range 1 limits.expression (length s) ∙ q.0.1,
        (s, [], sym (append-nil s), refl, (length s, x.complete e q.0.0, refl)),
      ))
