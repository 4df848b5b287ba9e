-- Reading is exact: what was read is good and its encoding stands there, at a place and as whole expressions.
-- Assumes nothing.
use Rattle.std.specs.Prelude.{ℕ, ◌+◌, ◌≡◌, refl, ◌↔◌, Bool, true, List, [], ◌++◌, length, drop}
use Rattle.std.proofs.Common.{sym, ap, ◌∙◌, append-nil, le_refl, zero-add, eqb-true, eq-eqb}
use Rattle.std.proofs.Math.Seq.{drop-length}
use Rattle.expression.specs.Syntax.{Num, Truth}
use Rattle.expression.specs.Reading.{Read, got, exactly, Scope, num, truth, whole_num, whole_truth, reading_expressions}
use Rattle.expression.specs.Encoding.{encode_num, encode_truth, good_num, good_truth}
use Rattle.expression.specs.Bytes.{Bytes}
use Rattle.expression.proofs.Laws.Spans.{Spans}
use Rattle.expression.proofs.Laws.Holds.{Holds, held, none, holds, only_if-holds}
use Rattle.expression.proofs.Laws.NumSound.{num-sound}
use Rattle.expression.proofs.Laws.NumComplete.{num-complete}
use Rattle.expression.proofs.Laws.Truths.{truth-sound, truth-complete}

-- ---- at a place

module _ (sc : Scope) (fuel : ℕ) (s : List ℕ) (at : ℕ) where
  pub num-exact : (e : Num) (n : ℕ) → num sc fuel s at ≡ got e n → Bytes s
      → (good_num sc e ≡ true) × (drop at s ≡ encode_num e ++ drop n s) × (n ≡ at + length (encode_num e))
  num-exact e n h b =
      let p = holds (num-sound sc s b fuel at) h in
      (p.0, p.1.bytes, p.1.moved)

  pub truth-exact : (e : Truth) (n : ℕ) → truth sc fuel s at ≡ got e n → Bytes s
      → (good_truth sc e ≡ true) × (drop at s ≡ encode_truth e ++ drop n s) × (n ≡ at + length (encode_truth e))
  truth-exact e n h b =
      let p = holds (truth-sound sc s b fuel at) h in
      (p.0, p.1.bytes, p.1.moved)

-- ---- whole expressions

-- a reader of whole expressions is exact for an encoding and a test
pub record Whole {A : Type 0} (whole : List ℕ → Read A) (enc : A → List ℕ) (ok : A → Bool) : Type 0 where
  pub sound : (s : List ℕ) → Bytes s → Holds (λ e n. (ok e ≡ true) × (s ≡ enc e) × (n ≡ length s)) (whole s)
  pub complete : (e : A) → ok e ≡ true → whole (enc e) ≡ got e (length (enc e))

exactly-complete : {A : Type 0} (e : A) (n : ℕ) {r : Read A} → r ≡ got e (0 + n) → exactly n r ≡ got e n
exactly-complete e n h = rw (h, zero-add n, eq-eqb n n refl)

module _ {A : Type 0} {enc : A → List ℕ} {ok : A → Bool} where
  exactly-sound : (s : List ℕ) {r : Read A} → Holds (λ e n. (ok e ≡ true) × Spans s 0 n (enc e)) r
      → Holds (λ e n. (ok e ≡ true) × (s ≡ enc e) × (n ≡ length s)) (exactly (length s) r)
  exactly-sound s (held {a = e} {n = n} p) = only_if-holds λ h.
      let m : n ≡ length s = eqb-true n (length s) h in
      held (p.0, p.1.bytes ∙ ap (λ k. enc e ++ drop k s) m ∙ ap (λ r. enc e ++ r) (drop-length s) ∙ append-nil (enc e), m)
  exactly-sound s none = none

  pub whole-exact : {whole : List ℕ → Read A} → Whole whole enc ok → (s : List ℕ) → Bytes s → (e : A) (n : ℕ)
      → (whole s ≡ got e n) ↔ ((ok e ≡ true) × (s ≡ enc e) × (n ≡ length s))
  whole-exact w s b e n = (λ h. holds (w.sound s b) h, λ p. rw (p.2, p.1) (w.complete e p.0))

pub whole-num : (sc : Scope) → Whole (whole_num sc) encode_num (good_num sc)
unfolding reading_expressions
whole-num sc =
    record {
      sound = λ s b. exactly-sound s (num-sound sc s b (length s) 0);
      complete = λ e g.
          let s : List ℕ = encode_num e in
          exactly-complete e (length s) (num-complete s sc e (length s) 0 [] g (sym (append-nil s)) (le_refl (length s)));
    }

pub whole-truth : (sc : Scope) → Whole (whole_truth sc) encode_truth (good_truth sc)
unfolding reading_expressions
whole-truth sc =
    record {
      sound = λ s b. exactly-sound s (truth-sound sc s b (length s) 0);
      complete = λ e g.
          let s : List ℕ = encode_truth e in
          exactly-complete e (length s) (truth-complete s sc e (length s) 0 [] g (sym (append-nil s)) (le_refl (length s)));
    }
