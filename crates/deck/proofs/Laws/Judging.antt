-- The judgement of an expression's bytes: they are read, or their first fault is refused. Assumes nothing.
use Rattle.std.specs.Prelude.{ℕ, ◌≡◌, Bool, true, false, List, ◌∷◌, []}
use Rattle.std.proofs.Math.Path.{refl, sym, ap}
use Rattle.std.proofs.Common.{◌∙◌}
use Rattle.lists.specs.Laws.Booleans.{contradiction}
use Rattle.refusals.specs.Outcome.{Outcome, refused, accepted}
use Rattle.expression.specs.Reading.{Read, got, nothing, Scope, whole_num, whole_truth}
use Rattle.expression.specs.Answers.{is_got}
use Rattle.expression.specs.Faults.{Found, sound, faulty, first_fault, num_fault, truth_fault}
use Rattle.expression.specs.Searching.{awaited_for}
use Rattle.expression.proofs.Laws.Sound.{num-agrees, truth-agrees, got-if-sound, nothing-if-faulty}
use Rattle.deck.specs.Reader.{Got, Reader, give, fault}
use Rattle.deck.specs.Layout.{judged}
use Rattle.deck.specs.Marks.{is_whole}

module _ {A : Type 0} (r : Read A) (f : Found) (has : r ≡ nothing → f ≡ sound → ⊥) where
  -- what holds of a value that is read, and of a fault, holds of the judgement
  pub judged-cases : (P : Reader A → Type 0) → ((a : A) (n : ℕ) → r ≡ got a n → P (give a))
      → ((n p : ℕ) → r ≡ nothing → f ≡ faulty n p → P (fault n p)) → P (judged r f has)
  unfolding judged
  judged-cases P reads fails = go r f has (λ a n e. reads a n e) (λ n p e k. fails n p e k)
    where
      go : (r : Read A) (f : Found) (has : r ≡ nothing → f ≡ sound → ⊥) → ((a : A) (n : ℕ) → r ≡ got a n → P (give a))
          → ((n p : ℕ) → r ≡ nothing → f ≡ faulty n p → P (fault n p)) → P (judged r f has)
      go (got a n) f has reads fails = reads a n refl
      go nothing (faulty n p) has reads fails = fails n p refl refl
      go nothing sound has reads fails = absurd (has refl refl)

  module _ (s : List ℕ) (at : ℕ) where
    pub judged-read : {a : A} {m : ℕ} → r ≡ got a m → judged r f has s at ≡ accepted (record { value = a; rest = s; at = at })
    unfolding give
    judged-read {a} {m} e =
        judged-cases (λ q. q s at ≡ accepted (record { value = a; rest = s; at = at }))
        (λ b k h.
        let same : got b k ≡ got a m = sym h ∙ e in
        let value : b ≡ a = cc in
        ap (λ x. accepted (record { value = x; rest = s; at = at })) value)
        (λ n p k _. contradiction (ap is_got e) (ap is_got k))

    abbrev refusal : Found → Outcome (Got A)
    refusal sound = refused 0 0
    refusal (faulty n p) = refused n p

    pub judged-nothing : {n p : ℕ} → is_got r ≡ false → f ≡ faulty n p → judged r f has s at ≡ refused n p
    unfolding fault
    judged-nothing {n} {p} e k =
        judged-cases (λ q. q s at ≡ refused n p) (λ a m h. contradiction (ap is_got h) e) (λ m q _ l. ap refusal (sym l ∙ k))

pub value-got : {A : Type 0} (r : Read A) → is_got r ≡ true → (a : A) × ((n : ℕ) × (r ≡ got a n))
value-got (got a n) e = (a, (n, refl))
value-got nothing e = contradiction e refl

-- a fault is found exactly where the bytes are no expression of the kind
module _ (sc : Scope) (t : List ℕ) (at : ℕ) where
  pub whole-if-sound : (truth : Bool) → first_fault sc (awaited_for truth ∷ []) t at ≡ sound → is_whole truth sc t ≡ true
  whole-if-sound true = got-if-sound (whole_truth sc t) (truth_fault sc t at) (truth-agrees sc t at)
  whole-if-sound false = got-if-sound (whole_num sc t) (num_fault sc t at) (num-agrees sc t at)

  pub none-if-faulty : (truth : Bool) {m p : ℕ} → first_fault sc (awaited_for truth ∷ []) t at ≡ faulty m p → is_whole truth sc t ≡ false
  none-if-faulty true = nothing-if-faulty (whole_truth sc t) (truth_fault sc t at) (truth-agrees sc t at)
  none-if-faulty false = nothing-if-faulty (whole_num sc t) (num_fault sc t at) (num-agrees sc t at)
