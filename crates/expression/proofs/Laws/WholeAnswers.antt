-- Whole expressions: the answer at place 0 counts where it ends with the bytes. Assumes nothing.
use Rattle.std.specs.Prelude.{ℕ, ◌≡◌, refl, Bool, true, false, List, eqb, ℤ, length}
use Rattle.std.proofs.Math.Path.{ap}
use Rattle.std.proofs.Common.{◌∙◌, arith}
use Rattle.expression.specs.Reading.{Read, got, nothing, exactly, Scope, num, truth, whole_num, whole_truth, reading_expressions}
use Rattle.expression.specs.Answers.{map_read, Answers, scope, num_in, truth_in, num_at, truth_at, end_of, num_end, truth_end, ends_at, is_got}
use Rattle.expression.proofs.Laws.Readings.{Reader}

exactly-map : {A B : Type 0} (f : A → B) (n : ℕ) (r : Read A) → exactly n (map_read f r) ≡ map_read f (exactly n r)
exactly-map f n (got a m) = by (eqb m n) refl
  where
    by : (t : Bool) → eqb m n ≡ t → exactly n (got (f a) m) ≡ map_read f (exactly n (got a m))
    by true e = rw e
    by false e = rw e
exactly-map f n nothing = refl

-- the answer is f of what a reader gives
whole : {A B : Type 0} (f : A → B) (read : Reader A) (s : List ℕ) {r : Read B} → Answers (λ fuel s at. map_read f (read fuel s at)) s 0 r
    → exactly (length s) r ≡ map_read f (exactly (length s) (read (length s) s 0))
whole f read s d = ap (exactly (length s)) (d.equal (length s) (omega arith)) ∙ exactly-map f (length s) (read (length s) s 0)

module _ (o f : List ℤ) (s : List ℕ) where
  pub whole-num : {r : Read ℤ} → Answers (num_at o f) s 0 r
      → exactly (length s) r ≡ map_read (num_in o f) (whole_num (scope (length o) (length f)) s)
  unfolding num_at reading_expressions
  whole-num = whole (num_in o f) (num (scope (length o) (length f))) s

  pub whole-truth : {r : Read Bool} → Answers (truth_at o f) s 0 r
      → exactly (length s) r ≡ map_read (truth_in o f) (whole_truth (scope (length o) (length f)) s)
  unfolding truth_at reading_expressions
  whole-truth = whole (truth_in o f) (truth (scope (length o) (length f))) s

-- ---- the type check

ends-exactly : {A : Type 0} (len : ℕ) (r : Read A) → ends_at len r ≡ is_got (exactly len r)
ends-exactly len (got a n) = by (eqb n len) refl
  where
    by : (t : Bool) → eqb n len ≡ t → eqb n len ≡ is_got (exactly len (got a n))
    by true e = rw e
    by false e = rw e
ends-exactly len nothing = refl

is-got-end : {A : Type 0} (r : Read A) → is_got (end_of r) ≡ is_got r
is-got-end (got a n) = refl
is-got-end nothing = refl

module _ (sc : Scope) (s : List ℕ) where
  pub ends-num : {r : Read (Unit {0})} → Answers (num_end sc) s 0 r → ends_at (length s) r ≡ is_got (whole_num sc s)
  unfolding num_end reading_expressions
  ends-num {r} d = ends-exactly (length s) r ∙ ap is_got (whole (λ _. tt) (num sc) s d) ∙ is-got-end (whole_num sc s)

  pub ends-truth : {r : Read (Unit {0})} → Answers (truth_end sc) s 0 r → ends_at (length s) r ≡ is_got (whole_truth sc s)
  unfolding truth_end reading_expressions
  ends-truth {r} d = ends-exactly (length s) r ∙ ap is_got (whole (λ _. tt) (truth sc) s d) ∙ is-got-end (whole_truth sc s)
