-- Answers of an operator from those of its operands: one law for numbers, truths and the type check. Assumes nothing.
use Prim.Native.Nat.{ℕ, zero, suc, ◌+◌, ◌-◌, ◌<◌, ◌≤◌}
use Rattle.std.specs.Prelude.{◌≡◌, Bool, true, false, List, ltb, leb, length, get_or}
use Rattle.std.proofs.Math.Path.{refl}
use Rattle.std.proofs.Common.{sym, ap, ◌∙◌, arith, ltb-true, leb-true, lt-ltb, le-ltb}
use Rattle.expression.specs.Reading.{Read, got, nothing, only_if, then, literal_at, channel_at, num_op, truth_op}
use Rattle.expression.specs.Reading.{Scope, num_operands, truth_operands, num, truth, reading_expressions}
use Rattle.expression.specs.Answers.{map_read, Ahead, Answers}

-- ---- readings of one and of two operands, mapped

abbrev pub map_two : {A B : Type 0} → (A → A → B) → Read A → (ℕ → Read A) → Read B
map_two k r go = then r (λ a n. map_read (k a) (go n))

pub map_same : {A : Type 0} (r : Read A) → map_read (λ a. a) r ≡ r
map_same (got a n) = refl
map_same nothing = refl

pub map-map : {A B C : Type 0} (g : B → C) (k : A → B) (r : Read A) → map_read g (map_read k r) ≡ map_read (λ a. g (k a)) r
map-map g k (got a n) = refl
map-map g k nothing = refl

-- f of an operator's expression is k' of f of its operands
pub map-one : {A B C D : Type 0} (f : A → C) (g : B → D) (k : A → B) (k' : C → D) → ((a : A) → g (k a) ≡ k' (f a))
    → (r : Read A) → map_read g (map_read k r) ≡ map_read k' (map_read f r)
map-one f g k k' h (got a n) = ap (λ b. got b n) (h a)
map-one f g k k' h nothing = refl

pub map-two : {A B C D : Type 0} (f : A → C) (g : B → D) (k : A → A → B) (k' : C → C → D)
    → ((a b : A) → g (k a b) ≡ k' (f a) (f b)) → (r : Read A) (go : ℕ → Read A)
    → map_read g (map_two k r go) ≡ map_two k' (map_read f r) (λ n. map_read f (go n))
map-two f g k k' h (got a n) go = map-one f g (k a) (k' (f a)) (h a) (go n)
map-two f g k k' h nothing go = refl

-- ---- the place after what was read

pub ahead-map : {A B : Type 0} (k : A → B) (at end : ℕ) (r : Read A) → Ahead at end r → Ahead at end (map_read k r)
ahead-map k at end (got a n) h = h
ahead-map k at end nothing h = tt

pub ahead_before : {A : Type 0} (at n end : ℕ) (r : Read A) → at < n → Ahead n end r → Ahead at end r
ahead_before at n end (got a m) l h = omega arith
ahead_before at n end nothing l h = tt

pub ahead-if : {A : Type 0} (at end : ℕ) (t : Bool) (r : Read A) → (t ≡ true → Ahead at end r) → Ahead at end (only_if t r)
ahead-if at end true r h = h refl
ahead-if at end false r h = tt

-- after an operator at the place `at`
pub literal-ahead : (s : List ℕ) (at : ℕ) → Ahead at (length s) (literal_at s (at + 1))
literal-ahead s at =
    ahead-if at (length s) (leb 4 (length s - (at + 1))) _ λ e.
    let l : 4 ≤ length s - (at + 1) = leb-true 4 (length s - (at + 1)) e in
    (omega arith, omega arith)

pub channel-ahead : {B : Type 0} (k : ℕ → B) (known : ℕ) (s : List ℕ) (at : ℕ)
    → Ahead at (length s) (map_read k (channel_at known s (at + 1)))
channel-ahead k known s at =
    ahead-map k at (length s) (channel_at known s (at + 1))
    (ahead-if at (length s) (ltb (at + 1) (length s)) _ λ e.
    ahead-if at (length s) (ltb (get_or s (at + 1) 0) known) _ λ f.
    let l : at + 1 < length s = ltb-true (at + 1) (length s) e in
    (omega arith, omega arith))

-- ---- the readers at a place: nothing past the end, and inside what follows the operator

module _ (sc : Scope) (s : List ℕ) (at : ℕ) where
  pub num-outside : length s ≤ at → (fuel : ℕ) → num sc fuel s at ≡ nothing
  unfolding reading_expressions
  num-outside h zero = refl
  num-outside h (suc g) = rw (le-ltb at (length s) h)

  pub truth-outside : length s ≤ at → (fuel : ℕ) → truth sc fuel s at ≡ nothing
  unfolding reading_expressions
  truth-outside h zero = refl
  truth-outside h (suc g) = rw (le-ltb at (length s) h)

  module _ (inside : at < length s) (g : ℕ) where
    pub num-inside : num sc (suc g) s at ≡ num_operands sc (num_op (get_or s at 0)) s (at + 1) (λ n. num sc g s n)
    unfolding reading_expressions
    num-inside = rw (lt-ltb at (length s) inside)

    pub truth-inside : truth sc (suc g) s at ≡ truth_operands (truth_op (get_or s at 0)) (at + 1) (λ n. truth sc g s n) (λ n. num sc g s n)
    unfolding reading_expressions
    truth-inside = rw (lt-ltb at (length s) inside)

-- ---- an operator at a place of s: what its reader gives is known from the readers of its operands, which have one less of fuel

abbrev pub Reader : Type 0 → Type 0
Reader A = ℕ → List ℕ → ℕ → Read A

module _ {B : Type 0} (out : Reader B) (s : List ℕ) (at : ℕ) (inside : at < length s) where
  by-fuel : (r : Read B) → ((g : ℕ) → length s ≤ at + 1 + g → r ≡ out (suc g) s at)
      → (fuel : ℕ) → length s ≤ at + fuel → r ≡ out fuel s at
  by-fuel r e zero l = absurd (omega arith)
  by-fuel r e (suc g) l = e g (omega arith)

  -- no operand is an expression
  pub with_none : {r : Read B} (r' : Read B) → Ahead at (length s) r' → ((g : ℕ) → out (suc g) s at ≡ r')
      → r ≡ r' → Answers out s at r
  with_none r' h e p = rw p (record { ahead = h; equal = by-fuel r' (λ g l. sym (e g)) })

  module _ {A : Type 0} (go : Reader A) where
    pub with-one : {r : Read B} {r' : Read A} (k : A → B) → ((g : ℕ) → out (suc g) s at ≡ map_read k (go g s (at + 1)))
        → Answers go s (at + 1) r' → r ≡ map_read k r' → Answers out s at r
    with-one {r'} k e d p =
        rw p (record {
          ahead = ahead_before at (at + 1) (length s) (map_read k r') (omega arith) (ahead-map k (at + 1) (length s) r' d.ahead);
          equal = by-fuel (map_read k r') (λ g l. ap (map_read k) (d.equal g l) ∙ sym (e g));
        })

    module _ (k : A → A → B) (e : (g : ℕ) → out (suc g) s at ≡ map_two k (go g s (at + 1)) (λ n. go g s n)) where
      pub with_two : {r : Read B} {r' : Read A} {a : A} {n : ℕ} → Answers go s (at + 1) (got a n) → Answers go s n r'
          → r ≡ map_read (k a) r' → Answers out s at r
      with_two {r'} {a} {n} d d' p =
          let past : at + 1 < n = d.ahead.0 in
          rw p (record {
            ahead = ahead_before at n (length s) (map_read (k a) r') (omega arith) (ahead-map (k a) n (length s) r' d'.ahead);
            equal = by-fuel (map_read (k a) r') (λ g l.
                ap (map_read (k a)) (d'.equal g (omega arith)) ∙ ap (λ x. map_two k x (λ m. go g s m)) (d.equal g l) ∙ sym (e g));
          })

      pub without-first : Answers go s (at + 1) nothing → Answers out s at nothing
      without-first d =
          record {
            ahead = tt;
            equal = by-fuel nothing (λ g l. ap (λ x. map_two k x (λ m. go g s m)) (d.equal g l) ∙ sym (e g));
          }
