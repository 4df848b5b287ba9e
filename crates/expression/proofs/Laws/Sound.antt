-- No fault is found exactly where the bytes are the expression that is awaited. Assumes nothing.
use Prim.Native.Nat.{ℕ, zero, suc, ◌+◌, ◌-◌, ◌≤◌, ◌<◌}
use Rattle.std.specs.Prelude.{◌≡◌, Bool, cond, leb, ℤ, get_or, Ok, Err}
use Rattle.refusals.specs.declared.Fault.{Fault}
use Rattle.std.proofs.Math.Path.{refl, ap, subst}
use Rattle.std.proofs.Common.{sym, ◌∙◌, arith, drop_of_length-le, drop-cons}
use Rattle.std.proofs.Math.Bool.{true, false}
use mathlib.Core.List.{List, [], ◌∷◌, ◌++◌}
use Rattle.std.proofs.Math.Dec.{ltb, eqb}
use Rattle.std.proofs.Math.ListN.{length}
use borrow.Author.Tests.{ltb-true, ltb-false, leb-true, leb-false, eqb-true, eqb-false, le-ltb}
use Rattle.expression.specs.Syntax.{Num, Truth, literal, own, far, two, negation, opposite, both, compared}
use Rattle.expression.specs.Reading.{Read, got, nothing, only_if, then, word, signed, literal_at, channel_at, Scope, num_op, truth_op}
use Rattle.expression.specs.Reading.{num_operands, truth_operands, num, truth, exactly, whole_num, whole_truth}
use Rattle.expression.specs.Answers.{is_got}
use Rattle.expression.specs.Faults.{Awaited, a_number, a_truth, an_own_channel, a_far_channel, four_bytes, if_far_allowed, if_known}
use Rattle.expression.specs.Faults.{Judgement, unknown, mistyped, asks_for, other_truth, other_number, judgement}
use Rattle.expression.specs.Faults.{Found, sound, faulty, placed, first_fault, num_fault, truth_fault}
use Rattle.expression.specs.Searching.{Searched, refused_at}
use Rattle.expression.proofs.Laws.Searches.{
  missing,
  none-awaited,
  by-asking,
  by-mistyped,
  by-other-truth,
  by-other-number,
  by_two,
  by_first,
  number-judged,
  truth-judged,
  own-judged,
  far-judged,
  literal-ends,
  literal-cut,
  no-channel,
  a-channel,
  unknown-channel,
}
use Rattle.expression.specs.declared.NumOp.{NumOp}
use Rattle.expression.specs.declared.NumOp.TheVariants as OfNum
use Rattle.expression.specs.declared.TruthOp.{TruthOp}
use Rattle.expression.specs.declared.TruthOp.TheVariants as OfTruth

-- there is a fault
abbrev pub Faulty : Found → Type 0
Faulty sound = ⊥
Faulty (faulty n p) = Unit {0}

-- exactly one of the two: bytes are read, and no fault is found; or they are not, and one is
abbrev pub Agrees : {A : Type 0} → Read A → Found → Type 0
Agrees (got a n) f = f ≡ sound
Agrees nothing f = Faulty f

-- ---- places

-- a fault's place, counted from n bytes earlier
abbrev pub moved : ℕ → Found → Found
moved k sound = sound
moved k (faulty n p) = faulty n (k + p)

fault-moved : (sc : Scope) (k : ℕ) (s : List ℕ) (ws : List Awaited) (at : ℕ)
    → first_fault sc ws s (k + at) ≡ moved k (first_fault sc ws s at)
unfolding first_fault
fault-moved sc k [] [] at = refl
fault-moved sc k [] (w ∷ ws) at = refl
fault-moved sc k (b ∷ s) [] at = refl
fault-moved sc k (b ∷ s) (w ∷ ws) at = go (judgement sc w b) (λ more. fault-moved sc k s (more ++ ws) (suc at))
  where
    go : (j : Judgement)
        → ((more : List Awaited) → first_fault sc (more ++ ws) s (k + suc at) ≡ moved k (first_fault sc (more ++ ws) s (suc at)))
        → placed (k + at) j (λ more. first_fault sc (more ++ ws) s (suc (k + at)))
        ≡ moved k (placed at j (λ more. first_fault sc (more ++ ws) s (suc at)))
    go unknown next = refl
    go mistyped next = refl
    go (asks_for more) next =
        let e : suc (k + at) ≡ k + suc at = omega arith in
        ap (first_fault sc (more ++ ws) s) e ∙ next more

-- the bytes alone, and then where they stand
pub fault-from-0 : (sc : Scope) (at : ℕ) (s : List ℕ) (ws : List Awaited) → first_fault sc ws s at ≡ moved at (first_fault sc ws s 0)
fault-from-0 sc at s ws =
    let e : at ≡ at + 0 = omega arith in
    ap (first_fault sc ws s) e ∙ fault-moved sc at s ws 0

moved-agrees : {A : Type 0} (k : ℕ) (r : Read A) (f : Found) → Agrees r f → Agrees r (moved k f)
moved-agrees k (got a n) f h = ap (moved k) h
moved-agrees k nothing sound h = h
moved-agrees k nothing (faulty n p) h = tt

-- ---- what a reader gives, by what is found

module _ (sc : Scope) (s : List ℕ) where
  -- what a reader gives for the values vs, in terms of faults: they end where it says; or they have a fault, and it gives nothing
  data Tells {A : Type 0} (vs : List Awaited) (at : ℕ) : Read A → Type 0 where
    ends : {a : A} {n : ℕ} → Searched sc s vs at (Ok n) → Tells vs at (got a n)
    fails : {f : Fault} → Searched sc s vs at (Err f) → Tells vs at nothing

  -- what was read with something made of it
  made : {A B : Type 0} {vs : List Awaited} {at : ℕ} (f : A → B) (r : Read A) → Tells vs at r → Tells vs at (then r (λ a n. got (f a) n))
  made f (got a n) (ends t) = ends t
  made f nothing (fails t) = fails t

  -- one value and then another
  made-of-two : {A B : Type 0} (v : Awaited) (at : ℕ) (f : A → A → B) (go : ℕ → Read A) (r : Read A) → Tells (v ∷ []) at r
      → ((n : ℕ) → at ≤ n → Tells (v ∷ []) n (go n)) → Tells (v ∷ v ∷ []) at (then r (λ x n. then (go n) (λ y m. got (f x y) m)))
  made-of-two {A} {B} v at f go (got x n) (ends t) u = second (go n) (u n t.says.0)
    where
      second : (r : Read A) → Tells (v ∷ []) n r → Tells (v ∷ v ∷ []) at (then r (λ y m. got (f x y) m))
      second (got y m) (ends w) = ends (by_two sc s v (v ∷ []) at t (Ok m) w)
      second nothing (fails {f} w) = fails (by_two sc s v (v ∷ []) at t (Err f) w)
  made-of-two v at f go nothing (fails t) u = fails (by_first sc s v (v ∷ []) at t)

  -- a byte that is taken: what is told of what it asks for is told of it
  asked : {A : Type 0} {w : Awaited} {us : List Awaited} {at : ℕ} → at < length s → judgement sc w (get_or s at 0) ≡ asks_for us
      → (r : Read A) → Tells us (at + 1) r → Tells (w ∷ []) at r
  asked {A} {w} {us} {at} h e (got a n) (ends t) = ends (by-asking sc s w at h e (Ok n) t)
  asked {A} {w} {us} {at} h e nothing (fails {f} t) = fails (by-asking sc s w at h e (Err f) t)

  -- ---- literals and channels

  literal-tells : (at : ℕ) → at ≤ length s → Tells four_bytes at (literal_at s at)
  literal-tells at h = go (leb 4 (length s - at)) refl
    where
      z : ℤ
      z = signed (word (get_or s at 0) (get_or s (at + 1) 0) (get_or s (at + 2) 0) (get_or s (at + 3) 0))

      go : (b : Bool) → leb 4 (length s - at) ≡ b → Tells four_bytes at (only_if b (got z (at + 4)))
      go true e = ends (literal-ends s at (omega (arith, leb-true 4 (length s - at) e)) sc)
      go false e = fails (literal-cut s at h (leb-false 4 (length s - at) e) sc)

  channel-tells : (w : Awaited) (n : ℕ) → ((b : ℕ) → judgement sc w b ≡ if_known (ltb b n)) → (at : ℕ) → Tells (w ∷ []) at (channel_at n s at)
  channel-tells w n is at = go (ltb at (length s)) refl
    where
      inner : at < length s → (b : Bool) → ltb (get_or s at 0) n ≡ b → Tells (w ∷ []) at (only_if b (got (get_or s at 0) (at + 1)))
      inner h true e = ends (a-channel s n at h (ltb-true (get_or s at 0) n e) sc w is)
      inner h false e = fails (unknown-channel s n at h (ltb-false (get_or s at 0) n e) sc w is)

      go : (b : Bool) → ltb at (length s) ≡ b → Tells (w ∷ []) at (only_if b (only_if (ltb (get_or s at 0) n) (got (get_or s at 0) (at + 1))))
      go true e = inner (ltb-true at (length s) e) (ltb (get_or s at 0) n) refl
      go false e = fails (no-channel s n at (ltb-false at (length s) e) sc w is)

  -- where no far channel is known, none is read
  no-far : (at n : ℕ) → n ≡ 0 → then (channel_at n s at) (λ c m. got (far c) m) ≡ nothing
  no-far at n e =
      ap (λ n. then (channel_at n s at) (λ c m. got (far c) m)) e ∙ ap (λ r. then r (λ c m. got (far c) m)) (none (ltb at (length s)))
    where
      none : (t : Bool) → only_if t (only_if (ltb (get_or s at 0) 0) (got (get_or s at 0) (at + 1))) ≡ nothing
      none true = ap (λ b. only_if b (got (get_or s at 0) (at + 1))) (le-ltb (get_or s at 0) 0 (omega arith))
      none false = refl

  far-tells : (at : ℕ) → at < length s → num_op (get_or s at 0) ≡ OfNum.Far
      → Tells (a_number ∷ []) at (then (channel_at sc.fars s (at + 1)) (λ c n. got (far c) n))
  far-tells at h e = go (eqb sc.fars 0) refl
    where
      is : judgement sc a_number (get_or s at 0) ≡ if_far_allowed sc.fars
      is = number-judged sc s at OfNum.Far e

      go : (b : Bool) → eqb sc.fars 0 ≡ b → Tells (a_number ∷ []) at (then (channel_at sc.fars s (at + 1)) (λ c n. got (far c) n))
      go false f =
          asked h (is ∙ ap (λ b. cond b mistyped (asks_for (a_far_channel ∷ []))) f) _
          (made far (channel_at sc.fars s (at + 1)) (channel-tells a_far_channel sc.fars (far-judged sc s) (at + 1)))
      go true f =
          subst (λ (r : Read Num). Tells (a_number ∷ []) at r) (sym (no-far (at + 1) sc.fars (eqb-true sc.fars 0 f)))
          (fails (by-mistyped sc s a_number at h (is ∙ ap (λ b. cond b mistyped (asks_for (a_far_channel ∷ []))) f)))

  -- ---- numbers

  -- a byte that is no operator of the awaited type
  no_number : {A : Type 0} (w : Awaited) (at : ℕ) (o : TruthOp) → Searched sc s (w ∷ []) at (refused_at at (other_truth o))
      → Tells {A = A} (w ∷ []) at nothing
  no_number w at (OfTruth.Constant b) t = fails t
  no_number w at OfTruth.Not t = fails t
  no_number w at (OfTruth.Both k) t = fails t
  no_number w at (OfTruth.Two k) t = fails t
  no_number w at OfTruth.Unknown t = fails t

  no_truth : {A : Type 0} (w : Awaited) (at : ℕ) (o : NumOp) → Searched sc s (w ∷ []) at (refused_at at (other_number o))
      → Tells {A = A} (w ∷ []) at nothing
  no_truth w at OfNum.Literal t = fails t
  no_truth w at OfNum.Own t = fails t
  no_truth w at OfNum.Far t = fails t
  no_truth w at (OfNum.Two k) t = fails t
  no_truth w at OfNum.Negation t = fails t
  no_truth w at OfNum.Unknown t = fails t

  module _ (at : ℕ) (h : at < length s) where
    numbers-tell : (o : NumOp) → num_op (get_or s at 0) ≡ o → (go : ℕ → Read Num) → ((n : ℕ) → at + 1 ≤ n → Tells (a_number ∷ []) n (go n))
        → Tells (a_number ∷ []) at (num_operands sc o s (at + 1) go)
    numbers-tell OfNum.Literal e go t =
        asked h (number-judged sc s at OfNum.Literal e) _ (made literal (literal_at s (at + 1)) (literal-tells (at + 1) (omega arith)))
    numbers-tell OfNum.Own e go t =
        asked h (number-judged sc s at OfNum.Own e) _
        (made own (channel_at sc.owns s (at + 1)) (channel-tells an_own_channel sc.owns (own-judged sc s) (at + 1)))
    numbers-tell OfNum.Far e go t = far-tells at h e
    numbers-tell (OfNum.Two k) e go t =
        asked h (number-judged sc s at (OfNum.Two k) e) _
        (made-of-two a_number (at + 1) (two k) go (go (at + 1)) (t (at + 1) (omega arith)) t)
    numbers-tell OfNum.Negation e go t =
        asked h (number-judged sc s at OfNum.Negation e) _ (made negation (go (at + 1)) (t (at + 1) (omega arith)))
    numbers-tell OfNum.Unknown e go t =
        no_number a_number at (truth_op (get_or s at 0))
        (by-other-truth sc s a_number at h (truth_op (get_or s at 0)) (number-judged sc s at OfNum.Unknown e))

    truths-tell : (o : TruthOp) → truth_op (get_or s at 0) ≡ o → (go : ℕ → Read Truth) (go_num : ℕ → Read Num)
        → ((n : ℕ) → at + 1 ≤ n → Tells (a_truth ∷ []) n (go n)) → ((n : ℕ) → at + 1 ≤ n → Tells (a_number ∷ []) n (go_num n))
        → Tells (a_truth ∷ []) at (truth_operands o (at + 1) go go_num)
    truths-tell (OfTruth.Constant b) e go go_num t u =
        asked h (truth-judged sc s at (OfTruth.Constant b) e) _ (ends (none-awaited sc s (at + 1) (omega arith)))
    truths-tell OfTruth.Not e go go_num t u =
        asked h (truth-judged sc s at OfTruth.Not e) _ (made opposite (go (at + 1)) (t (at + 1) (omega arith)))
    truths-tell (OfTruth.Both k) e go go_num t u =
        asked h (truth-judged sc s at (OfTruth.Both k) e) _
        (made-of-two a_truth (at + 1) (both k) go (go (at + 1)) (t (at + 1) (omega arith)) t)
    truths-tell (OfTruth.Two k) e go go_num t u =
        asked h (truth-judged sc s at (OfTruth.Two k) e) _
        (made-of-two a_number (at + 1) (compared k) go_num (go_num (at + 1)) (u (at + 1) (omega arith)) u)
    truths-tell OfTruth.Unknown e go go_num t u =
        no_truth a_truth at (num_op (get_or s at 0))
        (by-other-number sc s a_truth at h (num_op (get_or s at 0)) (truth-judged sc s at OfTruth.Unknown e))

  -- whatever the fuel, if that is enough
  num-tells : (fuel at : ℕ) → length s ≤ at + fuel → Tells (a_number ∷ []) at (num sc fuel s at)
  unfolding num
  num-tells zero at h = fails (missing sc s a_number [] at (omega arith))
  num-tells (suc fuel) at h = go (ltb at (length s)) refl (λ n l. num-tells fuel n (omega arith))
    where
      go : (b : Bool) → ltb at (length s) ≡ b → ((n : ℕ) → at + 1 ≤ n → Tells (a_number ∷ []) n (num sc fuel s n))
          → Tells (a_number ∷ []) at (only_if b (num_operands sc (num_op (get_or s at 0)) s (at + 1) (λ n. num sc fuel s n)))
      go true e t = numbers-tell at (ltb-true at (length s) e) (num_op (get_or s at 0)) refl (λ n. num sc fuel s n) t
      go false e t = fails (missing sc s a_number [] at (ltb-false at (length s) e))

  truth-tells : (fuel at : ℕ) → length s ≤ at + fuel → Tells (a_truth ∷ []) at (truth sc fuel s at)
  unfolding truth
  truth-tells zero at h = fails (missing sc s a_truth [] at (omega arith))
  truth-tells (suc fuel) at h =
      go (ltb at (length s)) refl (λ n l. truth-tells fuel n (omega arith)) (λ n l. num-tells fuel n (omega arith))
    where
      go : (b : Bool) → ltb at (length s) ≡ b → ((n : ℕ) → at + 1 ≤ n → Tells (a_truth ∷ []) n (truth sc fuel s n))
          → ((n : ℕ) → at + 1 ≤ n → Tells (a_number ∷ []) n (num sc fuel s n))
          → Tells (a_truth ∷ []) at
          (only_if b (truth_operands (truth_op (get_or s at 0)) (at + 1) (λ n. truth sc fuel s n) (λ n. num sc fuel s n)))
      go true e t u =
          truths-tell at (ltb-true at (length s) e) (truth_op (get_or s at 0)) refl (λ n. truth sc fuel s n) (λ n. num sc fuel s n) t u
      go false e t u = fails (missing sc s a_truth [] at (ltb-false at (length s) e))

  -- ---- whole expressions

  -- a value that ends where the bytes end has no fault, and bytes left over are one
  whole_tells : {A : Type 0} (w : Awaited) (r : Read A) → Tells (w ∷ []) 0 r → Agrees (exactly (length s) r) (first_fault sc (w ∷ []) s 0)
  unfolding first_fault
  whole_tells w (got a n) (ends t) = go (eqb n (length s)) refl
    where
      go : (b : Bool) → eqb n (length s) ≡ b → Agrees (only_if b (got a n)) (first_fault sc (w ∷ []) s 0)
      go true e =
          let l : length s ≤ n = omega (arith, eqb-true n (length s) e) in
          t.says.2 [] ∙ ap (λ z. first_fault sc [] z n) (drop_of_length-le s l)
      go false e =
          let other = eqb-false n (length s) e in
          let l : n < length s = omega (arith, t.says.1, other) in
          subst Faulty (sym (t.says.2 [] ∙ ap (λ z. first_fault sc [] z n) (drop-cons s n 0 l))) tt
  whole_tells w nothing (fails t) = subst Faulty (sym (t.says [])) tt

-- bytes are a number, or a truth, exactly where no fault is found
module _ (sc : Scope) (s : List ℕ) (at : ℕ) where
  pub num-agrees : Agrees (whole_num sc s) (num_fault sc s at)
  unfolding whole_num
  num-agrees =
      subst (Agrees (whole_num sc s)) (sym (fault-from-0 sc at s (a_number ∷ [])))
      (moved-agrees at (whole_num sc s) (num_fault sc s 0)
      (whole_tells sc s a_number (num sc (length s) s 0) (num-tells sc s (length s) 0 (omega arith))))

  pub truth-agrees : Agrees (whole_truth sc s) (truth_fault sc s at)
  unfolding whole_truth
  truth-agrees =
      subst (Agrees (whole_truth sc s)) (sym (fault-from-0 sc at s (a_truth ∷ [])))
      (moved-agrees at (whole_truth sc s) (truth_fault sc s 0)
      (whole_tells sc s a_truth (truth sc (length s) s 0) (truth-tells sc s (length s) 0 (omega arith))))

-- ---- what follows from it

abbrev IsSound : Found → Type 0
IsSound sound = Unit {0}
IsSound (faulty n p) = ⊥

pub sound≢faulty : {B : Type 0} {n p : ℕ} → sound ≡ faulty n p → B
sound≢faulty e = absurd (subst IsSound e tt)

module _ {A : Type 0} where
  abbrev IsNothing : Read A → Type 0
  IsNothing (got a n) = ⊥
  IsNothing nothing = Unit {0}

  has_fault : (r : Read A) (f : Found) → Agrees r f → r ≡ nothing → f ≡ sound → ⊥
  has_fault (got a n) f h e k = subst IsNothing (sym e) tt
  has_fault nothing f h e k = subst Faulty k h

  pub got-if-sound : (r : Read A) (f : Found) → Agrees r f → f ≡ sound → is_got r ≡ true
  got-if-sound (got a n) f h e = refl
  got-if-sound nothing f h e = absurd (subst Faulty e h)

  pub nothing-if-faulty : (r : Read A) (f : Found) → Agrees r f → {n p : ℕ} → f ≡ faulty n p → is_got r ≡ false
  nothing-if-faulty (got a m) f h e = sound≢faulty (sym h ∙ e)
  nothing-if-faulty nothing f h e = refl

-- bytes that are no number, or no truth, have a fault
pub num-has-fault : (sc : Scope) (s : List ℕ) (at : ℕ) → whole_num sc s ≡ nothing → num_fault sc s at ≡ sound → ⊥
num-has-fault sc s at = has_fault (whole_num sc s) (num_fault sc s at) (num-agrees sc s at)

pub truth-has-fault : (sc : Scope) (s : List ℕ) (at : ℕ) → whole_truth sc s ≡ nothing → truth_fault sc s at ≡ sound → ⊥
truth-has-fault sc s at = has_fault (whole_truth sc s) (truth_fault sc s at) (truth-agrees sc s at)
