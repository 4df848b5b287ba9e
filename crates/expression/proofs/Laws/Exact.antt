-- The place of a fault is the exact byte. Assumes nothing.
use Prim.Native.Nat.{ℕ, zero, suc, ◌+◌, ◌-◌, ◌≤◌, ◌<◌}
use Rattle.std.specs.Prelude.{◌≡◌, Bool, true, false, length, take, drop}
use Rattle.std.proofs.Math.Path.{refl, ap}
use Rattle.std.proofs.Common.{sym, ap₂, subst, ◌∙◌, inl, inr, arith, length-drop}
use mathlib.Core.List.{List, [], ◌∷◌, ◌++◌, append_assoc, append-nil}
use Rattle.std.proofs.Math.Seq.{take-length}
use Rattle.refusals.specs.Numbers.{unknown_byte, wrong_type, wrong_end}
use Rattle.expression.specs.Reading.{Scope, whole_num, whole_truth}
use Rattle.expression.specs.Answers.{is_got}
use Rattle.expression.specs.Faults.{Awaited, a_number, a_truth, Judgement, unknown, mistyped, asks_for, judgement}
use Rattle.expression.specs.Faults.{Found, sound, faulty, placed, first_fault, num_fault, truth_fault}
use Rattle.expression.specs.ExactByte.{InExpression, Completed, ExactByte}
use Rattle.expression.proofs.Laws.Sound.{moved, fault-from-0, num-agrees, truth-agrees, sound≢faulty, got-if-sound, nothing-if-faulty}
use Rattle.expression.proofs.Laws.Completions.{Open, fill, fill-bytes, fill-some, fill-sound, OpenAfter, open-append, judged-open}

abbrev number_of : Found → ℕ
number_of sound = 0
number_of (faulty n p) = n

abbrev place_of : Found → ℕ
place_of sound = 0
place_of (faulty n p) = p

-- ---- how a fault was found

-- `find` finds n at p in the bytes s, which stand from the offset `at` on: where that is, and that nothing behind its byte matters
pub record ShownAt (find : List ℕ → ℕ → Found) (s : List ℕ) (at n p : ℕ) : Type 0 where
  pub number : InExpression n
  pub from : at ≤ p
  pub within : p ≤ at + length s
  pub on_a_byte : ¬ (n ≡ wrong_end) → p < at + length s
  pub same : p < at + length s → (t : List ℕ) → find (take (suc p - at) s ++ t) at ≡ faulty n p

module _ (sc : Scope) where
  -- what is awaited at its place, and the bytes from there on
  data FaultKind : List Awaited → List ℕ → ℕ → Type 0 where
    left_over : {b : ℕ} {s : List ℕ} → FaultKind [] (b ∷ s) wrong_end
    ends_early : {w : Awaited} {ws : List Awaited} → FaultKind (w ∷ ws) [] wrong_end
    not_known : {w : Awaited} {ws : List Awaited} {b : ℕ} {s : List ℕ} → judgement sc w b ≡ unknown
        → FaultKind (w ∷ ws) (b ∷ s) unknown_byte
    of_wrong_type : {w : Awaited} {ws : List Awaited} {b : ℕ} {s : List ℕ} → judgement sc w b ≡ mistyped
        → FaultKind (w ∷ ws) (b ∷ s) wrong_type

  -- the first n bytes were taken, and these are awaited then, whatever follows; the fault is the next byte's
  record Course (ws : List Awaited) (s : List ℕ) (at n p : ℕ) : Type 0 where
    taken : ℕ
    awaited : List Awaited
    place : p ≡ at + taken
    within : taken ≤ length s
    reached : (t : List ℕ) → first_fault sc ws (take taken s ++ t) at ≡ first_fault sc awaited t p
    kind : FaultKind awaited (drop taken s) n
    possible : 0 < sc.owns → Open sc ws → Open sc awaited

  -- at the first byte
  at_once : {m : ℕ} (ws : List Awaited) (s : List ℕ) (at n p : ℕ) → FaultKind ws s m → faulty m at ≡ faulty n p → Course ws s at n p
  at_once ws s at n p k e =
      let q : at ≡ p = ap place_of e in
      record {
        taken = 0;
        awaited = ws;
        place = omega (arith, q);
        within = omega arith;
        reached = λ t. ap (first_fault sc ws t) q;
        kind = subst (λ n. FaultKind ws s n) (ap number_of e) k;
        possible = λ some o. o;
      }

  course : (s : List ℕ) (ws : List Awaited) (at n p : ℕ) → first_fault sc ws s at ≡ faulty n p → Course ws s at n p
  unfolding first_fault
  course [] [] at n p e = sound≢faulty e
  course [] (w ∷ ws) at n p e = at_once (w ∷ ws) [] at n p ends_early e
  course (b ∷ s) [] at n p e = at_once [] (b ∷ s) at n p left_over e
  course (b ∷ s) (w ∷ ws) at n p e = go (judgement sc w b) refl e (λ more. course s (more ++ ws) (suc at) n p)
    where
      go : (j : Judgement) → judgement sc w b ≡ j → placed at j (λ more. first_fault sc (more ++ ws) s (suc at)) ≡ faulty n p
          → ((more : List Awaited) → first_fault sc (more ++ ws) s (suc at) ≡ faulty n p → Course (more ++ ws) s (suc at) n p)
          → Course (w ∷ ws) (b ∷ s) at n p
      go unknown is e next = at_once (w ∷ ws) (b ∷ s) at n p (not_known is) e
      go mistyped is e next = at_once (w ∷ ws) (b ∷ s) at n p (of_wrong_type is) e
      go (asks_for more) is e next =
          let f = next more e in
          record {
            taken = suc f.taken;
            awaited = f.awaited;
            place = omega (arith, f.place);
            within = omega (arith, f.within);
            reached = λ t.
                ap (λ j. placed at j (λ more. first_fault sc (more ++ ws) (take f.taken s ++ t) (suc at))) is ∙ f.reached t;
            kind = f.kind;
            possible = λ some o.
                f.possible some (open-append sc more ws (subst (λ j. OpenAfter sc j) is (judged-open sc some w b)) o.1);
          }

  -- ---- what follows from it

  take_next : (k : ℕ) (s : List ℕ) → take (suc k) s ≡ take k s ++ take 1 (drop k s)
  take_next zero s = refl
  take_next (suc k) [] = refl
  take_next (suc k) (b ∷ s) = ap (λ r. b ∷ r) (take_next k s)

  -- a fault that is placed at a byte is that byte's
  of-a-byte : {ws : List Awaited} {s : List ℕ} {n : ℕ} → FaultKind ws s n → 0 < length s → (p : ℕ) (t : List ℕ)
      → first_fault sc ws (take 1 s ++ t) p ≡ faulty n p
  unfolding first_fault
  of-a-byte left_over l p t = refl
  of-a-byte ends_early l p t = absurd (omega arith)
  of-a-byte (not_known {w} {ws} {b} {s} is) l p t = ap (λ j. placed p j (λ more. first_fault sc (more ++ ws) t (suc p))) is
  of-a-byte (of_wrong_type {w} {ws} {b} {s} is) l p t = ap (λ j. placed p j (λ more. first_fault sc (more ++ ws) t (suc p))) is

  -- 3 and 18 are
  at-a-byte : {ws : List Awaited} {s : List ℕ} {n : ℕ} → FaultKind ws s n → ¬ (n ≡ wrong_end) → 0 < length s
  at-a-byte left_over h = absurd (h refl)
  at-a-byte ends_early h = absurd (h refl)
  at-a-byte (not_known is) h = omega arith
  at-a-byte (of_wrong_type is) h = omega arith

  -- the numbers of faults in an expression
  one_of_three : {ws : List Awaited} {s : List ℕ} {n : ℕ} → FaultKind ws s n → InExpression n
  one_of_three left_over = inr (inr refl)
  one_of_three ends_early = inr (inr refl)
  one_of_three (not_known is) = inl refl
  one_of_three (of_wrong_type is) = inr (inl refl)

  pub shown-at : (ws : List Awaited) (s : List ℕ) (at : ℕ) {n p : ℕ} → first_fault sc ws s at ≡ faulty n p
      → ShownAt (first_fault sc ws) s at n p
  shown-at ws s at {n} {p} e = record {
    number = one_of_three f.kind;
    from = omega (arith, f.place);
    within = omega (arith, f.place, f.within);
    on_a_byte = λ h. omega (arith, at-a-byte f.kind h, left, f.place);
    same = λ l t.
        let k : suc p - at ≡ suc f.taken = omega (arith, f.place) in
        ap (λ k. first_fault sc ws (take k s ++ t) at) k
        ∙ ap (λ l. first_fault sc ws l at) (ap (λ l. l ++ t) (take_next f.taken s) ∙ append_assoc (take f.taken s) (take 1 rest) t)
        ∙ f.reached (take 1 rest ++ t)
        ∙ of-a-byte f.kind (omega (arith, left, l, f.place)) p t;
  }
    where
      f : Course ws s at n p
      f = course s ws at n p e

      rest : List ℕ
      rest = drop f.taken s

      left : length rest ≡ length s - f.taken
      left = length-drop f.taken s

  -- but for bytes left over, something is awaited
  abbrev Some : List Awaited → Type 0
  Some [] = ⊥
  Some (w ∷ ws) = Unit {0}

  awaited-at-byte : {ws : List Awaited} {s : List ℕ} {n : ℕ} → FaultKind ws s n → ¬ (n ≡ wrong_end) → Some ws
  awaited-at-byte left_over h = absurd (h refl)
  awaited-at-byte ends_early h = absurd (h refl)
  awaited-at-byte (not_known is) h = tt
  awaited-at-byte (of_wrong_type is) h = tt

  awaited-at-end : {ws : List Awaited} {s : List ℕ} {n : ℕ} → FaultKind ws s n → length s ≡ 0 → Some ws
  awaited-at-end left_over e = absurd (omega arith)
  awaited-at-end ends_early e = tt
  awaited-at-end (not_known is) e = tt
  awaited-at-end (of_wrong_type is) e = tt

  none-awaited : {ws : List Awaited} {s : List ℕ} {n : ℕ} → FaultKind ws s n → n ≡ wrong_end → 0 < length s → ws ≡ []
  none-awaited left_over e l = refl
  none-awaited ends_early e l = absurd (omega arith)
  none-awaited (not_known is) e l = absurd (omega arith)
  none-awaited (of_wrong_type is) e l = absurd (omega arith)

  some-filled : (ws : List Awaited) → Some ws → 0 < length (fill ws)
  some-filled [] h = absurd h
  some-filled (w ∷ ws) h = fill-some w ws

  nothing_left : (p : ℕ) → first_fault sc [] [] p ≡ sound
  unfolding first_fault
  nothing_left p = refl

  module _ (own : 0 < sc.owns) (ws : List Awaited) (possible : Open sc ws) (whole : List ℕ → Bool)
      (is_whole : (s : List ℕ) → first_fault sc ws s 0 ≡ sound → whole s ≡ true)
      (is_none : (s : List ℕ) (n p : ℕ) → first_fault sc ws s 0 ≡ faulty n p → whole s ≡ false) where
    exact : (s : List ℕ) (n p : ℕ) → first_fault sc ws s 0 ≡ faulty n p → ExactByte whole (λ s. first_fault sc ws s 0) s n p
    exact s n p e = record {
      number = shown.number;
      within = omega (arith, shown.within);
      same = again;
      never = λ l t. is_none (take (suc p) s ++ t) n p (again l t);
      on_a_byte = λ h. omega (arith, shown.on_a_byte h);
      completes = λ h. completed (awaited-at-byte f.kind h);
      ends_early = λ h.
          subst (λ l. Completed whole l) (ap (λ k. take k s) h ∙ take-length s)
          (completed (awaited-at-end f.kind (omega (arith, left, h))));
      left_over = λ h l. is_whole (take p s) (nothing-more (none-awaited f.kind h (omega (arith, left, l))));
    }
      where
        shown : ShownAt (first_fault sc ws) s 0 n p
        shown = shown-at ws s 0 e

        f : Course ws s 0 n p
        f = course s ws 0 n p e

        place_is : f.taken ≡ p
        place_is = omega (arith, f.place)

        left : length (drop f.taken s) ≡ length s - p
        left = length-drop f.taken s ∙ ap (λ k. length s - k) place_is

        reach : (t : List ℕ) → first_fault sc ws (take p s ++ t) 0 ≡ first_fault sc f.awaited t p
        reach t = subst (λ k. first_fault sc ws (take k s ++ t) 0 ≡ first_fault sc f.awaited t p) place_is (f.reached t)

        again : p < length s → (t : List ℕ) → first_fault sc ws (take (suc p) s ++ t) 0 ≡ faulty n p
        again l t =
            let k : suc p ≡ suc p - 0 = omega arith in
            ap (λ k. first_fault sc ws (take k s ++ t) 0) k ∙ shown.same (omega arith) t

        completed : Some f.awaited → Completed whole (take p s)
        completed h = record {
          more = fill f.awaited;
          bytes = fill-bytes f.awaited;
          some = some-filled f.awaited h;
          sound =
              is_whole (take p s ++ fill f.awaited)
              (reach (fill f.awaited) ∙ fill-sound sc f.awaited (f.possible own possible) p);
        }

        nothing-more : f.awaited ≡ [] → first_fault sc ws (take p s) 0 ≡ sound
        nothing-more a =
            ap (λ l. first_fault sc ws l 0) (sym (append-nil (take p s))) ∙ reach [] ∙ ap (λ ws. first_fault sc ws [] p) a ∙ nothing_left p

-- the same fault of the bytes alone
pub fault-at-0 : (sc : Scope) (ws : List Awaited) (s : List ℕ) (at : ℕ) {n p : ℕ} → first_fault sc ws s at ≡ faulty n p
    → first_fault sc ws s 0 ≡ faulty n (p - at)
fault-at-0 sc ws s at {n} {p} e = go (first_fault sc ws s 0) (sym (fault-from-0 sc at s ws) ∙ e)
  where
    go : (f : Found) → moved at f ≡ faulty n p → f ≡ faulty n (p - at)
    go sound h = sound≢faulty h
    go (faulty m q) h =
        let place : q ≡ p - at = omega (arith, ap place_of h) in
        ap₂ faulty (ap number_of h) place

-- ---- whole numbers and truths

module _ (sc : Scope) (own : 0 < sc.owns) (s : List ℕ) (n p : ℕ) where
  pub num-exact-byte : num_fault sc s 0 ≡ faulty n p → ExactByte (λ s. is_got (whole_num sc s)) (λ s. num_fault sc s 0) s n p
  num-exact-byte =
      exact sc own (a_number ∷ []) (tt, tt) (λ s. is_got (whole_num sc s))
      (λ s. got-if-sound (whole_num sc s) (num_fault sc s 0) (num-agrees sc s 0))
      (λ s n p. nothing-if-faulty (whole_num sc s) (num_fault sc s 0) (num-agrees sc s 0)) s n p

  pub truth-exact-byte : truth_fault sc s 0 ≡ faulty n p → ExactByte (λ s. is_got (whole_truth sc s)) (λ s. truth_fault sc s 0) s n p
  truth-exact-byte =
      exact sc own (a_truth ∷ []) (tt, tt) (λ s. is_got (whole_truth sc s))
      (λ s. got-if-sound (whole_truth sc s) (truth_fault sc s 0) (truth-agrees sc s 0))
      (λ s n p. nothing-if-faulty (whole_truth sc s) (truth_fault sc s 0) (truth-agrees sc s 0)) s n p
