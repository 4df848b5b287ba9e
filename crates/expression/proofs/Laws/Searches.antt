-- What is found from a place on, by the byte that stands there and by what is found of the values behind it: so the search for a
-- fault goes, and so does the reading of an expression. Assumes nothing.
use Prim.Native.Nat.{ℕ, zero, suc, ◌+◌, ◌-◌, ◌<◌, ◌≤◌}
use Rattle.std.specs.Prelude.{◌≡◌, List, [], ◌∷◌, ◌++◌, ltb, length, get_or, drop, Ok, Err}
use Rattle.std.proofs.Math.Path.{refl, ap}
use Rattle.std.proofs.Common.{sym, subst, ◌∙◌, drop_of_length-le, drop-cons, lt-ltb, le-ltb}
use native.Mathlib.Omega.{arith}
use Rattle.refusals.specs.declared.Refusal.TheVariants.{UnknownByte, WrongType, WrongEnd}
use Rattle.refusals.specs.declared.Fault.{Fault}
use Rattle.expression.specs.Reading.{Scope, num_op, truth_op}
use Rattle.expression.specs.Faults.{Awaited, a_number, a_truth, an_own_channel, a_far_channel, a_literal_byte, four_bytes}
use Rattle.expression.specs.Faults.{Judgement, unknown, mistyped, asks_for, other_truth, other_number, as_number, as_truth}
use Rattle.expression.specs.Faults.{if_known, judgement, placed, first_fault}
use Rattle.expression.specs.Searching.{Search, fault, fault_from, Searched, LiteralSearched, ChannelSearched, refused_at}
use Rattle.expression.specs.declared.NumOp.{NumOp}
use Rattle.expression.specs.declared.NumOp.TheVariants as OfNum
use Rattle.expression.specs.declared.TruthOp.{TruthOp}
use Rattle.expression.specs.declared.TruthOp.TheVariants as OfTruth

-- ---- one byte

module _ (sc : Scope) (s : List ℕ) where
  -- no byte is left, and something is awaited
  pub missing : (w : Awaited) (vs : List Awaited) (at : ℕ) → length s ≤ at → Searched sc s (w ∷ vs) at (Err (fault WrongEnd at))
  unfolding first_fault
  missing w vs at h = record { says = λ ws. ap (λ t. first_fault sc (w ∷ vs ++ ws) t at) (drop_of_length-le s h) }

  -- nothing is awaited
  pub none-awaited : (at : ℕ) → at ≤ length s → Searched sc s [] at (Ok at)
  none-awaited at h = record { says = (omega arith, h, λ ws. refl) }

  next : (w : Awaited) (ws : List Awaited) (at : ℕ) → at < length s
      → fault_from sc s (w ∷ ws) at ≡ placed at (judgement sc w (get_or s at 0)) (λ more. fault_from sc s (more ++ ws) (at + 1))
  unfolding first_fault
  next w ws at h =
      let f : suc at ≡ at + 1 = omega arith in
      ap (λ t. first_fault sc (w ∷ ws) t at) (drop-cons s at 0 h)
      ∙ ap (λ k. placed at (judgement sc w (get_or s at 0)) (λ more. first_fault sc (more ++ ws) (drop k s) k)) f

  module _ (w : Awaited) (at : ℕ) (h : at < length s) where
    as-judged : (j : Judgement) → judgement sc w (get_or s at 0) ≡ j → (ws : List Awaited)
        → fault_from sc s (w ∷ ws) at ≡ placed at j (λ more. fault_from sc s (more ++ ws) (at + 1))
    as-judged j e ws = next w ws at h ∙ ap (λ j. placed at j (λ more. fault_from sc s (more ++ ws) (at + 1))) e

    -- it is taken: what is answered for what it asks for is answered for it
    pub by-asking : {us : List Awaited} → judgement sc w (get_or s at 0) ≡ asks_for us → (r : Search) → Searched sc s us (at + 1) r
        → Searched sc s (w ∷ []) at r
    by-asking e (Ok n) t = let u = t.says in record { says = (omega (arith, u.0), u.1, λ ws. as-judged _ e ws ∙ u.2 ws) }
    by-asking e (Err f) t = record { says = λ ws. as-judged _ e ws ∙ t.says ws }

    pub by-unknown : judgement sc w (get_or s at 0) ≡ unknown → Searched sc s (w ∷ []) at (Err (fault UnknownByte at))
    by-unknown e = record { says = as-judged unknown e }

    pub by-mistyped : judgement sc w (get_or s at 0) ≡ mistyped → Searched sc s (w ∷ []) at (Err (fault WrongType at))
    by-mistyped e = record { says = as-judged mistyped e }

    -- a byte that is no operator of the awaited type
    pub by-other-truth : (o : TruthOp) → judgement sc w (get_or s at 0) ≡ other_truth o
        → Searched sc s (w ∷ []) at (refused_at at (other_truth o))
    by-other-truth (OfTruth.Constant b) e = by-mistyped e
    by-other-truth OfTruth.Not e = by-mistyped e
    by-other-truth (OfTruth.Both k) e = by-mistyped e
    by-other-truth (OfTruth.Two k) e = by-mistyped e
    by-other-truth OfTruth.Unknown e = by-unknown e

    pub by-other-number : (o : NumOp) → judgement sc w (get_or s at 0) ≡ other_number o
        → Searched sc s (w ∷ []) at (refused_at at (other_number o))
    by-other-number OfNum.Literal e = by-mistyped e
    by-other-number OfNum.Own e = by-mistyped e
    by-other-number OfNum.Far e = by-mistyped e
    by-other-number (OfNum.Two k) e = by-mistyped e
    by-other-number OfNum.Negation e = by-mistyped e
    by-other-number OfNum.Unknown e = by-unknown e

  -- one value, and others behind it
  module _ (v : Awaited) (us : List Awaited) (at : ℕ) where
    pub by_two : {n : ℕ} → Searched sc s (v ∷ []) at (Ok n) → (r : Search) → Searched sc s us n r → Searched sc s (v ∷ us) at r
    by_two t (Ok m) u =
        let x = t.says in
        let y = u.says in
        record { says = (omega (arith, x.0, y.0), y.1, λ ws. x.2 (us ++ ws) ∙ y.2 ws) }
    by_two t (Err f) u = record { says = λ ws. t.says.2 (us ++ ws) ∙ u.says ws }

    pub by_first : {f : Fault} → Searched sc s (v ∷ []) at (Err f) → Searched sc s (v ∷ us) at (Err f)
    by_first t = record { says = λ ws. t.says (us ++ ws) }

  -- ---- what an operator asks for

  pub number-judged : (at : ℕ) (o : NumOp) → num_op (get_or s at 0) ≡ o
      → judgement sc a_number (get_or s at 0) ≡ as_number sc o (other_truth (truth_op (get_or s at 0)))
  unfolding judgement
  number-judged at o e = ap (λ o. as_number sc o (other_truth (truth_op (get_or s at 0)))) e

  pub truth-judged : (at : ℕ) (o : TruthOp) → truth_op (get_or s at 0) ≡ o
      → judgement sc a_truth (get_or s at 0) ≡ as_truth o (other_number (num_op (get_or s at 0)))
  unfolding judgement
  truth-judged at o e = ap (λ o. as_truth o (other_number (num_op (get_or s at 0)))) e

  pub own-judged : (b : ℕ) → judgement sc an_own_channel b ≡ if_known (ltb b sc.owns)
  unfolding judgement
  own-judged b = refl

  pub far-judged : (b : ℕ) → judgement sc a_far_channel b ≡ if_known (ltb b sc.fars)
  unfolding judgement
  far-judged b = refl

  a_byte : (at : ℕ) → at < length s → Searched sc s (a_literal_byte ∷ []) at (Ok (at + 1))
  unfolding judgement
  a_byte at h = by-asking a_literal_byte at h {us = []} refl (Ok (at + 1)) (none-awaited (at + 1) (omega arith))

-- ---- a literal's bytes

pub literal-ends : (s : List ℕ) (at : ℕ) → at + 4 ≤ length s → LiteralSearched s at (Ok (at + 4))
literal-ends s at h sc =
    let e : at + 1 + 1 + 1 + 1 ≡ at + 4 = omega arith in
    subst (λ n. Searched sc s four_bytes at (Ok n)) e
    (by_two sc s a_literal_byte _ at (a_byte sc s at (omega arith)) _
    (by_two sc s a_literal_byte _ (at + 1) (a_byte sc s (at + 1) (omega arith)) _
    (by_two sc s a_literal_byte _ (at + 1 + 1) (a_byte sc s (at + 1 + 1) (omega arith)) _
    (a_byte sc s (at + 1 + 1 + 1) (omega arith)))))

-- n of a literal's bytes are awaited, and fewer are left
few : (sc : Scope) (s : List ℕ) (vs : List Awaited) (k at : ℕ) → at + k ≡ length s → k < length vs
    → ((n : ℕ) → get_or vs n a_literal_byte ≡ a_literal_byte) → Searched sc s vs at (Err (fault WrongEnd (length s)))
few sc s [] k at e l only = absurd (omega arith)
few sc s (v ∷ vs) zero at e l only =
    subst (λ n. Searched sc s (v ∷ vs) at (Err (fault WrongEnd n))) (omega arith) (missing sc s v vs at (omega arith))
few sc s (v ∷ vs) (suc k) at e l only =
    subst (λ w. Searched sc s (w ∷ vs) at (Err (fault WrongEnd (length s)))) (sym (only 0))
    (by_two sc s a_literal_byte vs at (a_byte sc s at (omega arith)) (Err (fault WrongEnd (length s)))
    (few sc s vs k (at + 1) (omega arith) (omega arith) (λ n. only (suc n))))

pub literal-cut : (s : List ℕ) (at : ℕ) → at ≤ length s → length s - at < 4 → LiteralSearched s at (Err (fault WrongEnd (length s)))
literal-cut s at h l sc = few sc s four_bytes (length s - at) at (omega arith) l only
  where
    only : (n : ℕ) → get_or four_bytes n a_literal_byte ≡ a_literal_byte
    only zero = refl
    only (suc zero) = refl
    only (suc (suc zero)) = refl
    only (suc (suc (suc zero))) = refl
    only (suc (suc (suc (suc n)))) = refl

-- ---- a channel's byte

module _ (s : List ℕ) (n at : ℕ) where
  pub no-channel : length s ≤ at → ChannelSearched s n at (Err (fault WrongEnd at))
  no-channel h sc w is = missing sc s w [] at h

  pub a-channel : at < length s → get_or s at 0 < n → ChannelSearched s n at (Ok (at + 1))
  a-channel h l sc w is =
      by-asking sc s w at h {us = []} (is (get_or s at 0) ∙ ap if_known (lt-ltb (get_or s at 0) n l)) (Ok (at + 1))
      (none-awaited sc s (at + 1) (omega arith))

  pub unknown-channel : at < length s → n ≤ get_or s at 0 → ChannelSearched s n at (Err (fault UnknownByte at))
  unknown-channel h l sc w is = by-unknown sc s w at h (is (get_or s at 0) ∙ ap if_known (le-ltb (get_or s at 0) n l))
