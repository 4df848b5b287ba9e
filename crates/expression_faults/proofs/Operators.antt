-- What the search answers by the operator that stands at a place, from what it answers for its operands; of whole bytes; and of a
-- part of the bytes. Assumes nothing.
use Prim.Native.Nat.{ℕ, ◌+◌, ◌<◌, ◌≤◌}
use mathlib.Core.Path.{◌≡◌, refl, sym, ap, ap₂, subst, ◌∙◌}
use mathlib.Core.Bool.{Bool, cond}
use mathlib.Core.List.{List, [], ◌∷◌}
use native.Mathlib.Omega.{arith}
use lib.ListN.{length, get_or, drop_of_length-le}
use lib.Seq.{drop-cons}
use borrow.Author.Tests.{ne_eqb}
use Rattle.std.specs.Prelude.{Ok, Err}
use Rattle.refusals.specs.declared.Refusal.TheVariants.{WrongType, WrongEnd}
use Rattle.refusals.specs.declared.Fault.{Fault}
use Rattle.refusals.specs.Outcome.{Outcome, refused, accepted}
use Rattle.expression.specs.Reading.{Scope, num_op, truth_op}
use Rattle.expression.specs.declared.Arith.{Arith}
use Rattle.expression.specs.declared.Join.{Join}
use Rattle.expression.specs.declared.Compare.{Compare}
use Rattle.expression.specs.declared.NumOp.{NumOp}
use Rattle.expression.specs.declared.NumOp.TheVariants as OfNum
use Rattle.expression.specs.declared.TruthOp.{TruthOp}
use Rattle.expression.specs.declared.TruthOp.TheVariants as OfTruth
use Rattle.expression.specs.Faults.{Awaited, a_number, a_truth, an_own_channel, a_far_channel, mistyped, asks_for}
use Rattle.expression.specs.Faults.{if_far_allowed, other_truth, other_number, as_number, as_truth, judgement}
use Rattle.expression.specs.Faults.{Found, sound, faulty, first_fault}
use Rattle.expression.specs.Searching.{Search, fault, Searched, LiteralSearched, ChannelSearched, WholeSearched}
use Rattle.expression.specs.Searching.{refused_at, answer_for}
use Rattle.expression.proofs.Laws.Searches.{none-awaited, by-asking, by-mistyped, by-other-truth, by-other-number, by_two, by_first}
use Rattle.expression.proofs.Laws.Searches.{number-judged, truth-judged, own-judged, far-judged}
use Rattle.expression.proofs.Laws.Sound.{moved, fault-from-0}
use Rattle.expression.proofs.Laws.Exact.{shown-at}

-- a number, and a truth, at a place of s
abbrev ANumber : Scope → List ℕ → ℕ → Search → Type 0
ANumber sc s at r = Searched sc s (a_number ∷ []) at r

abbrev ATruth : Scope → List ℕ → ℕ → Search → Type 0
ATruth sc s at r = Searched sc s (a_truth ∷ []) at r

-- an operator, of a w, that has two operands, both of them v
module _ (sc : Scope) (s : List ℕ) (w v : Awaited) (at : ℕ) (h : at < length s)
    (e : judgement sc w (get_or s at 0) ≡ asks_for (v ∷ v ∷ [])) where
  second-answers : {n : ℕ} → Searched sc s (v ∷ []) (at + 1) (Ok n) → {r : Search} → Searched sc s (v ∷ []) n r
      → Searched sc s (w ∷ []) at r
  second-answers t {r} u = by-asking sc s w at h e r (by_two sc s v (v ∷ []) (at + 1) t r u)

  first-answers : {f : Fault} → Searched sc s (v ∷ []) (at + 1) (Err f) → Searched sc s (w ∷ []) at (Err f)
  first-answers {f} t = by-asking sc s w at h e (Err f) (by_first sc s v (v ∷ []) (at + 1) t)

-- the operator `op` stands at a place of s
pub record Here {Op : Type 0} (of : ℕ → Op) (sc : Scope) (s : List ℕ) (at : ℕ) (op : Op) : Type 0 where
  pub inside : at < length s
  pub is : op ≡ of (get_or s at 0)

module _ {sc : Scope} {s : List ℕ} {at : ℕ} {op : NumOp} (h : Here num_op sc s at op) where
  judged-as : (o : NumOp) → op ≡ o → judgement sc a_number (get_or s at 0) ≡ as_number sc o (other_truth (truth_op (get_or s at 0)))
  judged-as o e = number-judged sc s at o (sym h.is ∙ e)

  pub as-literal : op ≡ OfNum.Literal → {r : Search} → LiteralSearched s (at + 1) r → ANumber sc s at r
  as-literal e {r} t = by-asking sc s a_number at h.inside (judged-as OfNum.Literal e) r (t sc)

  pub as_own : op ≡ OfNum.Own → {r : Search} → ChannelSearched s sc.owns (at + 1) r → ANumber sc s at r
  as_own e {r} t = by-asking sc s a_number at h.inside (judged-as OfNum.Own e) r (t sc an_own_channel (own-judged sc s))

  pub as-far : op ≡ OfNum.Far → ¬ (sc.fars ≡ 0) → {r : Search} → ChannelSearched s sc.fars (at + 1) r → ANumber sc s at r
  as-far e some {r} t =
      let stands = ap (λ b. cond b mistyped (asks_for (a_far_channel ∷ []))) (ne_eqb sc.fars 0 some) in
      by-asking sc s a_number at h.inside (judged-as OfNum.Far e ∙ stands) r (t sc a_far_channel (far-judged sc s))

  pub as-no-far : op ≡ OfNum.Far → sc.fars ≡ 0 → ANumber sc s at (Err (fault WrongType at))
  as-no-far e none = by-mistyped sc s a_number at h.inside (judged-as OfNum.Far e ∙ ap if_far_allowed none)

  pub as-negation : op ≡ OfNum.Negation → {r : Search} → ANumber sc s (at + 1) r → ANumber sc s at r
  as-negation e {r} t = by-asking sc s a_number at h.inside (judged-as OfNum.Negation e) r t

  pub as-two : {k : Arith} → op ≡ OfNum.Two k → {n : ℕ} → ANumber sc s (at + 1) (Ok n) → {r : Search} → ANumber sc s n r
      → ANumber sc s at r
  as-two {k} e = second-answers sc s a_number a_number at h.inside (judged-as (OfNum.Two k) e)

  pub as-two-first : {k : Arith} → op ≡ OfNum.Two k → {f : Fault} → ANumber sc s (at + 1) (Err f) → ANumber sc s at (Err f)
  as-two-first {k} e = first-answers sc s a_number a_number at h.inside (judged-as (OfNum.Two k) e)

  pub as-no-number : op ≡ OfNum.Unknown → {r : Search} → r ≡ refused_at at (other_truth (truth_op (get_or s at 0))) → ANumber sc s at r
  as-no-number e is =
      subst (ANumber sc s at) (sym is) (by-other-truth sc s a_number at h.inside (truth_op (get_or s at 0)) (judged-as OfNum.Unknown e))

module _ {sc : Scope} {s : List ℕ} {at : ℕ} {op : TruthOp} (h : Here truth_op sc s at op) where
  judged-to : (o : TruthOp) → op ≡ o → judgement sc a_truth (get_or s at 0) ≡ as_truth o (other_number (num_op (get_or s at 0)))
  judged-to o e = truth-judged sc s at o (sym h.is ∙ e)

  pub as-constant : {b : Bool} → op ≡ OfTruth.Constant b → ATruth sc s at (Ok (at + 1))
  as-constant {b} e =
      by-asking sc s a_truth at h.inside (judged-to (OfTruth.Constant b) e) (Ok (at + 1))
      (none-awaited sc s (at + 1) (omega (arith, h.inside)))

  pub as-not : op ≡ OfTruth.Not → {r : Search} → ATruth sc s (at + 1) r → ATruth sc s at r
  as-not e {r} t = by-asking sc s a_truth at h.inside (judged-to OfTruth.Not e) r t

  pub as-both : {k : Join} → op ≡ OfTruth.Both k → {n : ℕ} → ATruth sc s (at + 1) (Ok n) → {r : Search} → ATruth sc s n r
      → ATruth sc s at r
  as-both {k} e = second-answers sc s a_truth a_truth at h.inside (judged-to (OfTruth.Both k) e)

  pub as-both-first : {k : Join} → op ≡ OfTruth.Both k → {f : Fault} → ATruth sc s (at + 1) (Err f) → ATruth sc s at (Err f)
  as-both-first {k} e = first-answers sc s a_truth a_truth at h.inside (judged-to (OfTruth.Both k) e)

  pub as-compared : {k : Compare} → op ≡ OfTruth.Two k → {n : ℕ} → ANumber sc s (at + 1) (Ok n) → {r : Search} → ANumber sc s n r
      → ATruth sc s at r
  as-compared {k} e = second-answers sc s a_truth a_number at h.inside (judged-to (OfTruth.Two k) e)

  pub as-compared-first : {k : Compare} → op ≡ OfTruth.Two k → {f : Fault} → ANumber sc s (at + 1) (Err f)
      → ATruth sc s at (Err f)
  as-compared-first {k} e = first-answers sc s a_truth a_number at h.inside (judged-to (OfTruth.Two k) e)

  pub as-no-truth : op ≡ OfTruth.Unknown → {r : Search} → r ≡ refused_at at (other_number (num_op (get_or s at 0))) → ATruth sc s at r
  as-no-truth e is =
      subst (ATruth sc s at) (sym is) (by-other-number sc s a_truth at h.inside (num_op (get_or s at 0)) (judged-to OfTruth.Unknown e))

-- ---- whole bytes

module _ (s : List ℕ) where
  pub whole-left : {n : ℕ} → n < length s → WholeSearched s (Ok n) (Err (fault WrongEnd n))
  unfolding first_fault
  whole-left {n} l sc w t = ap (answer_for (length s)) (sym (t.says.2 [] ∙ ap (λ z. first_fault sc [] z n) (drop-cons s n 0 l)))

  pub whole-sound : {n : ℕ} → length s ≤ n → WholeSearched s (Ok n) (Ok n)
  unfolding first_fault
  whole-sound {n} l sc w t =
      let e : n ≡ length s = omega (arith, t.says.1) in
      ap accepted e ∙ ap (answer_for (length s)) (sym (t.says.2 [] ∙ ap (λ z. first_fault sc [] z n) (drop_of_length-le s l)))

  pub whole-faulty : {f : Fault} → WholeSearched s (Err f) (Err f)
  whole-faulty sc w t = ap (answer_for (length s)) (sym (t.says []))

-- ---- a part of the bytes

abbrev IsRefused : {A : Type 0} → Outcome A → Type 0
IsRefused (refused k p) = Unit {0}
IsRefused (accepted a) = ⊥

abbrev number_in : {A : Type 0} → Outcome A → ℕ
number_in (refused k p) = k
number_in (accepted a) = 0

abbrev place_in : {A : Type 0} → Outcome A → ℕ
place_in (refused k p) = p
place_in (accepted a) = 0

sound-answer : (n m : ℕ) (f : Found) → accepted m ≡ answer_for n f → f ≡ sound
sound-answer n m sound e = refl
sound-answer n m (faulty k p) e = absurd (subst (λ r. IsRefused r) (sym e) tt)

faulty-answer : (n k p : ℕ) (f : Found) → refused k p ≡ answer_for n f → f ≡ faulty k p
faulty-answer n k p sound e = absurd (subst (λ r. IsRefused r) e tt)
faulty-answer n k p (faulty l q) e = ap₂ faulty (ap number_in (sym e)) (ap place_in (sym e))

module _ (sc : Scope) (ws : List Awaited) (t : List ℕ) (from to : ℕ) where
  -- what is found of the bytes alone, and where they stand
  abbrev alone : Found
  alone = first_fault sc ws t 0

  abbrev there : Found
  there = first_fault sc ws t from

  pub part_sound : {m : ℕ} → accepted m ≡ answer_for (length t) alone → accepted to ≡ answer_for to there
  part_sound {m} e = ap (answer_for to) (sym (fault-from-0 sc from t ws ∙ ap (moved from) (sound-answer (length t) m alone e)))

  pub part-faulty : {k p : ℕ} → refused k p ≡ answer_for (length t) alone → refused k (from + p) ≡ answer_for to there
  part-faulty {k} {p} e = ap (answer_for to) (sym (fault-from-0 sc from t ws ∙ ap (moved from) (faulty-answer (length t) k p alone e)))

  pub part-within : {k p : ℕ} → refused k p ≡ answer_for (length t) alone → p ≤ length t
  part-within {k} {p} e = omega (arith, (shown-at sc ws t 0 (faulty-answer (length t) k p alone e)).within)
