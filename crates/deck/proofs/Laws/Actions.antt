-- The reader of an action is exact: its targets are known channels, and none stands twice. Assumes nothing.
use Prim.Native.Nat.{ℕ, zero, suc}
use Rattle.std.specs.Prelude.{◌≡◌, false, ◌&&◌, ◌||◌, eqb}
use Rattle.std.proofs.Math.Path.{refl, sym, ap}
use Rattle.std.proofs.Common.{◌∙◌}
use Rattle.std.proofs.Math.Bool.{Bool, true, not}
use mathlib.Core.List.{List, [], ◌∷◌, ◌++◌, flat_map}
use Rattle.std.proofs.Math.Nat.{suc_inj, suc-ne-zero}
use Rattle.std.proofs.Math.Dec.{leb, ltb}
use Rattle.std.proofs.Math.ListN.{length}
use Rattle.lists.specs.Lists.{all_of, member, distinct, lists}
use Rattle.lists.specs.Laws.Booleans.{and_both, and_left, and_right}
use Rattle.lists.specs.Laws.Alls.{all_of-every}
use Rattle.lists.specs.Laws.Equalities.{eqb-sym}
use Rattle.refusals.specs.Numbers.{repeated_target, default_retired}
use Rattle.expression.specs.Syntax.{Num}
use Rattle.expression.specs.Reading.{Scope}
use Rattle.expression.specs.Encoding.{encode_num, good_num}
use Rattle.expression.proofs.Laws.Whole.{whole-num}
use Rattle.deck.specs.declared.Form.{Form}
use Rattle.deck.specs.Limits.{limits}
use Rattle.deck.specs.Deck.{Assignment, Action, targets, decks}
use Rattle.deck.specs.Reader.{readers}
use Rattle.deck.specs.Layout.{numbers, assignments, action, layouts, own_only, allows, default_action}
use Rattle.deck.specs.Encoding.{encode_expression, encode_assignment, encode_action, good_assignment, good_action, encodings}
use Rattle.deck.proofs.Laws.Exact.{Exact, Any, Coded, exact-by, give-exact, here-exact, expect-exact, then-exact}
use Rattle.deck.proofs.Laws.Readers.{number-exact, nil-exact, cons-exact}
use Rattle.deck.proofs.Laws.Expressions.{below-range, zero-range, expression-exact}

-- ---- targets that stand once

-- no target of the action is among ts
abbrev Apart : List ℕ → Action → Bool
Apart ts a = all_of (λ s. not (member s.target ts)) a

exchange : (e m k n : Bool) → (not (e || m) && (not k && n)) ≡ (not (e || k) && (not m && n))
exchange true m k n = refl
exchange false true true n = refl
exchange false true false n = refl
exchange false false true n = refl
exchange false false false n = refl

apart : (t : ℕ) (ts : List ℕ) (a : Action) → Apart (t ∷ ts) a ≡ (not (member t (targets a)) && Apart ts a)
unfolding lists decks
apart t ts [] = refl
apart t ts (s ∷ a) =
    rw (apart t ts a, eqb-sym t s.target)
    (exchange (eqb s.target t) (member s.target ts) (member t (targets a)) (Apart ts a))

apart_none : (a : Action) → Apart [] a ≡ true
unfolding lists
apart_none a = all_of-every (λ s. not (member s.target [])) (λ s. refl) a

-- ---- the readers

module _ (sc : Scope) where
  -- n good assignments whose targets stand once, and not among ts
  abbrev Assigns : ℕ → List ℕ → Action → Type 0
  Assigns n ts a = (length a ≡ n) × (all_of (good_assignment sc) a ≡ true) × (distinct (targets a) ≡ true) × (Apart ts a ≡ true)

  assigns-cons : (n : ℕ) (ts : List ℕ) (s : Assignment) (a : Action)
      → (good_assignment sc s ≡ true) × (not (member s.target ts) ≡ true) → Assigns n (s.target ∷ ts) a
      → Assigns (suc n) ts (s ∷ a)
  unfolding lists decks
  assigns-cons n ts s a p q =
      let h : (not (member s.target (targets a)) && Apart ts a) ≡ true = sym (apart s.target ts a) ∙ q.3 in
      let free = not (member s.target (targets a)) in
      (ap suc q.0, and_both p.0 q.1, and_both (and_left free _ h) q.2, and_both p.1 (and_right free _ h))

  assigns-parts : (n : ℕ) (ts : List ℕ) (s : Assignment) (a : Action) → Assigns (suc n) ts (s ∷ a)
      → ((good_assignment sc s ≡ true) × (not (member s.target ts) ≡ true)) × Assigns n (s.target ∷ ts) a
  unfolding lists decks
  assigns-parts n ts s a q =
      let free = not (member s.target (targets a)) in
      let new = not (member s.target ts) in (
        (and_left (good_assignment sc s) _ q.1, and_left new _ q.3),
        (
          suc_inj q.0,
          and_right (good_assignment sc s) _ q.1,
          and_right free _ q.2,
          apart s.target ts a ∙ and_both (and_left free _ q.2) (and_right new _ q.3),
        ),
      )

  assignments-exact : (n : ℕ) (ts : List ℕ) → Exact Any (assignments sc n ts) (Coded (flat_map encode_assignment) (Assigns n ts))
  unfolding layouts readers lists decks encodings
  assignments-exact zero ts = nil-exact encode_assignment _ (refl, refl, refl, refl) (λ s a q. suc-ne-zero _ q.0)
  assignments-exact (suc n) ts =
      cons-exact encode_assignment (λ s. (good_assignment sc s ≡ true) × (not (member s.target ts) ≡ true)) (λ s. Assigns n (s.target ∷ ts)) _
      (λ q. suc-ne-zero _ (sym q.0))
      (assigns-cons n ts)
      (assigns-parts n ts)
      (exact-by
      (here-exact λ p.
      then-exact (number-exact 0 sc.owns) λ t.
      expect-exact (not (member t ts)) repeated_target p (then-exact (expression-exact (numbers sc) (whole-num sc)) λ e.
      then-exact (assignments-exact n (t ∷ ts)) λ a.
      give-exact (record { target = t; value = e } ∷ a)))
      (λ at a w _ p.
      let t : ℕ = p.0 in
      let e : Num = p.4.1.0 in
      let good = and_both (sym (below-range sc.owns t) ∙ p.3) p.4.1.3.0 in (
        record { target = t; value = e },
        p.4.1.1,
        p.2
            ∙ ap (λ v. t ∷ v) p.4.1.2,
        (and_both good p.4.1.3.1, p.4.0),
        p.4.1.4,
      ))
      (λ at a w q.
      let s : Assignment = q.0 in
      let known : Bool = ltb s.target sc.owns in
      let good = and_left (known && good_num sc s.value) _ q.3.0 in (
        s.target,
        encode_expression (encode_num s.value) ++ q.1,
        q.2,
        below-range sc.owns s.target ∙ and_left known _ good,
        (q.3.1, (s.value, q.1, refl, (and_right known _ good, and_right (known && good_num sc s.value) _ q.3.0), q.4)),
      )))

  pub action-exact : Exact Any (action sc) (Coded encode_action (λ a. good_action sc a ≡ true))
  unfolding layouts readers lists decks encodings
  action-exact =
      exact-by (then-exact (number-exact 0 (suc limits.assignments)) λ n. assignments-exact n [])
      (λ at a w _ p.
      let few : leb (length a) limits.assignments ≡ true = rw p.4.0.0 (sym (zero-range limits.assignments p.0) ∙ p.3) in
      (and_both (and_both few p.4.0.1) p.4.0.2, p.2 ∙ rw (p.4.1, p.4.0.0)))
      (λ at a w q.
      let few : Bool = leb (length a) limits.assignments in
      let good = and_left (few && all_of (good_assignment sc) a) _ q.0 in (
        length a,
        flat_map encode_assignment a,
        q.1,
        zero-range limits.assignments (length a) ∙ and_left few _ good,
        ((refl, and_right few _ good, and_right (few && all_of (good_assignment sc) a) _ q.0, apart_none a), refl),
      ))

-- a default action: a new deck has the empty one
pub default-exact : (f : Form) (R : ℕ)
    → Exact Any (default_action f R) (Coded encode_action (λ a. (good_action (own_only R) a && allows f (length a)) ≡ true))
unfolding layouts readers lists decks encodings
default-exact f R =
    exact-by
    (here-exact λ p.
    then-exact (number-exact 0 (suc limits.assignments)) λ n.
    expect-exact (allows f n) default_retired p (assignments-exact (own_only R) n []))
    (λ at a w _ p.
    let few : leb (length a) limits.assignments ≡ true = rw p.4.1.0.0 (sym (zero-range limits.assignments p.0) ∙ p.3) in
    let sound = and_both (and_both few p.4.1.0.1) p.4.1.0.2 in
    (and_both sound (rw p.4.1.0.0 p.4.0), p.2 ∙ rw (p.4.1.1, p.4.1.0.0)))
    (λ at a w q.
    let few : Bool = leb (length a) limits.assignments in
    let tests : Bool = few && all_of (good_assignment (own_only R)) a in
    let sound = and_left (good_action (own_only R) a) (allows f (length a)) q.0 in
    let good = and_left tests _ sound in (
      length a,
      flat_map encode_assignment a,
      q.1,
      zero-range limits.assignments (length a) ∙ and_left few _ good,
      (
        and_right (good_action (own_only R) a) (allows f (length a)) q.0,
        ((refl, and_right few _ good, and_right tests _ sound, apart_none a), refl),
      ),
    ))
