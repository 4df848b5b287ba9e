-- Laws of reading an action in turns, one assignment a turn, with the targets so far as a set. Assumes nothing.
use Rattle.std.specs.Prelude.{ℕ, suc, ◌+◌, ◌-◌, ◌≤◌, ◌<◌, ◌^◌, ◌≡◌, refl, not, ◌||◌, eqb, length, drop, Ok, Err}
use Rattle.std.proofs.Math.Path.{sym, ap, ap₂, subst}
use Rattle.std.proofs.Common.{◌∙◌, arith}
use Rattle.std.proofs.Math.Bool.{or_comm}
use mathlib.Core.List.{List, [], ◌∷◌, map-append}
use Rattle.std.specs.Int.Bits.{bit_or}
use Rattle.lists.specs.Lists.{member, lists}
use Rattle.lists.specs.Bits.{bit, mask_of}
use Rattle.lists.specs.Laws.Bits.{bit-or, bit-zero, bit-power, mask-add, mask-empty}
use Rattle.refusals.specs.Outcome.{Outcome, refused, accepted}
use Rattle.refusals.specs.Numbers.{repeated_target}
use Rattle.refusals.specs.Declined.{fault_outcome}
use Rattle.refusals.specs.declared.Fault.{Fault}
use Rattle.expression.specs.Reading.{Scope}
use Rattle.deck.specs.Deck.{Assignment, Action, targets}
use Rattle.deck.specs.Reader.{Got, Reader, and_then, expect, number, readers}
use Rattle.deck.specs.Layout.{numbers, expression, assignments, action}
use Rattle.deck.specs.Marks.{Reads, ReadsAssignment, assignment}
use Rattle.deck.proofs.Laws.Turns.{Turns, first, turns-none, turn-next, turn-fault, turn_end}
use Rattle.deck.proofs.Laws.Offsets.{got_to, then_next, then-fault}

-- readings in a row, bracketed the other way
then-then : {A B C : Type 0} (o : Outcome (Got A)) (f : A → Reader C) (g : A → Reader B) (k : B → Reader C)
    → ((a : A) (s : List ℕ) (at : ℕ) → f a s at ≡ and_then (g a s at) k) → and_then o f ≡ and_then (and_then o g) k
unfolding and_then
then-then (refused n p) f g k e = refl
then-then (accepted x) f g k e = e x.value x.rest x.at

-- n assignments after the assignment a
abbrev others : Scope → ℕ → List ℕ → Assignment → Reader Action
others sc n ts a = assignments sc n (a.target ∷ ts)

-- one assignment, and the others by its target
assignments-first : (sc : Scope) (n : ℕ) (ts : List ℕ) (s : List ℕ) (at : ℕ)
    → assignments sc (suc n) ts s at ≡ first (assignment sc ts) (others sc n ts) s at
unfolding assignments assignment readers
assignments-first sc n ts s at =
    then-then (number 0 sc.owns s at) _ _ _
    (λ t s' at'.
    then-then (expect (not (member t ts)) repeated_target at s' at') _ _ _
    (λ _ s' at'. then-then (expression (numbers sc) s' at') _ _ _ (λ e s' at'. refl)))

-- o is what reading an action comes to. So far assignments were read whose targets are the set `mask`, and also the list ts;
-- n assignments are left, from `place` on
pub record Assigning (sc : Scope) (o : Outcome (Got Action)) (n : ℕ) (s : List ℕ) (place mask : ℕ) : Type 0 where
  pub ts : List ℕ
  pub same : (c : ℕ) → bit mask c ≡ member c ts
  pub turns : Turns o (assignments sc n ts (drop place s) place) (λ a. mask ≡ mask_of (targets a))

-- the count
module _ (sc : Scope) (s : List ℕ) (at : ℕ) where
  pub action-fault : {n p : ℕ} → number 0 5 (drop at s) at ≡ refused n p → action sc (drop at s) at ≡ refused n p
  unfolding action readers
  action-fault e = then-fault _ e

  pub action-none : {n place : ℕ} → number 0 5 (drop at s) at ≡ accepted (got_to s n place)
      → Assigning sc (action sc (drop at s) at) n s place 0
  unfolding action readers lists targets
  action-none {n} {place} e =
      record {
        ts = [];
        same = bit-zero;
        turns = subst (λ o. Turns o (assignments sc n [] (drop place s) place) (λ a. 0 ≡ mask_of (targets a))) (sym (then_next _ e))
            (turns-none (sym ((mask-empty []).1 refl)));
      }

-- turn i of `count`
module _ {sc : Scope} {o : Outcome (Got Action)} (count i : ℕ) (s : List ℕ) (place mask : ℕ) where
  left : i < count → (w : Assigning sc o (count - i) s place mask)
      → Turns o (first (assignment sc w.ts) (others sc (count - (i + 1)) w.ts) (drop place s) place) (λ a. mask ≡ mask_of (targets a))
  left h w =
      let k : count - i ≡ suc (count - (i + 1)) = omega arith in
      subst (λ l. Turns o l (λ a. mask ≡ mask_of (targets a)))
      (ap (λ n. assignments sc n w.ts (drop place s) place) k ∙ assignments-first sc (count - (i + 1)) w.ts (drop place s) place)
      w.turns

  -- with an assignment to t
  pub assigning-next : (t : ℕ) {next : ℕ} → i < count → ReadsAssignment sc s place mask (Ok (record { value = t; next = next }))
      → Assigning sc o (count - i) s place mask → Assigning sc o (count - (i + 1)) s next (bit_or mask (2 ^ t))
  unfolding lists targets
  assigning-next t {next} h r w =
      let x = r w.ts w.same in
      record {
        ts = x.0.target ∷ w.ts;
        same = λ c.
            bit-or mask (2 ^ t) c
            ∙ ap₂ (λ a b. a || b) (w.same c) (bit-power t c ∙ ap (eqb c) x.3.0)
            ∙ or_comm (member c w.ts) (eqb c x.0.target);
        turns = turn-next (assignment sc w.ts) (others sc (count - (i + 1)) w.ts) (drop place s) place x.1
            (λ l e.
            ap₂ (λ m c. bit_or m (2 ^ c)) e x.3.0
            ∙ sym (mask-add (targets l) x.0.target)
            ∙ ap mask_of (sym (map-append (λ a. a.target) l (x.0 ∷ []))))
            (left h w);
      }

  pub assigning-fault : (f : Fault) → i < count → ReadsAssignment sc s place mask (Err f)
      → Assigning sc o (count - i) s place mask → o ≡ fault_outcome f
  assigning-fault f h r w =
      turn-fault (assignment sc w.ts) (others sc (count - (i + 1)) w.ts) (drop place s) place (r w.ts w.same) (left h w)

pub assigning-end : {sc : Scope} {o : Outcome (Got Action)} (count i : ℕ) (s : List ℕ) (place mask : ℕ) → count ≤ i → place ≤ length s
    → Assigning sc o (count - i) s place mask → Reads s o (λ a. mask ≡ mask_of (targets a)) (Ok place)
unfolding assignments
assigning-end {sc} {o} count i s place mask h b w =
    let k : count - i ≡ 0 = omega arith in
    turn_end s place b (subst (λ n. Turns o (assignments sc n w.ts (drop place s) place) (λ a. mask ≡ mask_of (targets a))) k w.turns)
