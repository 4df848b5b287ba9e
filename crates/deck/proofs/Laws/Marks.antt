-- The reading with offsets is the reading, and what an offset points at is what was read there. Assumes nothing.
use Rattle.std.specs.Prelude.{ℕ, zero, suc, ◌≡◌, refl, List, map, eqb}
use Rattle.std.proofs.Common.{◌∙◌, ap}
use Rattle.refusals.specs.Outcome.{Outcome, refused, accepted}
use Rattle.deck.specs.declared.Form.{Form}
use Rattle.deck.specs.Reader.{Got, Reader, and_then, number, repeats, rising, value, end, readers, label}
use Rattle.deck.specs.Layout.{truths, expression, own_only, task_scope, action, rule, part, sections, value_of, read, default_action}
use Rattle.deck.specs.Marks.{marked_task, marked_rule, rule_of, marked_part, marked_front, marked_sections, unmarked}

-- ---- forgetting the offsets

-- a reader's outcome with f of its value
abbrev pub map_got : {A B : Type 0} → (A → B) → Outcome (Got A) → Outcome (Got B)
map_got f (refused n p) = refused n p
map_got f (accepted g) = accepted (record { value = f g.value; rest = g.rest; at = g.at })

-- one reading, and then two that agree
step : {A B C : Type 0} (h : C → B) (o : Outcome (Got A)) (f : A → Reader B) (g : A → Reader C)
    → ((a : A) (s : List ℕ) (at : ℕ) → f a s at ≡ map_got h (g a s at)) → and_then o f ≡ map_got h (and_then o g)
unfolding and_then
step h (refused n p) f g e = refl
step h (accepted x) f g e = e x.value x.rest x.at

-- the same where the second reading is bracketed the other way
step-inside : {A B C D : Type 0} (h : D → B) (o : Outcome (Got A)) (f : A → Reader B) (g : A → Reader C) (k : C → Reader D)
    → ((a : A) (s : List ℕ) (at : ℕ) → f a s at ≡ map_got h (and_then (g a s at) k)) → and_then o f ≡ map_got h (and_then (and_then o g) k)
unfolding and_then
step-inside h (refused n p) f g k e = refl
step-inside h (accepted x) f g k e = e x.value x.rest x.at

rule-marked : (f : Form) (R : ℕ) (s : List ℕ) (at : ℕ) → rule f R s at ≡ map_got rule_of (marked_rule f R s at)
unfolding rule marked_rule marked_task rule_of readers
rule-marked f R s at =
    step rule_of (number 1 9 s at) _ _
    (λ n s at.
    step rule_of (rising n 0 R s at) _ _
    (λ events s at.
    step rule_of (default_action f R s at) _ _
    (λ default s at.
    step-inside rule_of (number 0 2 s at) _ _ _
    (λ kind s at.
    step-inside rule_of (expression (truths (task_scope R (eqb kind 1))) s at) _ _ _
    (λ condition s at. step-inside rule_of (action (task_scope R (eqb kind 1)) s at) _ _ _ (λ act s at. refl))))))

part-marked : (R M : ℕ) (s : List ℕ) (at : ℕ) → part R M s at ≡ map_got (λ m. m.part) (marked_part R M s at)
unfolding part marked_part readers
part-marked R M s at =
    step (λ m. m.part) (repeats R value s at) _ _
    (λ opening s at.
    step (λ m. m.part) (number 0 (suc M) s at) _ _
    (λ n s at.
    step (λ m. m.part) (rising n 0 M s at) _ _
    (λ carried s at. step (λ m. m.part) (expression (truths (own_only R)) s at) _ _ (λ limit s at. refl))))

-- two readers that agree, one after the other
both-steps : {A B C D : Type 0} (h : B → A) (k : D → C) (o : Outcome (Got A)) (p : Outcome (Got B)) (f : A → Reader C) (g : B → Reader D)
    → o ≡ map_got h p → ((b : B) (s : List ℕ) (at : ℕ) → f (h b) s at ≡ map_got k (g b s at)) → and_then o f ≡ map_got k (and_then p g)
unfolding and_then
both-steps h k o (refused n p) f g e agree = ap (λ o. and_then o f) e
both-steps h k o (accepted x) f g e agree = ap (λ o. and_then o f) e ∙ agree x.value x.rest x.at

both-inside : {A B C D E : Type 0} (h : B → A) (k : E → C) (o : Outcome (Got A)) (p : Outcome (Got B)) (f : A → Reader C) (g : B
    → Reader D) (q : D → Reader E)
    → o ≡ map_got h p → ((b : B) (s : List ℕ) (at : ℕ) → f (h b) s at ≡ map_got k (and_then (g b s at) q))
    → and_then o f ≡ map_got k (and_then (and_then p g) q)
unfolding and_then
both-inside h k o (refused n p) f g q e agree = ap (λ o. and_then o f) e
both-inside h k o (accepted x) f g q e agree = ap (λ o. and_then o f) e ∙ agree x.value x.rest x.at

repeats-marked : {A B : Type 0} (h : B → A) (r : Reader A) (q : Reader B) → ((s : List ℕ) (at : ℕ) → r s at ≡ map_got h (q s at))
    → (n : ℕ) (s : List ℕ) (at : ℕ) → repeats n r s at ≡ map_got (map h) (repeats n q s at)
unfolding readers
repeats-marked h r q e zero s at = refl
repeats-marked h r q e (suc n) s at =
    both-steps h (map h) (r s at) (q s at) _ _ (e s at)
    (λ b s at. both-steps (map h) (map h) (repeats n r s at) (repeats n q s at) _ _ (repeats-marked h r q e n s at) (λ bs s at. refl))

pub sections-marked : (f : Form) (s : List ℕ) (at : ℕ) → sections f s at ≡ map_got unmarked (marked_sections f s at)
unfolding sections marked_front marked_sections unmarked readers
sections-marked f s at =
    step-inside unmarked (number 1 33 s at) _ _ _
    (λ R s at.
    step-inside unmarked (repeats R label s at) _ _ _
    (λ labels s at.
    step-inside unmarked (number 0 65 s at) _ _ _
    (λ M s at.
    both-inside (map rule_of) unmarked (repeats M (rule f R) s at) (repeats M (marked_rule f R) s at) _ _ _
    (repeats-marked rule_of (rule f R) (marked_rule f R) (rule-marked f R) M s at)
    (λ rules s at.
    step unmarked (number 1 17 s at) _ _
    (λ N s at.
    both-steps (map (λ p. p.part)) unmarked (repeats N (part R M) s at) (repeats N (marked_part R M) s at) _ _
    (repeats-marked (λ p. p.part) (part R M) (marked_part R M) (part-marked R M) N s at)
    (λ parts s at. step unmarked (end s at) _ _ (λ _ s at. refl)))))))

pub read-marked : (f : Form) (s : List ℕ) → read f s ≡ value_of (map_got unmarked (marked_sections f s 0))
unfolding read
read-marked f s = ap value_of (sections-marked f s 0)
