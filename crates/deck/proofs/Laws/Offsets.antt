-- Laws of reading one thing after another at offsets of the whole deck, where the bytes left are `drop at s`: an expression,
-- an assignment, a rule's task, a rule. Assumes nothing.
use Rattle.std.specs.Prelude.{ℕ, zero, suc, ◌+◌, ◌-◌, ◌≤◌, ◌<◌, ◌≡◌, refl, Bool, List, [], ◌∷◌, take, drop, Result, Ok, Err}
use Rattle.std.proofs.Common.{sym, ap₂, ◌∙◌, subst, arith, add-zero, drop-drop}
use Rattle.std.proofs.Math.Path.{ap}
use Rattle.std.proofs.Math.Bool.{true, false, not}
use Rattle.std.proofs.Math.ListN.{length, length-drop}
use Rattle.lists.specs.Lists.{member}
use Rattle.refusals.specs.Outcome.{Outcome, refused, accepted}
use Rattle.refusals.specs.declared.Fault.{Fault}
use Rattle.refusals.specs.Laws.Outcomes.{refused≢accepted, accepted-inj, number-inj, place-inj}
use Rattle.refusals.specs.Numbers.{deck_ends, repeated_target}
use Rattle.expression.specs.Reading.{Scope}
use Rattle.expression.specs.Answers.{is_got}
use Rattle.expression.specs.Faults.{Found, sound, faulty, first_fault}
use Rattle.expression.specs.Searching.{of_search, awaited_for, answer_for}
use Rattle.deck.specs.Reader.{Got, Reader, and_then, ◌>>=◌, give, expect, byte, number, repeats, readers}
use Rattle.deck.specs.Layout.{Expected, numbers, truths, judged, expression}
use Rattle.deck.specs.Marks.{Reads, expression_for, is_whole, assignment}
use Rattle.deck.proofs.Laws.Turns.{number-below}
use Rattle.deck.proofs.Laws.Judging.{judged-read, judged-nothing, value-got, whole-if-sound, none-if-faulty}

-- what was read, and the place after it
abbrev pub got_to : {A : Type 0} → List ℕ → A → ℕ → Got A
got_to s a n = record { value = a; rest = drop n s; at = n }

-- ---- one reading after another

module _ {A B : Type 0} {o : Outcome (Got A)} (f : A → Reader B) where
  pub then_next : {g : Got A} → o ≡ accepted g → and_then o f ≡ f g.value g.rest g.at
  unfolding and_then
  then_next e = ap (λ o. and_then o f) e

  pub then-fault : {n p : ℕ} → o ≡ refused n p → and_then o f ≡ refused n p
  unfolding and_then
  then-fault e = ap (λ o. and_then o f) e

-- the last reading, and then f of its value
pub reads-last : {A B : Type 0} (s : List ℕ) (o : Outcome (Got A)) (P : A → Type 0) (f : A → B) (Q : B → Type 0) (step : Result ℕ Fault)
    → ((a : A) → P a → Q (f a)) → Reads s o P step → Reads s (and_then o (λ a. give (f a))) Q step
unfolding give
reads-last s o P f Q (Ok n) q r = (f r.0, then_next (λ a. give (f a)) r.1, r.2, q r.0 r.3)
reads-last s o P f Q (Err x) q r = then-fault (λ a. give (f a)) r

module _ {b : Bool} (n p : ℕ) (s : List ℕ) (at : ℕ) where
  expect-passes : b ≡ true → expect b n p s at ≡ accepted (record { value = tt; rest = s; at = at })
  unfolding readers
  expect-passes e = ap (λ b. expect b n p s at) e

  pub expect-fails : b ≡ false → expect b n p s at ≡ refused n p
  unfolding readers
  expect-fails e = ap (λ b. expect b n p s at) e

-- ---- an expression

pub bytes-there : (n : ℕ) (s : List ℕ) (at : ℕ) → n ≤ length s
    → repeats n byte s at ≡ accepted (record { value = take n s; rest = drop n s; at = at + n })
unfolding readers
bytes-there zero s at h = rw (add-zero at) refl
bytes-there (suc n) (b ∷ s) at h =
    let e : repeats n byte s (suc at) ≡ accepted (record { value = take n s; rest = drop n s; at = suc at + n })
    = bytes-there n s (suc at) (omega arith) in
    let k : suc at + n ≡ at + suc n = omega arith in
    ap (λ o. and_then o (λ xs. give (b ∷ xs))) e ∙ ap (λ p. accepted (record { value = b ∷ take n s; rest = drop n s; at = p })) k
bytes-there (suc n) [] at h = absurd (omega arith)

pub bytes-short : (n : ℕ) (s : List ℕ) (at : ℕ) → length s < n → repeats n byte s at ≡ refused deck_ends (at + length s)
unfolding readers
bytes-short zero s at h = absurd (omega arith)
bytes-short (suc n) (b ∷ s) at h =
    let e : repeats n byte s (suc at) ≡ refused deck_ends (suc at + length s) = bytes-short n s (suc at) (omega arith) in
    ap (λ o. and_then o (λ xs. give (b ∷ xs))) e ∙ ap (λ p. refused deck_ends p) (omega arith)
bytes-short (suc n) [] at h = ap (λ p. refused deck_ends p) (omega arith)

-- the length byte n was read, and the bytes begin at `from`
module _ {A : Type 0} (j : Expected A) (s : List ℕ) (at n from : ℕ)
    (e : number 1 65 (drop at s) at ≡ accepted (got_to s n from)) where
  pub whole-ends : from ≤ length s → length s < from + n → expression j (drop at s) at ≡ refused deck_ends (length s)
  unfolding expression readers
  whole-ends b h =
      let k : length (drop from s) ≡ length s - from = length-drop from s in
      then_next _ e
      ∙ then-fault _ (bytes-short n (drop from s) from (omega arith))
      ∙ ap (λ p. refused deck_ends p) (omega arith)

  abbrev bytes : List ℕ
  bytes = take n (drop from s)

  pub whole-there : from + n ≤ length s
      → expression j (drop at s) at ≡ judged (j.whole bytes) (j.find bytes from) (j.has_fault bytes from) (drop (from + n) s) (from + n)
  unfolding expression readers
  whole-there h =
      then_next _ e
      ∙ then_next _ (bytes-there n (drop from s) from (omega (arith, length-drop from s)))
      ∙ ap (λ l. judged (j.whole bytes) (j.find bytes from) (j.has_fault bytes from) l (from + n)) (drop-drop n from s)

  good : from + n ≤ length s → is_got (j.whole bytes) ≡ true → Reads s (expression j (drop at s) at) (λ _. Unit {0}) (Ok (from + n))
  good h w =
      let g = value-got (j.whole bytes) w in
      let read = judged-read (j.whole bytes) (j.find bytes from) (j.has_fault bytes from) (drop (from + n) s) (from + n) g.1.1 in
      (g.0, whole-there h ∙ read, h, tt)

  bad : from + n ≤ length s → is_got (j.whole bytes) ≡ false → {m p : ℕ} → j.find bytes from ≡ faulty m p
      → expression j (drop at s) at ≡ refused m p
  bad h w f =
      whole-there h ∙ judged-nothing (j.whole bytes) (j.find bytes from) (j.has_fault bytes from) (drop (from + n) s) (from + n) w f

-- the same of both kinds
pub expression-fault : (truth : Bool) (sc : Scope) (s : List ℕ) (at : ℕ) {n p : ℕ} → number 1 65 s at ≡ refused n p
    → expression_for truth sc s at ≡ refused n p
unfolding expression_for expression ◌>>=◌
expression-fault true sc s at e = then-fault _ e
expression-fault false sc s at e = then-fault _ e

module _ (truth : Bool) (sc : Scope) (s : List ℕ) (at n from : ℕ) (e : number 1 65 (drop at s) at ≡ accepted (got_to s n from)) where
  pub expression-ends : from ≤ length s → length s < from + n → expression_for truth sc (drop at s) at ≡ refused deck_ends (length s)
  unfolding expression_for
  expression-ends b h = go truth
    where
      go : (truth : Bool) → expression_for truth sc (drop at s) at ≡ refused deck_ends (length s)
      go true = whole-ends (truths sc) s at n from e b h
      go false = whole-ends (numbers sc) s at n from e b h

  abbrev content : List ℕ
  content = take n (drop from s)

  -- what the bytes are found to have
  abbrev found : Found
  found = first_fault sc (awaited_for truth ∷ []) content from

  pub expression-good : from + n ≤ length s → is_whole truth sc content ≡ true
      → Reads s (expression_for truth sc (drop at s) at) (λ _. Unit {0}) (Ok (from + n))
  unfolding expression_for
  expression-good h w = go truth w
    where
      go : (truth : Bool) → is_whole truth sc content ≡ true
          → Reads s (expression_for truth sc (drop at s) at) (λ _. Unit {0}) (Ok (from + n))
      go true w = good (truths sc) s at n from e h w
      go false w = good (numbers sc) s at n from e h w

  expression-bad : from + n ≤ length s → {m p : ℕ} → found ≡ faulty m p → expression_for truth sc (drop at s) at ≡ refused m p
  unfolding expression_for
  expression-bad h {m} {p} f = go truth f
    where
      go : (truth : Bool) → first_fault sc (awaited_for truth ∷ []) content from ≡ faulty m p
          → expression_for truth sc (drop at s) at ≡ refused m p
      go true f = bad (truths sc) s at n from e h (none-if-faulty sc content from true f) f
      go false f = bad (numbers sc) s at n from e h (none-if-faulty sc content from false f) f

  -- the search for a fault answers for an expression: it is read where none is found, and else the fault is its own
  abbrev ReadsAs : Result ℕ Fault → Type 0
  ReadsAs r = Reads s (expression_for truth sc (drop at s) at) (λ _. Unit {0}) r

  pub expression-searched : from + n ≤ length s → (r : Result ℕ Fault) → of_search r ≡ answer_for (from + n) found → ReadsAs r
  expression-searched h r q = go r found refl q
    where
      go : (r : Result ℕ Fault) (f : Found) → found ≡ f → of_search r ≡ answer_for (from + n) f → ReadsAs r
      go (Ok m) sound k e =
          rw (accepted-inj e) (expression-good h (whole-if-sound sc content from truth k))
      go (Err x) sound k e = refused≢accepted e
      go (Ok m) (faulty p q) k e = refused≢accepted (sym e)
      go (Err x) (faulty p q) k e = expression-bad h k ∙ sym (ap₂ refused (number-inj e) (place-inj e))

-- ---- an assignment

module _ (sc : Scope) (ts : List ℕ) (s : List ℕ) (at : ℕ) where
  pub assignment-fault : {n p : ℕ} → number 0 sc.owns s at ≡ refused n p → assignment sc ts s at ≡ refused n p
  unfolding assignment readers
  assignment-fault e = then-fault _ e

  pub assignment-repeated : {g : Got ℕ} → number 0 sc.owns s at ≡ accepted g → member g.value ts ≡ true
      → assignment sc ts s at ≡ refused repeated_target at
  unfolding assignment readers
  assignment-repeated e m = then_next _ e ∙ then-fault _ (expect-fails repeated_target at _ _ (ap not m))

  -- the target is new, and the expression's reading is the assignment's
  new-target : {g : Got ℕ} → number 0 sc.owns s at ≡ accepted g → member g.value ts ≡ false
      → assignment sc ts s at ≡ and_then (expression (numbers sc) g.rest g.at) (λ e. give (record { target = g.value; value = e }))
  unfolding assignment readers
  new-target e m = then_next _ e ∙ then_next _ (expect-passes repeated_target at _ _ (ap not m))

pub assignment-value : (sc : Scope) (ts : List ℕ) (s : List ℕ) (at t next : ℕ) (step : Result ℕ Fault)
    → number 0 sc.owns (drop at s) at ≡ accepted (got_to s t next) → member t ts ≡ false
    → Reads s (expression_for false sc (drop next s) next) (λ _. Unit {0}) step
    → Reads s (assignment sc ts (drop at s) at) (λ a. (t ≡ a.target) × (a.target < sc.owns)) step
unfolding expression_for
assignment-value sc ts s at t next step e m r =
    subst (λ o. Reads s o (λ a. (t ≡ a.target) × (a.target < sc.owns)) step) (sym (new-target sc ts (drop at s) at e m))
    (reads-last s (expression (numbers sc) (drop next s) next) (λ _. Unit {0}) (λ e. record { target = t; value = e }) _ step
    (λ _ _. (refl, number-below 0 sc.owns (drop at s) at (got_to s t next) e))
    r)
