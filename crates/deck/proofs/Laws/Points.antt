-- What stands at a rule's and a part's offsets is what was read there. Assumes nothing.
use Rattle.std.specs.Prelude.{ℕ, zero, suc, ◌≡◌, refl, Bool, true, false, not, ◌&&◌, List, [], ◌∷◌, leb, ltb, eqb, drop}
use Rattle.std.proofs.Common.{sym, ◌∙◌, ap, subst, drop-drop, add-one}
use Rattle.lists.specs.Lists.{member}
use Rattle.refusals.specs.Outcome.{Outcome, refused, accepted}
use Rattle.refusals.specs.Laws.Outcomes.{refused≢accepted, accepted-inj}
use Rattle.refusals.specs.Numbers.{default_retired}
use Rattle.expression.specs.Reading.{Read, nothing, Scope}
use Rattle.expression.specs.Faults.{Found, sound}
use Rattle.deck.specs.declared.Form.{Form}
use Rattle.deck.specs.Reader.{Got, Reader, ◌>>=◌, ◌>>◌, and_then, give, fault, here, expect}
use Rattle.deck.specs.Reader.{byte, number, repeats, rising, value, readers}
use Rattle.deck.specs.Deck.{Action}
use Rattle.deck.specs.Layout.{Expected, numbers, truths, judged, expression, own_only, task_scope}
use Rattle.deck.specs.Layout.{assignments, action, allows, default_action}
use Rattle.deck.specs.Marks.{MarkedTask, marked_task, MarkedRule, marked_rule, MarkedPart, marked_part}
use Rattle.deck.proofs.Laws.Judging.{judged-cases}
use Rattle.deck.specs.Facts.{ReadsAt}

-- what a reader leaves is the bytes from its place on
abbrev pub Tracks : {A : Type 0} → Reader A → Type 0
Tracks {A} r = (s : List ℕ) (at : ℕ) (g : Got A) → r (drop at s) at ≡ accepted g → g.rest ≡ drop g.at s

-- what was read first, and what came after it
pub then-inv : {A B : Type 0} (o : Outcome (Got A)) (f : A → Reader B) (g : Got B) → and_then o f ≡ accepted g
    → (x : Got A) × (o ≡ accepted x) × (f x.value x.rest x.at ≡ accepted g)
unfolding and_then
then-inv (refused n p) f g e = refused≢accepted e
then-inv (accepted x) f g e = (x, refl, e)

pub then-tracks : {A B : Type 0} (r : Reader A) (f : A → Reader B) → Tracks r → ((a : A) → Tracks (f a))
    → Tracks (λ s at. and_then (r s at) f)
then-tracks r f tr tf s at g e =
    let i = then-inv (r (drop at s) at) f g e in
    let x = i.0 in
    tf x.value s x.at g (ap (λ l. f x.value l x.at) (sym (tr s at x i.1)) ∙ i.2)

pub give-tracks : {A : Type 0} (a : A) → Tracks (give a)
unfolding give
give-tracks a s at g e = ap (λ x. x.rest) (sym (accepted-inj e)) ∙ ap (λ x. drop x.at s) (accepted-inj e)

pub here-tracks : Tracks here
unfolding here
here-tracks s at g e = ap (λ x. x.rest) (sym (accepted-inj e)) ∙ ap (λ x. drop x.at s) (accepted-inj e)

expect-tracks : (b : Bool) (n p : ℕ) → Tracks (expect b n p)
unfolding expect fault
expect-tracks true n p s at g e = give-tracks tt s at g e
expect-tracks false n p s at g e = refused≢accepted e

drop-tail : (at : ℕ) (s t : List ℕ) (b : ℕ) → drop at s ≡ b ∷ t → t ≡ drop (suc at) s
drop-tail at s t b e = ap (drop 1) (sym e) ∙ drop-drop 1 at s ∙ ap (λ k. drop k s) (add-one at)

byte-tracks : Tracks byte
unfolding byte
byte-tracks s at g e = go (drop at s) refl e
  where
    go : (l : List ℕ) → drop at s ≡ l → byte l at ≡ accepted g → g.rest ≡ drop g.at s
    go [] d e = refused≢accepted e
    go (b ∷ t) d e =
        ap (λ x. x.rest) (sym (accepted-inj e)) ∙ drop-tail at s t b d ∙ ap (λ x. drop x.at s) (accepted-inj e)

pub number-tracks : (lo hi : ℕ) → Tracks (number lo hi)
unfolding number ◌>>=◌ ◌>>◌
number-tracks lo hi =
    then-tracks here _ here-tracks
    (λ at. then-tracks byte _ byte-tracks
    (λ b. then-tracks (expect (leb lo b && ltb b hi) 2 at) _ (expect-tracks (leb lo b && ltb b hi) 2 at) (λ _. give-tracks b)))

pub repeats-tracks : {A : Type 0} (r : Reader A) → Tracks r → (n : ℕ) → Tracks (repeats n r)
unfolding repeats ◌>>=◌
repeats-tracks r t zero = give-tracks []
repeats-tracks r t (suc n) = then-tracks r _ t (λ x. then-tracks (repeats n r) _ (repeats-tracks r t n) (λ xs. give-tracks (x ∷ xs)))

pub rising-tracks : (n lo hi : ℕ) → Tracks (rising n lo hi)
unfolding rising ◌>>=◌
rising-tracks zero lo hi = give-tracks []
rising-tracks (suc n) lo hi =
    then-tracks (number lo hi) _ (number-tracks lo hi)
    (λ c. then-tracks (rising n (suc c) hi) _ (rising-tracks n (suc c) hi) (λ cs. give-tracks (c ∷ cs)))

judged-tracks : {A : Type 0} (r : Read A) (f : Found) (has : r ≡ nothing → f ≡ sound → ⊥) → Tracks (judged r f has)
unfolding fault
judged-tracks r f has = judged-cases r f has Tracks (λ a n _. give-tracks a) (λ n p _ _ s at g e. refused≢accepted e)

pub expression-tracks : {A : Type 0} (j : Expected A) → Tracks (expression j)
unfolding expression ◌>>=◌
expression-tracks j =
    then-tracks (number 1 65) _ (number-tracks 1 65)
    (λ n.
    then-tracks here _ here-tracks
    (λ at.
    then-tracks (repeats n byte) _ (repeats-tracks byte byte-tracks n)
    (λ bytes. judged-tracks (j.whole bytes) (j.find bytes at) (j.has_fault bytes at))))

assignments-tracks : (sc : Scope) (n : ℕ) (ts : List ℕ) → Tracks (assignments sc n ts)
unfolding assignments ◌>>=◌ ◌>>◌
assignments-tracks sc zero ts = give-tracks []
assignments-tracks sc (suc n) ts =
    then-tracks here _ here-tracks
    (λ at.
    then-tracks (number 0 sc.owns) _ (number-tracks 0 sc.owns)
    (λ t.
    then-tracks (expect (not (member t ts)) 4 at) _ (expect-tracks (not (member t ts)) 4 at)
    (λ _.
    then-tracks (expression (numbers sc)) _ (expression-tracks (numbers sc))
    (λ e. then-tracks (assignments sc n (t ∷ ts)) _ (assignments-tracks sc n (t ∷ ts))
    (λ rest. give-tracks (record { target = t; value = e } ∷ rest))))))

pub action-tracks : (sc : Scope) → Tracks (action sc)
unfolding action ◌>>=◌
action-tracks sc = then-tracks (number 0 5) _ (number-tracks 0 5) (λ n. assignments-tracks sc n [])

-- ---- what stands at an offset

reads_at : {A : Type 0} (r : Reader A) → Tracks r → (s : List ℕ) (k : ℕ) (x : Got A) → r (drop k s) k ≡ accepted x
    → ReadsAt s r k x.value
reads_at r t s k x e = (x.at, e ∙ ap (λ l. accepted (record { value = x.value; rest = l; at = x.at })) (t s k x e))

pub record TaskPoints (R : ℕ) (s : List ℕ) (m : MarkedTask) : Type 0 where
  pub condition : ReadsAt s (expression (truths (task_scope R m.everywhere))) m.condition_at m.condition
  pub action : ReadsAt s (action (task_scope R m.everywhere)) m.action_at m.action

pub record RulePoints (R : ℕ) (s : List ℕ) (m : MarkedRule) : Type 0 where
  pub default : ReadsAt s (action (own_only R)) m.default_at m.default
  pub task : TaskPoints R s m.task

pub record PartPoints (R : ℕ) (s : List ℕ) (m : MarkedPart) : Type 0 where
  pub opening : ReadsAt s (repeats R value) m.opening_at m.part.opening
  pub limit : ReadsAt s (expression (truths (own_only R))) m.limit_at m.part.limit

-- one step of a reading that went well: what was read, and that the rest goes well from there
pub then_at : {A B : Type 0} (r : Reader A) (f : A → Reader B) → Tracks r → (s : List ℕ) (at : ℕ) (g : Got B)
    → and_then (r (drop at s) at) f ≡ accepted g
    → (x : Got A) × (r (drop at s) at ≡ accepted x) × (f x.value (drop x.at s) x.at ≡ accepted g)
then_at r f t s at g e =
    let i = then-inv (r (drop at s) at) f g e in
    let x = i.0 in
    (x, i.1, ap (λ l. f x.value l x.at) (sym (t s at x i.1)) ∙ i.2)

pub here-at : {B : Type 0} (f : ℕ → Reader B) (s : List ℕ) (at : ℕ) (g : Got B) → and_then (here s at) f ≡ accepted g
    → f at s at ≡ accepted g
unfolding here and_then
here-at f s at g e = e

pub given : {A : Type 0} (a : A) (s : List ℕ) (at : ℕ) (g : Got A) → give a s at ≡ accepted g → a ≡ g.value
unfolding give
given a s at g e = ap (λ x. x.value) (accepted-inj e)

pub task-points : (R : ℕ) (s : List ℕ) (at : ℕ) (g : Got MarkedTask) → marked_task R (drop at s) at ≡ accepted g → TaskPoints R s g.value
unfolding marked_task ◌>>=◌
task-points R s at g e =
    let i4 = then_at (number 0 2) _ (number-tracks 0 2) s at g e in
    let scope = task_scope R (eqb i4.0.value 1) in
    let h5 = here-at _ (drop i4.0.at s) i4.0.at g i4.2 in
    let i5 = then_at (expression (truths scope)) _ (expression-tracks (truths scope)) s i4.0.at g h5 in
    let h6 = here-at _ (drop i5.0.at s) i5.0.at g i5.2 in
    let i6 = then_at (action scope) _ (action-tracks scope) s i5.0.at g h6 in
    subst (TaskPoints R s) (given _ (drop i6.0.at s) i6.0.at g i6.2)
    (record {
      condition = reads_at (expression (truths scope)) (expression-tracks (truths scope)) s i4.0.at i5.0 i5.1;
      action = reads_at (action scope) (action-tracks scope) s i5.0.at i6.0 i6.1;
    })

pub task-tracks : (R : ℕ) → Tracks (marked_task R)
unfolding marked_task ◌>>=◌
task-tracks R =
    then-tracks (number 0 2) _ (number-tracks 0 2)
    (λ kind.
    then-tracks here _ here-tracks
    (λ a.
    then-tracks (expression (truths (task_scope R (eqb kind 1)))) _ (expression-tracks (truths (task_scope R (eqb kind 1))))
    (λ c. then-tracks here _ here-tracks
    (λ b. then-tracks (action (task_scope R (eqb kind 1))) _ (action-tracks (task_scope R (eqb kind 1))) (λ act. give-tracks _)))))

-- reading goes on where a test passed
pub expect-then : {B : Type 0} (b : Bool) (n p : ℕ) (f : Reader B) (s : List ℕ) (at : ℕ) (g : Got B)
    → and_then (expect b n p s at) (λ _. f) ≡ accepted g
    → f s at ≡ accepted g
unfolding readers
expect-then true n p f s at g e = e
expect-then false n p f s at g e = refused≢accepted e

-- a default action that was read is an action, in both forms
pub default-action : (f : Form) (R : ℕ) (s : List ℕ) (at : ℕ) (g : Got Action) → default_action f R s at ≡ accepted g
    → action (own_only R) s at ≡ accepted g
unfolding default_action action readers
default-action f R s at g e = go (number 0 5 s at) e
  where
    go : (o : Outcome (Got ℕ)) → and_then o (λ n. expect (allows f n) default_retired at >> assignments (own_only R) n []) ≡ accepted g
        → and_then o (λ n. assignments (own_only R) n []) ≡ accepted g
    go (refused n p) e = e
    go (accepted x) e = expect-then (allows f x.value) default_retired at (assignments (own_only R) x.value []) x.rest x.at g e

pub default-tracks : (f : Form) (R : ℕ) → Tracks (default_action f R)
default-tracks f R s at g e = action-tracks (own_only R) s at g (default-action f R (drop at s) at g e)

pub rule-points : (f : Form) (R : ℕ) (s : List ℕ) (at : ℕ) (g : Got MarkedRule) → marked_rule f R (drop at s) at ≡ accepted g
    → RulePoints R s g.value
unfolding marked_rule ◌>>=◌
rule-points f R s at g e =
    let i1 = then_at (number 1 9) _ (number-tracks 1 9) s at g e in
    let i2 = then_at (rising i1.0.value 0 R) _ (rising-tracks i1.0.value 0 R) s i1.0.at g i1.2 in
    let h3 = here-at _ (drop i2.0.at s) i2.0.at g i2.2 in
    let i3 = then_at (default_action f R) _ (default-tracks f R) s i2.0.at g h3 in
    let i4 = then_at (marked_task R) _ (task-tracks R) s i3.0.at g i3.2 in
    subst (RulePoints R s) (given _ (drop i4.0.at s) i4.0.at g i4.2)
    (record {
      default =
          reads_at (action (own_only R)) (action-tracks (own_only R)) s i2.0.at i3.0
          (default-action f R (drop i2.0.at s) i2.0.at i3.0 i3.1);
      task = task-points R s i3.0.at i4.0 i4.1;
    })

pub value-tracks : Tracks value
unfolding value ◌>>=◌
value-tracks =
    then-tracks byte _ byte-tracks
    (λ a. then-tracks byte _ byte-tracks (λ b. then-tracks byte _ byte-tracks (λ c. then-tracks byte _ byte-tracks (λ d. give-tracks _))))

pub part-points : (R M : ℕ) (s : List ℕ) (at : ℕ) (g : Got MarkedPart) → marked_part R M (drop at s) at ≡ accepted g
    → PartPoints R s g.value
unfolding marked_part ◌>>=◌
part-points R M s at g e =
    let h1 = here-at _ (drop at s) at g e in
    let i1 = then_at (repeats R value) _ (repeats-tracks value value-tracks R) s at g h1 in
    let i2 = then_at (number 0 (suc M)) _ (number-tracks 0 (suc M)) s i1.0.at g i1.2 in
    let i3 = then_at (rising i2.0.value 0 M) _ (rising-tracks i2.0.value 0 M) s i2.0.at g i2.2 in
    let h4 = here-at _ (drop i3.0.at s) i3.0.at g i3.2 in
    let i4 = then_at (expression (truths (own_only R))) _ (expression-tracks (truths (own_only R))) s i3.0.at g h4 in
    subst (PartPoints R s) (given _ (drop i4.0.at s) i4.0.at g i4.2)
    (record {
      opening = reads_at (repeats R value) (repeats-tracks value value-tracks R) s at i1.0 i1.1;
      limit = reads_at (expression (truths (own_only R))) (expression-tracks (truths (own_only R))) s i3.0.at i4.0 i4.1;
    })
