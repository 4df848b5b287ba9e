-- What stands at the offsets of every rule and part of a deck that was read. Assumes nothing.
use Rattle.std.specs.Prelude.{ℕ, zero, suc, ◌≡◌, refl, List, [], ◌∷◌, drop}
use Rattle.std.proofs.Common.{sym, ◌∙◌, ap, subst}
use Rattle.refusals.specs.Outcome.{accepted}
use Rattle.refusals.specs.Laws.Outcomes.{refused≢accepted, accepted-inj}
use Rattle.deck.specs.declared.Form.{Form}
use Rattle.deck.specs.Reader.{Got, Reader, ◌>>=◌, ◌>>◌, here, end, number, repeats, rising, value, label}
use Rattle.deck.specs.Layout.{truths, expression, own_only, default_action}
use Rattle.deck.specs.Marks.{marked_task, marked_rule, MarkedFront, marked_front, marked_part, Marked, marked_sections}
use Rattle.deck.proofs.Laws.Points.{
  Tracks,
  then-tracks,
  give-tracks,
  here-tracks,
  number-tracks,
  repeats-tracks,
  rising-tracks,
  expression-tracks,
  default-tracks,
  task-tracks,
  value-tracks,
  then_at,
  here-at,
  given,
  RulePoints,
  rule-points,
  PartPoints,
  part-points,
}

-- P holds for each of a list
abbrev pub Each : {A : Type 0} → (A → Type 0) → List A → Type 0
Each P [] = Unit {0}
Each P (x ∷ l) = P x × Each P l

pub each_read : {A : Type 0} (P : A → Type 0) (r : Reader A) → Tracks r → (s : List ℕ)
    → ((at : ℕ) (g : Got A) → r (drop at s) at ≡ accepted g → P g.value)
    → (n at : ℕ) (g : Got (List A)) → repeats n r (drop at s) at ≡ accepted g → Each P g.value
unfolding repeats ◌>>=◌
each_read P r t s p zero at g e = subst (Each P) (given [] (drop at s) at g e) tt
each_read P r t s p (suc n) at g e =
    let x = then_at r _ t s at g e in
    let xs = then_at (repeats n r) _ (repeats-tracks r t n) s x.0.at g x.2 in
    subst (Each P) (given _ (drop xs.0.at s) xs.0.at g xs.2)
    (p at x.0 x.1, each_read P r t s p n x.0.at xs.0 xs.1)

pub rule-tracks : (f : Form) (R : ℕ) → Tracks (marked_rule f R)
unfolding marked_rule ◌>>=◌
rule-tracks f R =
    then-tracks (number 1 9) _ (number-tracks 1 9)
    (λ n.
    then-tracks (rising n 0 R) _ (rising-tracks n 0 R)
    (λ events.
    then-tracks here _ here-tracks
    (λ at.
    then-tracks (default_action f R) _ (default-tracks f R)
    (λ default. then-tracks (marked_task R) _ (task-tracks R) (λ task. give-tracks _)))))

pub part-tracks : (R M : ℕ) → Tracks (marked_part R M)
unfolding marked_part ◌>>=◌
part-tracks R M =
    then-tracks here _ here-tracks
    (λ at.
    then-tracks (repeats R value) _ (repeats-tracks value value-tracks R)
    (λ opening.
    then-tracks (number 0 (suc M)) _ (number-tracks 0 (suc M))
    (λ n.
    then-tracks (rising n 0 M) _ (rising-tracks n 0 M)
    (λ carried.
    then-tracks here _ here-tracks
    (λ l. then-tracks (expression (truths (own_only R))) _ (expression-tracks (truths (own_only R))) (λ limit. give-tracks _))))))

pub front-tracks : (f : Form) → Tracks (marked_front f)
unfolding marked_front ◌>>=◌
front-tracks f =
    then-tracks (number 1 33) _ (number-tracks 1 33)
    (λ R.
    then-tracks (repeats R label) _ (repeats-tracks label (number-tracks _ _) R)
    (λ labels.
    then-tracks here _ here-tracks
    (λ at.
    then-tracks (number 0 65) _ (number-tracks 0 65)
    (λ M. then-tracks (repeats M (marked_rule f R)) _ (repeats-tracks (marked_rule f R) (rule-tracks f R) M) (λ rules. give-tracks _)))))

front-points : (f : Form) (s : List ℕ) (at : ℕ) (g : Got MarkedFront) → marked_front f (drop at s) at ≡ accepted g
    → Each (RulePoints g.value.channels s) g.value.rules
unfolding marked_front ◌>>=◌
front-points f s at g e =
    let i1 = then_at (number 1 33) _ (number-tracks 1 33) s at g e in
    let R = i1.0.value in
    let i2 = then_at (repeats R label) _ (repeats-tracks label (number-tracks _ _) R) s i1.0.at g i1.2 in
    let h = here-at _ (drop i2.0.at s) i2.0.at g i2.2 in
    let i3 = then_at (number 0 65) _ (number-tracks 0 65) s i2.0.at g h in
    let M = i3.0.value in
    let i4 = then_at (repeats M (marked_rule f R)) _ (repeats-tracks (marked_rule f R) (rule-tracks f R) M) s i3.0.at g i3.2 in
    subst (λ (m : MarkedFront). Each (RulePoints m.channels s) m.rules) (given _ (drop i4.0.at s) i4.0.at g i4.2)
    (each_read (RulePoints R s) (marked_rule f R) (rule-tracks f R) s (rule-points f R s) M i3.0.at i4.0 i4.1)

pub end-tracks : Tracks end
unfolding end
end-tracks s at g e = go (drop at s) refl e
  where
    go : (l : List ℕ) → drop at s ≡ l → end l at ≡ accepted g → g.rest ≡ drop g.at s
    go [] d e = ap (λ x. x.rest) (sym (accepted-inj e)) ∙ sym d ∙ ap (λ x. drop x.at s) (accepted-inj e)
    go (b ∷ t) d e = refused≢accepted e

-- reading at a rule's or part's offsets gives that part of the deck that was read
pub deck-points : (f : Form) (s : List ℕ) (g : Got Marked) → marked_sections f s 0 ≡ accepted g
    → Each (RulePoints g.value.front.channels s) g.value.front.rules
    × Each (PartPoints g.value.front.channels s) g.value.parts
unfolding marked_sections ◌>>=◌ ◌>>◌
deck-points f s g e =
    let i1 = then_at (marked_front f) _ (front-tracks f) s 0 g e in
    let front = i1.0.value in
    let h = here-at _ (drop i1.0.at s) i1.0.at g i1.2 in
    let i2 = then_at (number 1 17) _ (number-tracks 1 17) s i1.0.at g h in
    let N = i2.0.value in
    let part = marked_part front.channels front.count in
    let i3 = then_at (repeats N part) _ (repeats-tracks part (part-tracks front.channels front.count) N) s i2.0.at g i2.2 in
    let i4 = then_at end _ end-tracks s i3.0.at g i3.2 in
    subst (λ (m : Marked). Each (RulePoints m.front.channels s) m.front.rules × Each (PartPoints m.front.channels s) m.parts)
    (given _ (drop i4.0.at s) i4.0.at g i4.2) (
      front-points f s 0 i1.0 i1.1,
      each_read (PartPoints front.channels s) part (part-tracks front.channels front.count) s
          (part-points front.channels front.count s)
          N i2.0.at i3.0 i3.1,
    )
