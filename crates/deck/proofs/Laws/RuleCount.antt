-- Where the number of rules stands: behind the labels, of which the first byte gives the number. Assumes nothing.
use Rattle.std.specs.Prelude.{ℕ, zero, suc, ◌+◌, ◌<◌, ◌≡◌, refl, ◌⊎◌, Bool, true, false, ◌&&◌, List, [], leb, ltb, length, drop, get_or}
use Rattle.std.proofs.Common.{sym, ◌∙◌, ap, inl, inr, arith, ltb-true, ltb-false}
use Rattle.lists.specs.Laws.Booleans.{true-or-false}
use Rattle.refusals.specs.Outcome.{accepted}
use Rattle.refusals.specs.Laws.Outcomes.{refused≢accepted, accepted-inj}
use Rattle.deck.specs.declared.Form.{Form}
use Rattle.deck.specs.Reader.{Got, ◌>>=◌, ◌>>◌, give, end, number, repeats, label}
use Rattle.deck.specs.Marks.{rules_at, marked_rule, MarkedFront, marked_front, marked_part, Marked, marked_sections}
use Rattle.deck.proofs.Laws.Points.{then_at, here-at, given, number-tracks, repeats-tracks}
use Rattle.deck.proofs.Laws.DeckPoints.{rule-tracks, part-tracks, front-tracks, end-tracks}
use Rattle.deck.proofs.Laws.Turns.{got_byte, by-test, number-ends}

-- the byte that was read
pub record ByteRead (s : List ℕ) (at : ℕ) (g : Got ℕ) : Type 0 where
  pub inside : at < length s
  pub value : g.value ≡ get_or s at 0
  pub next : g.at ≡ at + 1

byte-read : (lo hi : ℕ) (s : List ℕ) (at : ℕ) (g : Got ℕ) → number lo hi (drop at s) at ≡ accepted g → ByteRead s at g
byte-read lo hi s at g e = go (true-or-false (ltb at (length s)))
  where
    tested : (at < length s) → (t : Bool) → (leb lo (get_or s at 0) && ltb (get_or s at 0) hi) ≡ t → ByteRead s at g
    tested h true q =
        let same : got_byte (get_or s at 0) s at ≡ g = accepted-inj (sym (by-test lo hi s at h true q) ∙ e) in
        record { inside = h; value = ap (λ x. x.value) (sym same); next = ap (λ x. x.at) (sym same) }
    tested h false q = refused≢accepted (sym (by-test lo hi s at h false q) ∙ e)

    go : (ltb at (length s) ≡ true) ⊎ (ltb at (length s) ≡ false) → ByteRead s at g
    go (inl l) = tested (ltb-true at (length s) l) (leb lo (get_or s at 0) && ltb (get_or s at 0) hi) refl
    go (inr l) = refused≢accepted (sym (number-ends lo hi s at (ltb-false at (length s) l)) ∙ e)

given-at : {A : Type 0} (a : A) (s : List ℕ) (at : ℕ) (g : Got A) → give a s at ≡ accepted g → at ≡ g.at
unfolding give
given-at a s at g e = ap (λ x. x.at) (accepted-inj e)

-- how many bytes were read
repeats-read : (lo hi n : ℕ) (s : List ℕ) (at : ℕ) (g : Got (List ℕ)) → repeats n (number lo hi) (drop at s) at ≡ accepted g
    → g.at ≡ at + n
unfolding repeats ◌>>=◌
repeats-read lo hi zero s at g e = sym (given-at [] (drop at s) at g e) ∙ omega arith
repeats-read lo hi (suc n) s at g e =
    let i1 = then_at (number lo hi) _ (number-tracks lo hi) s at g e in
    let i2 = then_at (repeats n (number lo hi)) _ (repeats-tracks (number lo hi) (number-tracks lo hi) n) s i1.0.at g i1.2 in
    let last = given-at _ (drop i2.0.at s) i2.0.at g i2.2 in
    let first = (byte-read lo hi s at i1.0 i1.1).next in
    let rest = repeats-read lo hi n s i1.0.at i2.0 i2.1 in
    omega (arith, last, first, rest)

-- the number behind the labels, once these were read
pub count-read : (s : List ℕ) (r : Got ℕ) → number 1 33 s 0 ≡ accepted r
    → (l : Got (List ℕ)) → repeats r.value label (drop r.at s) r.at ≡ accepted l
    → (m : Got ℕ) → number 0 65 (drop l.at s) l.at ≡ accepted m
    → (1 + get_or s 0 0 < length s) × (m.value ≡ rules_at s)
count-read s r e l f m g =
    let channels = byte-read 1 33 s 0 r e in
    let labels = repeats-read _ _ r.value s r.at l f in
    let rules = byte-read 0 65 s l.at m g in
    let place : l.at ≡ 1 + get_or s 0 0 = omega (arith, channels.value, channels.next, labels) in
    (omega (arith, place, rules.inside), rules.value ∙ ap (λ k. get_or s k 0) place)

front-count : (f : Form) (s : List ℕ) (g : Got MarkedFront) → marked_front f s 0 ≡ accepted g
    → (1 + get_or s 0 0 < length s) × (g.value.count ≡ rules_at s)
unfolding marked_front ◌>>=◌
front-count f s g e =
    let i1 = then_at (number 1 33) _ (number-tracks 1 33) s 0 g e in
    let R = i1.0.value in
    let i2 = then_at (repeats R label) _ (repeats-tracks label (number-tracks _ _) R) s i1.0.at g i1.2 in
    let h = here-at _ (drop i2.0.at s) i2.0.at g i2.2 in
    let i3 = then_at (number 0 65) _ (number-tracks 0 65) s i2.0.at g h in
    let M = i3.0.value in
    let i4 = then_at (repeats M (marked_rule f R)) _ (repeats-tracks (marked_rule f R) (rule-tracks f R) M) s i3.0.at g i3.2 in
    let c = count-read s i1.0 i1.1 i2.0 i2.1 i3.0 i3.1 in
    (c.0, ap (λ m. m.count) (sym (given _ (drop i4.0.at s) i4.0.at g i4.2)) ∙ c.1)

pub rule-count : (f : Form) (s : List ℕ) (g : Got Marked) → marked_sections f s 0 ≡ accepted g
    → (1 + get_or s 0 0 < length s) × (g.value.front.count ≡ rules_at s)
unfolding marked_sections ◌>>=◌ ◌>>◌
rule-count f s g e =
    let i1 = then_at (marked_front f) _ (front-tracks f) s 0 g e in
    let front = i1.0.value in
    let h = here-at _ (drop i1.0.at s) i1.0.at g i1.2 in
    let i2 = then_at (number 1 17) _ (number-tracks 1 17) s i1.0.at g h in
    let N = i2.0.value in
    let part = marked_part front.channels front.count in
    let i3 = then_at (repeats N part) _ (repeats-tracks part (part-tracks front.channels front.count) N) s i2.0.at g i2.2 in
    let i4 = then_at end _ end-tracks s i3.0.at g i3.2 in
    let f = front-count f s i1.0 i1.1 in
    (f.0, ap (λ m. m.front.count) (sym (given _ (drop i4.0.at s) i4.0.at g i4.2)) ∙ f.1)
