-- An action that can be read at an offset of the deck: its count stands there, and its assignments behind it, one behind the
-- other. Assumes nothing.
use Rattle.std.specs.Prelude.{ℕ, zero, suc, ◌+◌, ◌≤◌, ◌<◌, ◌≡◌, refl, Bool, true, false, not, List, [], ◌∷◌, length, get_or, take, drop}
use Rattle.std.proofs.Common.{sym, ap, ◌∙◌, subst, arith}
use Rattle.std.proofs.Math.Decide.{dec_lt, dec_le}
use Rattle.lists.specs.Lists.{member}
use Rattle.refusals.specs.Outcome.{accepted}
use Rattle.refusals.specs.Laws.Outcomes.{refused≢accepted, accepted-inj}
use Rattle.expression.specs.Reading.{Scope, whole_num}
use Rattle.deck.specs.Deck.{Action}
use Rattle.deck.specs.Reader.{Got, ◌>>=◌, ◌>>◌, give, fault, here, expect, number}
use Rattle.deck.specs.Layout.{Expected, numbers, expression, assignments, action}
use Rattle.deck.proofs.Laws.Judging.{judged-read}
use Rattle.deck.proofs.Laws.Turns.{number-ends, number_small, number-large, number-reads}
use Rattle.deck.proofs.Laws.Offsets.{whole-there}
use Rattle.deck.proofs.Laws.Points.{then_at, here-at, given}
use Rattle.deck.specs.Facts.{ReadsAt}
use Rattle.deck.proofs.Laws.Points.{Tracks, then-tracks, give-tracks, here-tracks, number-tracks, expression-tracks}
use Rattle.passing.specs.Stands.{Stands}
use Rattle.passing.proofs.Laws.Stands.{stands}

-- assignments that stand one behind the other: a target, and a number behind it
unfoldable pub Lined : Scope → List ℕ → ℕ → Action → Type 0
Lined sc s at [] = Unit {0}
Lined sc s at (x ∷ a) =
    (at < length s) × (get_or s at 0 ≡ x.target) × Stands (whole_num sc) s (at + 1) x.value
    × Lined sc s (at + 2 + get_or s (at + 1) 0) a

-- ---- a number, and an expression, that were read

pub record NumberRead (lo hi : ℕ) (s : List ℕ) (at : ℕ) (g : Got ℕ) : Type 0 where
  pub inside : at < length s
  pub value : g.value ≡ get_or s at 0
  pub next : g.at ≡ at + 1
  pub low : lo ≤ get_or s at 0
  pub high : get_or s at 0 < hi

module _ (lo hi : ℕ) (s : List ℕ) (at : ℕ) (g : Got ℕ) (e : number lo hi (drop at s) at ≡ accepted g) where
  pub number_read : NumberRead lo hi s at g
  number_read = at_offset (dec_lt at (length s))
    where
      in-range : at < length s → Dec (lo ≤ get_or s at 0) → Dec (get_or s at 0 < hi) → NumberRead lo hi s at g
      in-range l (yes m) (yes n) =
          let same = accepted-inj (sym e ∙ number-reads lo hi s at l m n) in
          record { inside = l; value = ap (λ g. g.value) same; next = ap (λ g. g.at) same; low = m; high = n }
      in-range l (yes m) (no n) = refused≢accepted (sym (number-large lo hi s at l m (omega arith)) ∙ e)
      in-range l (no m) n = refused≢accepted (sym (number_small lo hi s at l (omega arith)) ∙ e)

      at_offset : Dec (at < length s) → NumberRead lo hi s at g
      at_offset (yes l) = in-range l (dec_le lo (get_or s at 0)) (dec_lt (get_or s at 0) hi)
      at_offset (no l) = refused≢accepted (sym (number-ends lo hi s at (omega arith)) ∙ e)

module _ {A : Type 0} (j : Expected A) (s : List ℕ) (at : ℕ) (g : Got A) (e : expression j (drop at s) at ≡ accepted g) where
  pub expression-stands : Stands j.whole s at g.value
  expression-stands =
      stands j s at g.value
      (g.at, e ∙ ap (λ l. accepted (record { value = g.value; rest = l; at = g.at })) (expression-tracks j s at g e))

  length-read : NumberRead 1 65 s at (record { value = get_or s at 0; rest = drop (at + 1) s; at = at + 1 })
  unfolding expression ◌>>=◌
  length-read =
      let x = then_at (number 1 65) _ (number-tracks 1 65) s at g e in
      let r = number_read 1 65 s at x.0 x.1 in
      record { inside = r.inside; value = refl; next = refl; low = r.low; high = r.high }

  pub expression-next : g.at ≡ at + 1 + get_or s at 0
  expression-next =
      let r = length-read in
      let h = expression-stands in
      let n = get_or s at 0 in
      let bytes = take n (drop (at + 1) s) in
      let there = whole-there j s at n (at + 1) (number-reads 1 65 s at r.inside r.low r.high) h.ends in
      ap (λ g. g.at)
      (accepted-inj
      (sym e
      ∙ there
      ∙ judged-read (j.whole bytes) (j.find bytes (at + 1)) (j.has_fault bytes (at + 1)) (drop (at + 1 + n) s) (at + 1 + n) h.holds))

-- ---- the assignments

expect-tracks : (b : Bool) (n p : ℕ) → Tracks (expect b n p)
unfolding expect fault
expect-tracks true n p s at g e = give-tracks tt s at g e
expect-tracks false n p s at g e = refused≢accepted e

expect-stays : (b : Bool) (n p : ℕ) (s : List ℕ) (at : ℕ) (g : Got (Unit {0})) → expect b n p s at ≡ accepted g → g.at ≡ at
unfolding expect fault give
expect-stays true n p s at g e = ap (λ g. g.at) (sym (accepted-inj e))
expect-stays false n p s at g e = refused≢accepted e

assignments-tracks : (sc : Scope) (n : ℕ) (ts : List ℕ) → Tracks (assignments sc n ts)
unfolding assignments ◌>>=◌ ◌>>◌
assignments-tracks sc zero ts = give-tracks []
assignments-tracks sc (suc n) ts =
    then-tracks here _ here-tracks
    (λ at.
    then-tracks (number 0 sc.owns) _ (number-tracks 0 sc.owns)
    (λ t.
    then-tracks (expect (not (member t ts)) 4 at) _ (expect-tracks (not (member t ts)) 4 at)
    (λ _.
    then-tracks (expression (numbers sc)) _ (expression-tracks (numbers sc))
    (λ e.
    then-tracks (assignments sc n (t ∷ ts)) _ (assignments-tracks sc n (t ∷ ts))
    (λ rest. give-tracks (record { target = t; value = e } ∷ rest))))))

abbrev LinedUp : Scope → List ℕ → ℕ → ℕ → Action → Type 0
LinedUp sc s at n a = (length a ≡ n) × Lined sc s at a

assignments-lined : (sc : Scope) (s : List ℕ) (n : ℕ) (ts : List ℕ) (at : ℕ) (g : Got Action)
    → assignments sc n ts (drop at s) at ≡ accepted g → LinedUp sc s at n g.value
unfolding assignments ◌>>=◌ ◌>>◌ Lined
assignments-lined sc s zero ts at g e = subst (LinedUp sc s at 0) (given [] (drop at s) at g e) (refl, tt)
assignments-lined sc s (suc n) ts at g e =
    let h = here-at _ (drop at s) at g e in
    let i = then_at (number 0 sc.owns) _ (number-tracks 0 sc.owns) s at g h in
    let t = i.0.value in
    let test = not (member t ts) in
    let j = then_at (expect test 4 at) _ (expect-tracks test 4 at) s i.0.at g i.2 in
    let k = then_at (expression (numbers sc)) _ (expression-tracks (numbers sc)) s j.0.at g j.2 in
    let l = then_at (assignments sc n (t ∷ ts)) _ (assignments-tracks sc n (t ∷ ts)) s k.0.at g k.2 in
    let r = number_read 0 sc.owns s at i.0 i.1 in
    let stays = expect-stays test 4 at (drop i.0.at s) i.0.at j.0 j.1 in
    let first : j.0.at ≡ at + 1 = stays ∙ r.next in
    let there = subst (λ p. Stands (whole_num sc) s p k.0.value) first (expression-stands (numbers sc) s j.0.at k.0 k.1) in
    let after = expression-next (numbers sc) s j.0.at k.0 k.1 in
    let same : get_or s j.0.at 0 ≡ get_or s (at + 1) 0 = ap (λ p. get_or s p 0) first in
    let second : k.0.at ≡ at + 2 + get_or s (at + 1) 0 = omega (arith, after, same, first) in
    let rest = assignments-lined sc s n (t ∷ ts) k.0.at l.0 l.1 in
    subst (LinedUp sc s at (suc n)) (given _ (drop l.0.at s) l.0.at g l.2)
    (ap suc rest.0, (r.inside, sym r.value, there, subst (λ p. Lined sc s p l.0.value) second rest.1))

-- ---- the action

pub record ActionStands (sc : Scope) (s : List ℕ) (at : ℕ) (a : Action) : Type 0 where
  pub inside : at < length s
  pub count : get_or s at 0 ≡ length a
  pub few : length a ≤ 4
  pub lined : Lined sc s (at + 1) a

pub action-stands : (sc : Scope) (s : List ℕ) (at : ℕ) (a : Action) → ReadsAt s (action sc) at a → ActionStands sc s at a
unfolding action ◌>>=◌
action-stands sc s at a r =
    let g : Got Action = record { value = a; rest = drop r.0 s; at = r.0 } in
    let i = then_at (number 0 5) _ (number-tracks 0 5) s at g r.1 in
    let n = number_read 0 5 s at i.0 i.1 in
    let l = assignments-lined sc s i.0.value [] i.0.at g i.2 in
    record {
      inside = n.inside;
      count = sym (l.0 ∙ n.value);
      few = omega (arith, l.0, n.value, n.high);
      lined = subst (λ p. Lined sc s p a) n.next l.1;
    }

-- its count, where it stands
pub action-count : (sc : Scope) (s : List ℕ) (at : ℕ) (a : Action) → ReadsAt s (action sc) at a → (get_or s at 0 ≡ length a) × (at < length s)
action-count sc s at a r = let h = action-stands sc s at a r in (h.count, h.inside)
