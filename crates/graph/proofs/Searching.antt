-- The rounds of the search: the set lies between what k rounds of the definition give and what can be reached.
-- Assumes nothing.
use Prim.Native.Nat.{ℕ, zero, suc, ◌+◌, ◌^◌, ◌<◌}
use mathlib.Core.Path.{◌≡◌, refl, sym, ap, ◌∙◌, subst}
use mathlib.Core.Logic.{◌⊎◌, inl, inr, ⊎_elim}
use mathlib.Core.Bool.{Bool, true, false, not, cond}
use mathlib.Core.List.{List}
use native.Mathlib.Numerals.{add-one}
use lib.Bits.{bit_xor}
use lib.Dec.{eqb}
use borrow.Author.Tests.{eqb-true, eq-eqb}
use Rattle.lists.specs.Lists.{member}
use Rattle.lists.specs.Bits.{bit}
use Rattle.lists.specs.Laws.Booleans.{contradiction, not-true→false, true-or-false}
use Rattle.lists.specs.Laws.Members.{member-empty}
use Rattle.lists.specs.Laws.Below.{below-member}
use Rattle.lists.specs.Laws.Bits.{bit-zero, bit-power, bit-xor}
use Rattle.graph.specs.Graph.{Reaches, one, more, reached, reaches_itself}
use Rattle.graph.specs.Masks.{edge_at, inner, Spread}
use Rattle.graph.proofs.Laws.Rounds.{in-round, last-edge}
use Rattle.graph.proofs.Laws.Reach.{reaches-itself}
use Rattle.graph.proofs.Laws.Agreement.{itself-agree, inner_below, inner-edge}

-- a round from a makes t of the set s: it adds what one edge more leads to, and nothing that a cannot reach
record Round (n : ℕ) (e : ℕ → ℕ → Bool) (a s t : ℕ) : Type 0 where
  keeps : (c : ℕ) → bit s c ≡ true → bit t c ≡ true
  base : (c : ℕ) → e a c ≡ true → bit t c ≡ true
  grows : (b c : ℕ) → b < n → bit s b ≡ true → e b c ≡ true → bit t c ≡ true
  sound : ((c : ℕ) → c < n → bit s c ≡ true → Reaches (inner n e) a c)
      → (c : ℕ) → c < n → bit t c ≡ true → Reaches (inner n e) a c

-- k rounds from a give channels of s only
abbrev pub Within : ℕ → (ℕ → ℕ → Bool) → ℕ → ℕ → ℕ → Type 0
Within n e a k s = (c : ℕ) → member c (reached n e k a) ≡ true → bit s c ≡ true

module _ (n : ℕ) (e : ℕ → ℕ → Bool) (a : ℕ) where
  within_none : (s : ℕ) → Within n e a zero s
  unfolding reached
  within_none s c h = member-empty c h

  within_more : (k s t : ℕ) → Round n e a s t → Within n e a k s → Within n e a (suc k) t
  within_more k s t w all c h =
      ⊎_elim
      (λ p. w.base c p)
      (λ p. w.grows p.0 c ((below-member n p.0).1 ((in-round n e k a p.0).0 p.1).0) (all p.0 p.1) p.2)
      (last-edge n e k a c ((in-round n e (suc k) a c).0 h).1)

  -- a set that a round does not enlarge has what any number of rounds gives
  within-closed : (k s : ℕ) → Round n e a s s → Within n e a k s
  within-closed zero s w = within_none s
  within-closed (suc k) s w = within_more k s s w (within-closed k s w)

  not_itself : (s : ℕ) → Within n e a n s → bit s a ≡ false → reaches_itself n e a ≡ false
  unfolding reaches_itself
  not_itself s all away = not-true→false (reaches_itself n e a) (λ y. contradiction (all a y) away)

-- k rounds from a have been made, and a is not reached. Only the channels of f, all of them a or in s, may have edges to
-- channels outside s
pub record Searching (n : ℕ) (xs : List ℕ) (a s f k : ℕ) : Type 0 where
  pub lower : Within n (edge_at xs) a k s
  pub upper : (c : ℕ) → c < n → bit s c ≡ true → Reaches (inner n (edge_at xs)) a c
  pub away : bit s a ≡ false
  pub fresh : (c : ℕ) → bit f c ≡ true → (c ≡ a) ⊎ (bit s c ≡ true)
  pub front : (b c : ℕ) → b < n → (b ≡ a) ⊎ (bit s b ≡ true) → bit f b ≡ false → edge_at xs b c ≡ true → bit s c ≡ true

pub searching-none : (n : ℕ) (xs : List ℕ) (a f : ℕ) → f ≡ 2 ^ a → Searching n xs a 0 f 0
searching-none n xs a f q =
    record {
      lower = within_none n (edge_at xs) a 0;
      upper = λ c l h. contradiction h (bit-zero c);
      away = bit-zero a;
      fresh = λ c h. inl (eqb-true c a (sym (here c) ∙ h));
      front = λ b c l w off g. ⊎_elim (λ e. contradiction (here b ∙ eq-eqb b a e) off) (λ h. contradiction h (bit-zero b)) w;
    }
  where
    here : (c : ℕ) → bit f c ≡ eqb c a
    here c = ap (λ x. bit x c) q ∙ bit-power a c

-- what differs between two sets
differs-on : (x y : Bool) → cond x (not y) y ≡ true → (x ≡ true) ⊎ (y ≡ true)
differs-on true y h = inl refl
differs-on false y h = inr h

differs-off : (x y : Bool) → cond x (not y) y ≡ false → x ≡ true → y ≡ true
differs-off true true h e = refl
differs-off true false h e = sym h
differs-off false y h e = contradiction e refl

module _ {n : ℕ} {xs : List ℕ} {a s f k : ℕ} (r : Searching n xs a s f k) (la : a < n) where
  -- what the edges from f add is all that a round from a adds
  from-edges : {t : ℕ} → Spread n (edge_at xs) f s t → (b c : ℕ) → b < n → (b ≡ a) ⊎ (bit s b ≡ true) → edge_at xs b c ≡ true
      → bit t c ≡ true
  from-edges w b c l h g =
      ⊎_elim (λ on. w.grows b c l on g) (λ off. w.keeps c (r.front b c l h off g)) (true-or-false (bit f b))

  reached-by : (b c : ℕ) → b < n → c < n → (b ≡ a) ⊎ (bit s b ≡ true) → edge_at xs b c ≡ true → Reaches (inner n (edge_at xs)) a c
  reached-by b c lb lc h g =
      let e : inner n (edge_at xs) b c ≡ true = inner-edge n (edge_at xs) b c lc ∙ g in
      ⊎_elim (λ q. one (ap (λ x. inner n (edge_at xs) x c) (sym q) ∙ e)) (λ y. more (r.upper b lb y) e) h

  round : {t : ℕ} → Spread n (edge_at xs) f s t → Round n (edge_at xs) a s t
  round w =
      record {
        keeps = w.keeps;
        base = λ c g. from-edges w a c la (inl refl) g;
        grows = λ b c l h g. from-edges w b c l (inr h) g;
        sound = λ up c l h.
            ⊎_elim (λ y. up c l y) (λ p. reached-by p.0 c p.1 l (r.fresh p.0 p.2) p.3) (w.sound c h);
      }

  pub searching-more : {t : ℕ} → Spread n (edge_at xs) f s t → bit t a ≡ false → Searching n xs a t (bit_xor t s) (k + 1)
  searching-more {t} w miss =
      record {
        lower = λ c h. within_more n (edge_at xs) a k s t (round w) r.lower c (rw add-one at h);
        upper = (round w).sound r.upper;
        away = miss;
        fresh = λ c h. inr (⊎_elim (λ y. y) (λ y. w.keeps c y) (differs-on (bit t c) (bit s c) (sym (bit-xor t s c) ∙ h)));
        front = λ b c l h off g.
            from-edges w b c l
            (⊎_elim (λ q. inl q) (λ y. inr (differs-off (bit t b) (bit s b) (sym (bit-xor t s b) ∙ off) y)) h) g;
      }

  -- a is reached
  pub searching-hit : {t : ℕ} → Spread n (edge_at xs) f s t → bit t a ≡ true → reaches_itself n (edge_at xs) a ≡ true
  searching-hit w y =
      sym (itself-agree n (inner n (edge_at xs)) (edge_at xs) (λ b c _ m. inner-edge n (edge_at xs) b c m) a la)
      ∙ (reaches-itself n (inner n (edge_at xs)) (inner_below n (edge_at xs)) a).1 ((round w).sound r.upper a la y)

  -- n rounds are enough
  pub searching-miss : k ≡ n → reaches_itself n (edge_at xs) a ≡ false
  searching-miss q =
      not_itself n (edge_at xs) a s (subst (λ (j : ℕ). Within n (edge_at xs) a j s) q r.lower) r.away

  -- and so is a round that sees nothing new
  pub searching-closed : {t : ℕ} → Spread n (edge_at xs) f s t → t ≡ s → reaches_itself n (edge_at xs) a ≡ false
  searching-closed w q =
      let same = subst (λ (u : ℕ). Round n (edge_at xs) a s u) q (round w) in
      not_itself n (edge_at xs) a s (within-closed n (edge_at xs) a n s same) r.away
