-- Loops over a set by its iterator: what their invariant is, and how it goes on. Assumes nothing.
use Rattle.std.specs.Prelude.{ℕ, ◌+◌, ◌-◌, ◌<◌, ◌≤◌, min, ◌≡◌, ◌⊎◌, true, false, ltb, Some}
use Rattle.std.proofs.Common.{sym, ap, ◌∙◌, inl, inr, arith, ltb-true, ltb-false, subst}
use Rattle.std.proofs.lemmas.Bool.{false≢true}
use Rattle.lists.specs.Bits.{bit, NextIn, RestOf}
use Rattle.lists.specs.Iterating.{lowest_of, MemberGiven}
use Rattle.lists.specs.declared.Members.{Members}
use Rattle.lists.specs.Laws.Walks.{Walk, walk_first, walk-on, walk-next}
use Rattle.lists.specs.Laws.Through.{Through, through-next, through_here, through-all}
use Rattle.lists.specs.Laws.Booleans.{and_left, true-or-false}
use Rattle.lists.specs.Laws.Lowest.{lowest-of}

not-before : {set a b : ℕ} → NextIn set 0 a → NextIn set 0 b → a < b → ⊥
not-before {set} {a} {b} h k l =
    let m = k.most in
    false≢true (sym (k.passed a (omega arith) l) ∙ h.found (omega arith))

-- there is one lowest number
pub one-lowest : {set a b : ℕ} → NextIn set 0 a → NextIn set 0 b → a ≡ b
one-lowest {set} {a} {b} h k = go (true-or-false (ltb a b)) (true-or-false (ltb b a))
  where
    go : (ltb a b ≡ true) ⊎ (ltb a b ≡ false) → (ltb b a ≡ true) ⊎ (ltb b a ≡ false) → a ≡ b
    go (inl x) y = absurd (not-before h k (ltb-true a b x))
    go (inr x) (inl y) = absurd (not-before k h (ltb-true b a y))
    go (inr x) (inr y) = omega (arith, ltb-false a b x, ltb-false b a y)

pub lowest-is : {set r : ℕ} → NextIn set 0 r → r ≡ lowest_of set
lowest-is h = one-lowest h (lowest-of _)

-- the rest's lowest number is behind it
pub nearer : {set rest c : ℕ} → NextIn set 0 c → c < 64 → RestOf set rest → 64 - lowest_of rest < 64 - lowest_of set
nearer {set} {rest} {c} h l r = go (true-or-false (ltb d 64))
  where
    d : ℕ
    d = lowest_of rest

    n : NextIn rest 0 d
    n = lowest-of rest

    go : (ltb d 64 ≡ true) ⊎ (ltb d 64 ≡ false) → 64 - d < 64 - lowest_of set
    go (inl x) =
        let k : c < d = ltb-true c d (and_left (ltb c d) (bit set d) (sym (r.each c d h) ∙ n.found (ltb-true d 64 x))) in
        omega (arith, lowest-is h, k, ltb-true d 64 x)
    go (inr x) = omega (arith, lowest-is h, ltb-false d 64 x)

-- ---- a loop over the members of a set below n, where P k says what is done once the members below k are done

-- the invariant: the members below the one that comes next are done
pub record Going (set n : ℕ) (P : ℕ → Type 0) (it : Members) : Type 0 where
  pub few : n ≤ 64
  pub end : it.end ≡ n
  pub walk : Walk set it.left (lowest_of it.left)
  pub through : Through set n P (lowest_of it.left)

-- `it` gave c, and is `later` then: what `next` says in a turn
abbrev pub Turn : Members → ℕ → Members → Type 0
Turn it c later = MemberGiven it.end it.left (Some c) later.left × (later.end ≡ it.end)

-- what a turn knows of its number
pub record Here (set n : ℕ) (P : ℕ → Type 0) (c : ℕ) : Type 0 where
  pub below : c < n
  pub small : c < 64
  pub member : bit set c ≡ true
  pub done : P c

-- before the first turn. Numbers that are not in the set need nothing done
pub going-first : {set n : ℕ} {P : ℕ → Type 0} {it made : Members} → n ≤ 64 → it ≡ made → made.left ≡ set → made.end ≡ n
    → ((i : ℕ) → i < n → bit set i ≡ false → P i → P (i + 1)) → P 0 → Going set n P it
going-first {set} {n} {P} {it} {made} few same from to skip p =
    let e : it.left ≡ set = ap (λ m. m.left) same ∙ from in
    let h : NextIn set 0 (lowest_of it.left) = subst (λ s. NextIn set 0 (lowest_of s)) (sym e) (lowest-of set) in
    record {
      few = few;
      end = ap (λ m. m.end) same ∙ to;
      walk = subst (λ s. Walk set s (lowest_of it.left)) (sym e) (walk_first h);
      through = through-next h (omega arith) few (λ i a b f q. skip i b f q) p;
    }

module _ {set n : ℕ} {P : ℕ → Type 0} {it : Members} (g : Going set n P it) where
  pub going-here : {c : ℕ} {later : Members} → Turn it c later → Here set n P c
  going-here {c} t =
      let e : c ≡ lowest_of it.left = t.0.0 in
      let l : c < n = omega (arith, t.0.1, g.end) in
      record {
        below = l;
        small = t.0.2;
        member = subst (λ k. bit set k ≡ true) (sym e) (g.through.found (omega (arith, e, t.0.2)));
        done = subst P (sym e) (through_here g.through (omega (arith, e, l)));
      }

  -- after a turn. What is done may be said of other values then
  pub going-on : {P' : ℕ → Type 0} {c : ℕ} {later : Members} → Turn it c later
      → ((i : ℕ) → i < n → bit set i ≡ false → P' i → P' (i + 1)) → P' (c + 1) → Going set n P' later
  going-on {P'} {c} {later} t skip p =
      let e : c ≡ lowest_of it.left = t.0.0 in
      let h : NextIn later.left 0 (lowest_of later.left) = lowest-of later.left in
      let k : NextIn set (c + 1) (lowest_of later.left) =
      subst (λ k. NextIn set (k + 1) (lowest_of later.left)) (sym e) (walk-on g.walk t.0.3 h) in
      let few = g.few in
      record {
        few = few;
        end = t.1 ∙ g.end;
        walk = walk-next g.walk t.0.3 h;
        through = through-next k (omega (arith, t.0.1, g.end)) few (λ i a b f q. skip i b f q) p;
      }

  -- after the last
  pub going-end : min it.end 64 ≤ lowest_of it.left → P n
  going-end m = through-all g.through (omega (arith, m, g.end, g.few))
