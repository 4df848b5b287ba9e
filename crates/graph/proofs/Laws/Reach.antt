-- The rounds of `reached` give every channel that a path leads to, and only those; n rounds are enough. Assumes nothing.
use Prim.Native.Nat.{ℕ, zero, suc, ◌≤◌, ◌<◌, zero-le}
use Rattle.std.specs.Prelude.{◌≡◌, ◌↔◌, ◌⊎◌, Bool, false, ◌∷◌}
use Rattle.std.proofs.Math.Path.{refl, ap}
use Rattle.std.proofs.Common.{inl, inr}
use Rattle.std.proofs.Math.Logic.{⊎_elim}
use Rattle.std.proofs.Math.Bool.{true}
use native.Mathlib.Omega.{arith}
use Rattle.std.proofs.Math.Decide.{dec_lt}
use Rattle.std.proofs.Math.ListN.{length}
use Rattle.lists.specs.Lists.{below, member}
use Rattle.lists.specs.Laws.Booleans.{not-true→false, contradiction}
use Rattle.lists.specs.Laws.Members.{within-cons, member-head, member-tail, any_of-intro, any_of-within}
use Rattle.lists.specs.Laws.Lengths.{select-length, select-strict, select-same, select_short}
use Rattle.lists.specs.Laws.Below.{below_length, below-member}
use Rattle.graph.specs.Graph.{Reaches, one, more, reached, reaches_itself}
use Rattle.graph.proofs.Laws.Rounds.{passes, reached-is, in-round, last-edge, passes-again}

pub reaches-trans : {e : ℕ → ℕ → Bool} {a b c : ℕ} → Reaches e a b → Reaches e b c → Reaches e a c
reaches-trans p (one h) = more p h
reaches-trans p (more q h) = more (reaches-trans p q) h

module _ (n : ℕ) (e : ℕ → ℕ → Bool) where
  pub reached-sound : (k a b : ℕ) → member b (reached n e k a) ≡ true → Reaches e a b
  unfolding passes
  reached-sound zero a b m = contradiction ((in-round n e zero a b).0 m).1 refl
  reached-sound (suc k) a b m =
      ⊎_elim
      (λ h. one h)
      (λ h. more (reached-sound k a h.0 h.1) h.2)
      (last-edge n e k a b ((in-round n e (suc k) a b).0 m).1)

  reached-most : (k a : ℕ) → length (reached n e k a) ≤ n
  reached-most k a = omega (arith, ap length (reached-is n e k a), select-length (passes n e k a) (below n), below_length n)

  -- how many channels a path leads to from a
  unfoldable pub height : ℕ → ℕ
  height a = length (reached n e n a)

  pub height-most : (a : ℕ) → height a ≤ n
  unfolding height
  height-most a = reached-most n a

  -- round k + 1 finds nothing new
  Closed : ℕ → ℕ → Type 0
  Closed k a = (b : ℕ) → passes n e (suc k) a b ≡ true → member b (reached n e k a) ≡ true

  -- edges lead to channels below n
  module _ (inside : (a b : ℕ) → e a b ≡ true → b < n) where
    passes-below : (k a b : ℕ) → passes n e (suc k) a b ≡ true → member b (below n) ≡ true
    passes-below k a b t =
        ⊎_elim
        (λ h. (below-member n b).0 (inside a b h))
        (λ h. (below-member n b).0 (inside h.0 b h.2))
        (last-edge n e k a b t)

    -- no longer, so nothing new
    not-longer : (k a : ℕ) → length (reached n e (suc k) a) ≤ length (reached n e k a) → Closed k a
    unfolding Closed
    not-longer k a h b t =
        let m = passes-below k a b t in
        (in-round n e k a b).1 (
          m,
          select-same (passes n e k a) (passes n e (suc k) a) (below n) (λ c _. passes-again n e k a c)
              (omega (arith, ap length (reached-is n e k a), ap length (reached-is n e (suc k) a))) b m t,
        )

    closed-stays : (k a : ℕ) → Closed k a → Closed (suc k) a
    unfolding Closed passes
    closed-stays k a h b t =
        (in-round n e (suc k) a b).1 (
          passes-below (suc k) a b t,
          any_of-within (λ c. e c b) (a ∷ reached n e (suc k) a) (a ∷ reached n e k a)
              (within-cons a (reached n e (suc k) a) (reached n e k a) (λ c m. h c ((in-round n e (suc k) a c).0 m).1))
              t,
        )

    -- each round adds a channel until one adds none
    grows : (k a : ℕ) → Closed k a ⊎ (k ≤ length (reached n e k a))
    grows zero a = inr zero-le
    grows (suc k) a =
        ⊎_elim
        (λ h. inl (closed-stays k a h))
        (λ h. go h (dec_lt (length (reached n e k a)) (length (reached n e (suc k) a))))
        (grows k a)
      where
        go : k ≤ length (reached n e k a) → Dec (length (reached n e k a) < length (reached n e (suc k) a))
            → Closed (suc k) a ⊎ (suc k ≤ length (reached n e (suc k) a))
        go h (yes l) = inr (omega arith)
        go h (no l) = inl (closed-stays k a (not-longer k a (omega arith)))

    closed : (a : ℕ) → Closed n a
    closed a = ⊎_elim (λ h. h) (λ h. not-longer n a (omega (arith, reached-most (suc n) a))) (grows n a)

    pub reached-complete : {a b : ℕ} → Reaches e a b → member b (reached n e n a) ≡ true
    unfolding Closed passes
    reached-complete {a} {b} (one h) =
        closed a b (any_of-intro (λ c. e c b) (a ∷ reached n e n a) a (member-head a (reached n e n a)) h)
    reached-complete {a} (more {b = b} {c = c} p h) =
        let m = member-tail b a (reached n e n a) (reached-complete p) in
        closed a c (any_of-intro (λ d. e d c) (a ∷ reached n e n a) b m h)

    pub reaches-itself : (a : ℕ) → (reaches_itself n e a ≡ true) ↔ Reaches e a a
    unfolding reaches_itself
    reaches-itself a = (reached-sound n a a, λ p. reached-complete p)

    module _ (acyclic : (a : ℕ) → Reaches e a a → ⊥) where
      not_itself : (a : ℕ) → a < n → passes n e n a a ≡ false
      not_itself a l =
          not-true→false (passes n e n a a)
          (λ t. acyclic a (reached-sound n a a ((in-round n e n a a).1 ((below-member n a).0 l, t))))

      pub height-less : (a : ℕ) → a < n → height a < n
      unfolding height
      height-less a l =
          omega (
            arith,
            ap length (reached-is n e n a),
            select_short (passes n e n a) (below n) a ((below-member n a).0 l) (not_itself a l),
            below_length n,
          )

      -- what b reaches a reaches too, and b besides
      pub height-falls : {a b : ℕ} → e a b ≡ true → height b < height a
      unfolding height
      height-falls {a} {b} h =
          omega (
            arith,
            ap length (reached-is n e n a),
            ap length (reached-is n e n b),
            select-strict (passes n e n b) (passes n e n a) (below n) b further
                ((below-member n b).0 (inside a b h))
                (not_itself b (inside a b h))
                ((in-round n e n a b).0 (reached-complete (one h))).1,
          )
        where
          further : (c : ℕ) → member c (below n) ≡ true → passes n e n b c ≡ true → passes n e n a c ≡ true
          further c m t =
              let p = reached-sound n b c ((in-round n e n b c).1 (m, t)) in
              ((in-round n e n a c).0 (reached-complete (reaches-trans (one h) p))).1
