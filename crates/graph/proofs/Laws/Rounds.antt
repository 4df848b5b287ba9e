-- A round of `reached` as a filter of the channels below n, and what its test says. Assumes nothing.
use Prim.Native.Nat.{ℕ, zero, suc}
use Rattle.std.specs.Prelude.{◌≡◌, ◌↔◌, ◌⊎◌, Bool, true, false, ◌∷◌}
use Rattle.std.proofs.Math.Path.{refl, sym}
use Rattle.std.proofs.Common.{ap, ◌∙◌}
use Rattle.std.proofs.Math.Logic.{inl, inr, ⊎_elim}
use Rattle.std.proofs.lemmas.Bool.{false≢true}
use Rattle.lists.specs.Lists.{any_of, select, below, member}
use Rattle.lists.specs.Laws.Members.{within-cons, member-cases, any_of-found, any_of-within}
use Rattle.lists.specs.Laws.Filters.{select-member, select-none}
use Rattle.graph.specs.Graph.{reached}

module _ (n : ℕ) (e : ℕ → ℕ → Bool) where
  -- the test that round k keeps a channel by
  unfoldable pub passes : ℕ → ℕ → ℕ → Bool
  passes zero a c = false
  passes (suc k) a c = any_of (λ b. e b c) (a ∷ reached n e k a)

  pub reached-is : (k a : ℕ) → reached n e k a ≡ select (passes k a) (below n)
  unfolding reached passes
  reached-is zero a = sym ((select-none (λ _. false) (below n)).1 (λ _ _. refl))
  reached-is (suc k) a = refl

  pub in-round : (k a b : ℕ) → (member b (reached n e k a) ≡ true) ↔ ((member b (below n) ≡ true) × (passes k a b ≡ true))
  in-round k a b = rw (reached-is k a) (select-member (passes k a) (below n) b)

  -- the last edge of a path that a round found
  pub last-edge : (k a c : ℕ) → passes (suc k) a c ≡ true
      → (e a c ≡ true) ⊎ ((b : ℕ) × (member b (reached n e k a) ≡ true) × (e b c ≡ true))
  unfolding passes
  last-edge k a c t =
      let found = any_of-found (λ b. e b c) (a ∷ reached n e k a) t in
      ⊎_elim
      (λ h. inl (ap (λ b. e b c) (sym h) ∙ found.2))
      (λ h. inr (found.0, h, found.2))
      (member-cases found.0 a (reached n e k a) found.1)

  -- a round keeps what the one before it found
  pub passes-again : (k a c : ℕ) → passes k a c ≡ true → passes (suc k) a c ≡ true
  unfolding passes
  passes-again zero a c t = absurd (false≢true t)
  passes-again (suc k) a c t =
      any_of-within (λ b. e b c) (a ∷ reached n e k a) (a ∷ reached n e (suc k) a)
      (within-cons a (reached n e k a) (reached n e (suc k) a)
      (λ b m. let h = (in-round k a b).0 m in (in-round (suc k) a b).1 (h.0, passes-again k a b h.1)))
      t
