-- Graphs that agree below n: the same is reached, and the same channels can reach themselves. Assumes nothing.
use Prim.Native.Nat.{ℕ, zero, suc, ◌<◌}
use Rattle.std.specs.Prelude.{◌≡◌, Bool, ◌&&◌, ◌∷◌, ltb}
use Rattle.std.proofs.Math.Path.{refl, ap}
use Rattle.std.proofs.Common.{◌∙◌, arith, ltb-true, lt-ltb}
use Rattle.std.proofs.Math.Logic.{⊎_elim}
use Rattle.std.proofs.Math.Bool.{true}
use Rattle.lists.specs.Lists.{any_of, select, below, member}
use Rattle.lists.specs.Laws.Booleans.{and_left}
use Rattle.lists.specs.Laws.Members.{member-cases}
use Rattle.lists.specs.Laws.Below.{below-member}
use Rattle.lists.specs.Laws.Agreement.{any_of-agree, select-agree}
use Rattle.graph.specs.Graph.{reached, reaches_itself}
use Rattle.graph.specs.Masks.{inner}
use Rattle.graph.proofs.Laws.Rounds.{in-round}

module _ (n : ℕ) (e f : ℕ → ℕ → Bool) (agree : (a b : ℕ) → a < n → b < n → e a b ≡ f a b) where
  pub reached-agree : (k a : ℕ) → a < n → reached n e k a ≡ reached n f k a
  unfolding reached
  reached-agree zero a l = refl
  reached-agree (suc k) a l =
      select-agree (λ c. any_of (λ b. e b c) (a ∷ reached n e k a)) (λ c. any_of (λ b. f b c) (a ∷ reached n f k a)) (below n) λ c m.
      ap (λ r. any_of (λ b. e b c) (a ∷ r)) (reached-agree k a l)
      ∙ any_of-agree (λ b. e b c) (λ b. f b c) (a ∷ reached n f k a) (λ b h. agree b c (source b h) ((below-member n c).1 m))
    where
      source : (b : ℕ) → member b (a ∷ reached n f k a) ≡ true → b < n
      source b h =
          ⊎_elim
          (λ q. omega arith)
          (λ q. (below-member n b).1 ((in-round n f k a b).0 q).0)
          (member-cases b a (reached n f k a) h)

  pub itself-agree : (a : ℕ) → a < n → reaches_itself n e a ≡ reaches_itself n f a
  unfolding reaches_itself
  itself-agree a l = ap (member a) (reached-agree n a l)

  pub cyclic-agree : select (reaches_itself n e) (below n) ≡ select (reaches_itself n f) (below n)
  cyclic-agree =
      select-agree (reaches_itself n e) (reaches_itself n f) (below n) (λ a m. itself-agree a ((below-member n a).1 m))

-- the inner edges lead to channels below n, and are all edges that do
pub inner_below : (n : ℕ) (e : ℕ → ℕ → Bool) (a b : ℕ) → inner n e a b ≡ true → b < n
unfolding inner
inner_below n e a b h = ltb-true b n (and_left (ltb b n) (e a b) h)

pub inner-edge : (n : ℕ) (e : ℕ → ℕ → Bool) (a b : ℕ) → b < n → inner n e a b ≡ e a b
unfolding inner
inner-edge n e a b l = ap (λ t. t && e a b) (lt-ltb b n l)
