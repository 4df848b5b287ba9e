-- Every call keeps every part within its limit. Assumes nothing.
use Rattle.std.specs.Prelude.{ℕ, ◌<◌, ◌≡◌, Bool, List, ltb, ℤ}
use Rattle.std.proofs.Math.Path.{refl, subst}
use Rattle.std.proofs.Common.{sym, ◌∙◌, eqb-true}
use Rattle.std.proofs.Math.Bool.{true, false}
use Rattle.std.proofs.Math.Dec.{eqb}
use Rattle.std.proofs.lemmas.Bool.{eqb-false}
use Rattle.lists.specs.Lists.{all_of}
use Rattle.deck.specs.Deck.{Deck, R, N}
use Rattle.deck.specs.Facts.{Formed}
use Rattle.deck.specs.Facts.{Scoped}
use Rattle.graph.specs.Acyclic.{Acyclic}
use Rattle.pool.specs.Updates.{Pair, channels, value_at, assign}
use Rattle.pool.specs.Places.{pairs_of}
use Rattle.pool.specs.States.{Machine}
use Rattle.pool.proofs.Laws.Values.{channels_in}
use Rattle.pool.proofs.Laws.Assigned.{assign-part}
use Rattle.pool.specs.Fine.{Fine}
use Rattle.passing.specs.Check.{within}
use Rattle.firing.specs.Firing.{set_and_fire, pick}
use Rattle.firing.proofs.Laws.Commits.{taken_out, pick_known, commit-either}
use Rattle.calls.proofs.Laws.Inputs.{input-known}
use Rattle.orders.specs.Calling.{Call}
use Rattle.orders.specs.Order.{Along, EveryWithin, EndsWithin}
use Rattle.orders.specs.Calculus.{satisfies}
use Rattle.orders.proofs.Laws.Known.{limit-same}
use Rattle.orders.proofs.Laws.Invariants.{InputKeeps, CommitKeeps, along-keeps}

module _ (d : Deck) (formed : Formed d) (scope : Scoped d) where
  -- a limit reads known own channels alone: what is assigned at another part, it does not see
  within-other : (p q : ℕ) (l : List Pair) (values : List ℤ) → all_of (λ c. ltb c (R d)) (channels_in l) ≡ true → (q ≡ p → ⊥)
      → within d q (assign p l values) ≡ within d q values
  unfolding within satisfies
  within-other p q l values known other =
      limit-same d scope (value_at (assign p l values) q) (value_at values q)
      (λ c low. assign-part (R d) p q c l values formed.channels other low known) q

  -- values that are set at a part leave every part within its limit where they leave that part so
  set-within : (p : ℕ) (l : List Pair) (x : Machine) → all_of (λ c. ltb c (R d)) (channels_in l) ≡ true
      → within d p (assign p l x.values) ≡ true → EveryWithin d x → EveryWithin d (set_and_fire d p l x)
  unfolding EveryWithin set_and_fire
  set-within p l x known here h q = go (eqb q p) refl
    where
      go : (b : Bool) → eqb q p ≡ b → q < N d → within d q (assign p l x.values) ≡ true
      go true e low = subst (λ j. within d j (assign p l x.values) ≡ true) (sym (eqb-true q p e)) here
      go false e low = within-other p q l x.values known (eqb-false q p e) ∙ h q low

  input-within : InputKeeps d (EveryWithin d)
  input-within x h p l low good here = set-within p (pairs_of l) x (input-known d l good) here h

  -- applied, a commit has tested its part; discarded, it changes no value
  commit-within : (C : ℕ) → CommitKeeps d (EveryWithin d) C
  unfolding channels EveryWithin
  commit-within C x f h k low =
      let u = pick k x.pending in
      commit-either d k x (λ _ y. EveryWithin d y)
      (λ here. set-within u.part u.pairs (taken_out k x) (pick_known d C x k f low).inside here h)
      (λ _. h)

pub along-within : (d : Deck) → Formed d → Acyclic d → Scoped d → (C : ℕ) (x : Machine) → Fine d C x → EveryWithin d x → (cs : List Call)
    → Along (EndsWithin d C) d C x cs
unfolding EndsWithin
along-within d formed acyclic scope C x f h cs =
    along-keeps d formed acyclic C (EveryWithin d) (input-within d formed scope) (commit-within d formed scope C) x f h cs
