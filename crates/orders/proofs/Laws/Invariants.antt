-- What every accepted input and every commit of a pending place keeps, every call of a list keeps. Assumes nothing.
use Prim.Native.Nat.{ℕ, zero, suc, ◌<◌}
use Rattle.std.specs.Prelude.{◌≡◌, Bool, cond, leb, ltb, ℤ}
use Rattle.std.proofs.Math.Path.{refl}
use Rattle.std.proofs.Math.Bool.{true, false}
use mathlib.Core.List.{List, [], ◌∷◌}
use Rattle.std.proofs.Math.ListN.{length}
use Rattle.std.proofs.Common.{ltb-true}
use Rattle.lists.specs.Lists.{is_empty}
use Rattle.refusals.specs.Outcome.{Outcome}
use Rattle.refusals.specs.Numbers.{unknown_part, bad_input, input_outside, over_capacity, place_not_pending, budget_too_large}
use Rattle.deck.specs.Deck.{Deck, N}
use Rattle.deck.specs.Facts.{Formed}
use Rattle.graph.specs.Acyclic.{Acyclic}
use Rattle.pool.specs.Updates.{assign}
use Rattle.pool.specs.Places.{pairs_of}
use Rattle.pool.specs.States.{Machine}
use Rattle.pool.specs.Fine.{Fine}
use Rattle.passing.specs.Check.{within}
use Rattle.firing.specs.Firing.{set_and_fire, committed}
use Rattle.firing.proofs.Laws.Commits.{commit-fine}
use Rattle.calls.specs.Calls.{good_input}
use Rattle.orders.specs.Calling.{Call, input, commit, settle}
use Rattle.orders.specs.Listed.{turn, turns, ending, Taken, taken, machine_after}
use Rattle.orders.specs.Order.{Along}
use Rattle.orders.proofs.Laws.Taking.{guard, some-pending, taking}

module _ (d : Deck) (P : Machine → Type 0) where
  -- an input that passed its tests keeps it
  abbrev pub InputKeeps : Type 0
  InputKeeps =
      (x : Machine) → P x → (p : ℕ) (l : List ℤ) → p < N d → good_input d l ≡ true → within d p (assign p (pairs_of l) x.values) ≡ true
      → P (set_and_fire d p (pairs_of l) x)

  -- a commit of a pending place keeps it
  abbrev pub CommitKeeps : ℕ → Type 0
  CommitKeeps C = (x : Machine) → Fine d C x → P x → (k : ℕ) → k < length x.pending → P (committed d k x).machine

module _ (d : Deck) (formed : Formed d) (acyclic : Acyclic d) (C : ℕ) (P : Machine → Type 0)
    (input-keeps : InputKeeps d P) (commit-keeps : CommitKeeps d P C) where
  turns-keep : (b : ℕ) (x : Machine) → Fine d C x → P x → P (ending x (turns d b x))
  unfolding turns ending turn
  turns-keep zero x f h = h
  turns-keep (suc b) x f h =
      go (is_empty x.pending) refl
      (λ some. turns-keep b (committed d 0 x).machine (commit-fine d formed acyclic C 0 x f some) (commit-keeps x f h 0 some))
    where
      go : (e : Bool) → is_empty x.pending ≡ e
          → (0 < length x.pending → P (ending (turn d 0 x).after (turns d b (turn d 0 x).after)))
          → P (ending x (cond e [] (turn d 0 x ∷ turns d b (turn d 0 x).after)))
      go true e later = h
      go false e later = later (some-pending x.pending e)

  call-keeps : (x : Machine) → Fine d C x → P x → (c : Call) → P (machine_after x (taken d C x c))
  unfolding taken machine_after turn
  call-keeps x f h (input p l) =
      let kept : Outcome Taken → Type 0 = λ o. P (machine_after x o) in
      guard kept (ltb p (N d)) unknown_part _ h
      (λ lp.
      guard kept (good_input d l) bad_input _ h
      (λ good.
      guard kept _ input_outside _ h
      (λ here. guard kept _ over_capacity _ h (λ _. input-keeps x h p l (ltb-true p (N d) lp) good here))))
  call-keeps x f h (commit k) =
      guard (λ o. P (machine_after x o)) (ltb k (length x.pending)) place_not_pending _ h
      (λ low. commit-keeps x f h k (ltb-true k (length x.pending) low))
  call-keeps x f h (settle b) =
      guard (λ o. P (machine_after x o)) (leb b 65535) budget_too_large _ h (λ _. turns-keep b x f h)

  -- so it holds after every call of a list, accepted or refused
  pub along-keeps : (x : Machine) → Fine d C x → P x → (cs : List Call) → Along (λ y c. P (machine_after y (taken d C y c))) d C x cs
  unfolding Along
  along-keeps x f h [] = tt
  along-keeps x f h (c ∷ cs) =
      let after = call-keeps x f h c in
      (after, along-keeps (machine_after x (taken d C x c)) (taking d formed acyclic C x f c).fine after cs)
