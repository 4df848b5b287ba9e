-- A firing adds at most the charges of the active rules, so that setting channels adds less than the charge of an update that
-- sets them. Assumes nothing.
use Prim.Native.Nat.{ℕ, ◌+◌, ◌≤◌, ◌<◌}
use Rattle.std.specs.Prelude.{◌≡◌, true, false, ◌&&◌, cond, ℤ}
use Rattle.std.proofs.Math.Path.{refl, ap, subst}
use Rattle.std.proofs.Common.{sym, ◌∙◌}
use Rattle.std.proofs.Math.Logic.{⊎_elim}
use Rattle.std.proofs.Math.Bool.{Bool, not}
use mathlib.Core.List.{List, [], ◌∷◌, ◌++◌, map, flat_map}
use native.Mathlib.Omega.{arith}
use Rattle.std.proofs.Math.Nat.{add-zero}
use borrow.Author.Tests.{not-true}
use Rattle.lists.specs.Lists.{lists, sum_of, below, member, eq_z}
use Rattle.lists.specs.Laws.Booleans.{true-or-false, contradiction}
use Rattle.lists.specs.Laws.Filters.{select-member}
use Rattle.lists.specs.Laws.Equalities.{eq_z-refl}
use Rattle.lists.specs.Laws.Sums.{sum_of-mono, sum_of-map, sum_of-flat_map, sum_of-plus, sum_of-zero}
use Rattle.deck.specs.Deck.{Deck, Action, Rule, R, N, rule_at, targets, active}
use Rattle.graph.specs.Acyclic.{KnownTargets, Acyclic}
use Rattle.charge.specs.Charge.{others, receivers, unless_empty, update_charge, rule_charge, charges}
use Rattle.charge.proofs.Laws.Equations.{charge-of-rule}
use Rattle.pool.specs.Updates.{Pair, Update, channels, value_at, assign, charge}
use Rattle.pool.proofs.Laws.Values.{channels_in, assign_other}
use Rattle.firing.specs.Firing.{evaluated, sent, holds, fired_here, fired_there, fired, changed}
use Rattle.firing.proofs.Laws.Firing.{sent-channels}
use Rattle.firing.proofs.Laws.Enqueue.{one, charge-append}

module _ (d : Deck) where
  -- what an action is charged at part q
  abbrev at : ℕ → Action → ℕ
  at q a = unless_empty (targets a) (update_charge d q (targets a))

  charge-none : charge d [] ≡ 0
  unfolding charge lists
  charge-none = refl

  sum_one : (f : ℕ → ℕ) (p : ℕ) → sum_of f (p ∷ []) ≡ f p
  unfolding lists
  sum_one f p = add-zero (f p)

  charge-flat_map : {A : Type 0} (g : A → List Update) (l : List A) → charge d (flat_map g l) ≡ sum_of (λ x. charge d (g x)) l
  unfolding charge
  charge-flat_map g l = sum_of-flat_map (one d) g l

  module _ (values : List ℤ) (p : ℕ) where
    sent-charge : (q : ℕ) (a : Action) → charge d (sent values p q a) ≡ at q a
    unfolding sent charge lists targets charges channels
    sent-charge q [] = refl
    sent-charge q (s ∷ a) =
        add-zero (one d (record { part = q; pairs = map (evaluated values p q) (s ∷ a) }))
        ∙ ap (update_charge d q) (sent-channels values p q (s ∷ a))

    -- an action that is sent or not
    maybe-charge : (b : Bool) (q : ℕ) (a : Action) → charge d (cond b (sent values p q a) []) ≤ at q a
    maybe-charge true q a = omega (arith, sent-charge q a)
    maybe-charge false q a = omega (arith, charge-none)

    -- only assigned channels change
    pub changed-assigned : (l : List Pair) (c : ℕ) → member c (changed d p values (assign p l values)) ≡ true
        → member c (channels_in l) ≡ true
    unfolding changed
    changed-assigned l c m =
        let t : ℕ → Bool = λ c. not (eq_z (value_at values p c) (value_at (assign p l values) p c)) in
        let differs = not-true (eq_z (value_at values p c) (value_at (assign p l values) p c)) ((select-member t (below (R d)) c).0 m).1 in
        ⊎_elim
        (λ y. y)
        (λ n. contradiction (ap (eq_z (value_at values p c)) (assign_other p c l values n) ∙ eq_z-refl (value_at values p c)) differs)
        (true-or-false (member c (channels_in l)))

    module _ (known : KnownTargets d) (acyclic : Acyclic d) (lp : p < N d) where
      -- what rule r adds, at p and at the other parts
      rule-most : (r : ℕ)
          → charge d (fired_here values p (rule_at d r)) + charge d (flat_map (fired_there values p (rule_at d r)) (others d p))
          ≤ rule_charge d p r
      unfolding fired_here fired_there receivers
      rule-most r =
          subst (λ (n : ℕ). charge d (fired_here values p rule) + charge d (flat_map (fired_there values p rule) (others d p)) ≤ n)
          (sym (charge-of-rule known acyclic p r lp)) (go rule.everywhere)
        where
          rule : Rule
          rule = rule_at d r

          -- what the rule sends to part q
          there : Bool → ℕ → List Update
          there b q = cond (b && holds values p q rule) (sent values p q rule.action) []

          go : (b : Bool)
              → charge d (sent values p p rule.default ++ cond (not b && holds values p p rule) (sent values p p rule.action) [])
              + charge d (flat_map (λ q. cond (b && holds values p q rule) (sent values p q rule.action) []) (others d p))
              ≤ at p rule.default + sum_of (λ q. at q rule.action) (cond b (others d p) (p ∷ []))
          go true =
              omega (
                arith,
                charge-append d (sent values p p rule.default) [],
                charge-none,
                sent-charge p rule.default,
                charge-flat_map (there true) (others d p),
                sum_of-mono (λ q. charge d (there true q)) (λ q. at q rule.action) (others d p)
                    (λ q m. maybe-charge (holds values p q rule) q rule.action),
              )
          go false =
              omega (
                arith,
                charge-append d (sent values p p rule.default) (there' (holds values p p rule)),
                sent-charge p rule.default,
                maybe-charge (holds values p p rule) p rule.action,
                charge-flat_map (there false) (others d p),
                sum_of-zero (λ q. charge d (there false q)) (others d p) (λ q. charge-none),
                sum_one (λ q. at q rule.action) p,
              )
            where
              there' : Bool → List Update
              there' b = cond b (sent values p p rule.action) []

      -- a firing adds at most the charges of the active rules
      pub fired-most : (cs : List ℕ) → charge d (fired d values p cs) ≤ sum_of (rule_charge d p) (active d p cs)
      unfolding fired
      fired-most cs =
          let rs = active d p cs in
          let here : Rule → List Update = fired_here values p in
          let there : Rule → List Update = λ r. flat_map (fired_there values p r) (others d p) in
          omega (
            arith,
            charge-append d (flat_map here (map (rule_at d) rs)) (flat_map there (map (rule_at d) rs)),
            over-rules here rs,
            over-rules there rs,
            sum_of-plus (λ r. charge d (here (rule_at d r))) (λ r. charge d (there (rule_at d r))) rs,
            sum_of-mono (λ r. charge d (here (rule_at d r)) + charge d (there (rule_at d r))) (rule_charge d p) rs (λ r m. rule-most r),
          )
        where
          over-rules : (g : Rule → List Update) (rs : List ℕ)
              → charge d (flat_map g (map (rule_at d) rs)) ≡ sum_of (λ r. charge d (g (rule_at d r))) rs
          over-rules g rs = charge-flat_map g (map (rule_at d) rs) ∙ sum_of-map (λ r. charge d (g r)) (rule_at d) rs
