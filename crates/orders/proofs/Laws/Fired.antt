-- What a firing adds at its own part is what the calculus adds to that node, the default and local updates. Assumes nothing.
use Rattle.std.specs.Prelude.{ℕ, ◌<◌, ◌≡◌, refl, Bool, true, false, not, ◌&&◌, cond, eqb, ℤ}
use Rattle.std.proofs.Common.{sym, ◌∙◌, eq-eqb, ne_eqb}
use Rattle.std.proofs.Math.Path.{ap, ap₂, fun_ext}
use Rattle.std.proofs.Math.Bool.{◌||◌, and-false, or-false}
use mathlib.Core.List.{List, [], ◌∷◌, ◌++◌, map, flat_map}
use Rattle.std.proofs.lemmas.Bool.{eqb-false, not-true}
use Rattle.lists.specs.Lists.{lists, any_of, select, below, member, is_empty, eq_list}
use Rattle.lists.specs.Laws.Anys.{any_of-append, any_of-select, any_of-cond, any_of-or, any_of-none, any_of-map, any_of-flat_map, any_of-fails}
use Rattle.lists.specs.Laws.Filters.{select-member}
use Rattle.lists.specs.Laws.Below.{below-member}
use Rattle.deck.specs.Deck.{Deck, Action, Rule, N}
use Rattle.charge.specs.Charge.{others}
use Rattle.pool.specs.Updates.{Pair, Update, value_at, eq_pair, eq_update, is_among}
use Rattle.firing.specs.Firing.{evaluated, sent, holds, fired_here, fired_there}
use Rattle.orders.specs.Calculus.{State, evaluate, updates_from, satisfies}

abbrev pub at : ℕ → List Pair → Update
at q u = record { part = q; pairs = u }

-- w is not empty, and is u
abbrev pub makes : List Pair → List Pair → Bool
makes u w = not (is_empty w) && eq_list eq_pair u w

-- a rule of kind 0 whose condition holds
abbrev pub local : State → Rule → Bool
local s r = not r.everywhere && satisfies s r.condition

-- ---- one action

pub sent-among : (values : List ℤ) (p q : ℕ) (a : Action) (u : List Pair)
    → is_among (at q u) (sent values p q a) ≡ makes u (map (evaluated values p q) a)
unfolding sent is_among eq_update lists
sent-among values p q [] u = refl
sent-among values p q (x ∷ a) u =
    let same : Bool = eq_list eq_pair u (map (evaluated values p q) (x ∷ a)) in
    or-false (eqb q q && same) ∙ ap (λ b. b && same) (eq-eqb q q refl)

pub sent-elsewhere : (values : List ℤ) (p q q' : ℕ) (a : Action) (u : List Pair) → (q' ≡ q → ⊥)
    → is_among (at q' u) (sent values p q a) ≡ false
unfolding sent is_among eq_update lists
sent-elsewhere values p q q' [] u h = refl
sent-elsewhere values p q q' (x ∷ a) u h =
    let same : Bool = eq_list eq_pair u (map (evaluated values p q) (x ∷ a)) in
    or-false (eqb q' q && same) ∙ ap (λ b. b && same) (ne_eqb q' q h)

pub cond-elsewhere : (values : List ℤ) (p q q' : ℕ) (a : Action) (u : List Pair) (b : Bool) → (q' ≡ q → ⊥)
    → is_among (at q' u) (cond b (sent values p q a) []) ≡ false
unfolding is_among
cond-elsewhere values p q q' a u b h =
    any_of-cond (eq_update (at q' u)) b (sent values p q a) ∙ ap (λ t. b && t) (sent-elsewhere values p q q' a u h) ∙ and-false b

pub updates-among : (s : State) (l : List Action) (u : List Pair)
    → any_of (eq_list eq_pair u) (updates_from s l) ≡ any_of (λ a. makes u (evaluate s a)) l
unfolding updates_from
updates-among s l u =
    any_of-select (eq_list eq_pair u) (λ w. not (is_empty w)) (map (evaluate s) l) ∙ any_of-map (makes u) (evaluate s) l

-- the updates of an active rule's actions, for a choice of rules
chosen-among : (s : State) (f : Rule → Action) (g : Rule → Bool) (rs : List Rule) (u : List Pair)
    → any_of (eq_list eq_pair u) (updates_from s (map f (select g rs))) ≡ any_of (λ r. g r && makes u (evaluate s (f r))) rs
chosen-among s f g rs u =
    updates-among s (map f (select g rs)) u
    ∙ any_of-map (λ a. makes u (evaluate s a)) f (select g rs)
    ∙ any_of-select (λ r. makes u (evaluate s (f r))) g rs

-- ---- the firing, for rules rs that are active

abbrev pub fired_by : Deck → List ℤ → ℕ → List Rule → List Update
fired_by d values p rs = flat_map (fired_here values p) rs ++ flat_map (λ r. flat_map (fired_there values p r) (others d p)) rs

pub fired_by-among : (d : Deck) (values : List ℤ) (p : ℕ) (rs : List Rule) (w : Update)
    → is_among w (fired_by d values p rs)
    ≡ (any_of (λ r. is_among w (fired_here values p r)) rs
    || any_of (λ r. any_of (λ q. is_among w (fired_there values p r q)) (others d p)) rs)
unfolding is_among
fired_by-among d values p rs w =
    any_of-append (eq_update w) (flat_map (fired_here values p) rs) (flat_map (λ r. flat_map (fired_there values p r) (others d p)) rs)
    ∙ ap₂ ◌||◌ (any_of-flat_map (eq_update w) (fired_here values p) rs)
    (any_of-flat_map (eq_update w) (λ r. flat_map (fired_there values p r) (others d p)) rs
    ∙ ap (λ f. any_of f rs) (fun_ext (λ r. any_of-flat_map (eq_update w) (fired_there values p r) (others d p))))

not-others : (d : Deck) (p q : ℕ) → member q (others d p) ≡ true → p ≡ q → ⊥
unfolding others
not-others d p q m e =
    eqb-false q p (not-true (eqb q p) ((select-member (λ q. not (eqb q p)) (below (N d)) q).0 m).1) (sym e)

pub in-others : (d : Deck) (p q : ℕ) → q < N d → (q ≡ p → ⊥) → member q (others d p) ≡ true
unfolding others
in-others d p q lq h =
    (select-member (λ q. not (eqb q p)) (below (N d)) q).1 ((below-member (N d) q).0 lq, ap not (ne_eqb q p h))

module _ (d : Deck) (values : List ℤ) (p : ℕ) (u : List Pair) where
  abbrev s : State
  s = value_at values p

  here-among : (r : Rule)
      → is_among (at p u) (fired_here values p r) ≡ (makes u (evaluate s r.default) || local s r && makes u (evaluate s r.action))
  unfolding fired_here is_among holds satisfies evaluate evaluated
  here-among r =
      any_of-append (eq_update (at p u)) (sent values p p r.default)
      (cond (not r.everywhere && holds values p p r) (sent values p p r.action) [])
      ∙ ap₂ ◌||◌ (sent-among values p p r.default u)
      (any_of-cond (eq_update (at p u)) (not r.everywhere && holds values p p r) (sent values p p r.action)
      ∙ ap (λ b. local s r && b) (sent-among values p p r.action u))

  pub fired-here : (rs : List Rule)
      → is_among (at p u) (fired_by d values p rs)
      ≡ (any_of (eq_list eq_pair u) (updates_from s (map (λ r. r.default) rs))
      || any_of (eq_list eq_pair u) (updates_from s (map (λ r. r.action) (select (local s) rs))))
  fired-here rs =
      fired_by-among d values p rs (at p u)
      ∙ ap₂ ◌||◌ here there
      ∙ or-false _
    where
      there : any_of (λ r. any_of (λ q. is_among (at p u) (fired_there values p r q)) (others d p)) rs ≡ false
      there =
          any_of-none (λ r. any_of (λ q. is_among (at p u) (fired_there values p r q)) (others d p))
          (λ r.
          any_of-fails (λ q. is_among (at p u) (fired_there values p r q)) (others d p)
          (λ q m. unfold fired_there in
          cond-elsewhere values p q p r.action u (r.everywhere && holds values p q r) (not-others d p q m)))
          rs

      here : any_of (λ r. is_among (at p u) (fired_here values p r)) rs
          ≡ (any_of (eq_list eq_pair u) (updates_from s (map (λ r. r.default) rs))
          || any_of (eq_list eq_pair u) (updates_from s (map (λ r. r.action) (select (local s) rs))))
      here =
          ap (λ f. any_of f rs) (fun_ext here-among)
          ∙ any_of-or (λ r. makes u (evaluate s r.default)) (λ r. local s r && makes u (evaluate s r.action)) rs
          ∙ ap₂ ◌||◌
          (sym (updates-among s (map (λ r. r.default) rs) u ∙ any_of-map (λ a. makes u (evaluate s a)) (λ r. r.default) rs))
          (sym (chosen-among s (λ r. r.action) (local s) rs u))
