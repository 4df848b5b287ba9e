-- Which updates are pending after some are written behind or one is taken out, and at which place one stands. Assumes nothing.
use Rattle.std.specs.Prelude.{ℕ, zero, suc, ◌<◌, ◌≡◌, refl, Bool, true, false, not, ◌&&◌, ◌||◌, cond, List, [], ◌∷◌, ◌++◌, length}
use Rattle.std.proofs.Common.{sym, ◌∙◌, ap, ⊎_elim, arith}
use Rattle.std.proofs.Math.Bool.{and-true, or_assoc, or-false}
use Rattle.std.proofs.lemmas.Bool.{false≢true, not-true}
use Rattle.lists.specs.Lists.{lists}
use Rattle.lists.specs.Laws.Booleans.{and_left, and_right, or_left, or_right, or_cases, not-true→false, contradiction}
use Rattle.lists.specs.Laws.Anys.{any_of-append}
use Rattle.pool.specs.Updates.{Update, eq_update, is_among, all_different}
use Rattle.pool.proofs.Laws.Equal.{update-true, update-refl}
use Rattle.firing.specs.Firing.{enqueue, pick, without}
use Rattle.firing.proofs.Laws.Enqueue.{behind}

-- ---- written behind

-- an update equal to one that is pending is pending
among-equal : (w u : Update) (us : List Update) → is_among u us ≡ true → is_among w us ≡ (is_among w us || eq_update w u)
among-equal w u us h = go (eq_update w u) refl
  where
    go : (b : Bool) → eq_update w u ≡ b → is_among w us ≡ (is_among w us || b)
    go true e = let t = ap (λ x. is_among x us) (update-true w u e) ∙ h in t ∙ sym (or_left true t)
    go false e = sym (or-false (is_among w us))

behind-among : (w u : Update) (us : List Update) → is_among w (behind us u) ≡ (is_among w us || eq_update w u)
unfolding is_among lists
behind-among w u us = go (is_among u us) refl
  where
    go : (b : Bool) → is_among u us ≡ b → is_among w (cond b us (us ++ u ∷ [])) ≡ (is_among w us || eq_update w u)
    go true e = among-equal w u us e
    go false e = any_of-append (eq_update w) us (u ∷ []) ∙ ap (λ b. is_among w us || b) (or-false (eq_update w u))

pub enqueue-among : (w : Update) (us new : List Update) → is_among w (enqueue us new) ≡ (is_among w us || is_among w new)
unfolding enqueue is_among lists
enqueue-among w us [] = sym (or-false (is_among w us))
enqueue-among w us (u ∷ new) =
    enqueue-among w (behind us u) new
    ∙ ap (λ b. b || is_among w new) (behind-among w u us)
    ∙ or_assoc (is_among w us) (eq_update w u) (is_among w new)

-- ---- taken out

-- the update at a place is pending
pub pick-among : (k : ℕ) (us : List Update) → k < length us → is_among (pick k us) us ≡ true
unfolding pick is_among lists
pick-among k [] l = absurd (omega arith)
pick-among zero (u ∷ us) l = or_left (is_among u us) (update-refl u)
pick-among (suc k) (u ∷ us) l = or_right (eq_update (pick k us) u) (pick-among k us (omega arith))

-- one that is not among the later ones differs from each of them
first-differs : (w u : Update) (us : List Update) → is_among u us ≡ false → eq_update w u ≡ true → is_among w us ≡ false
first-differs w u us h e = ap (λ x. is_among x us) (update-true w u e) ∙ h

pub without-among : (w : Update) (k : ℕ) (us : List Update) → k < length us → all_different us ≡ true
    → is_among w (without k us) ≡ (is_among w us && not (eq_update w (pick k us)))
unfolding without pick is_among all_different lists
without-among w k [] l h = absurd (omega arith)
without-among w zero (u ∷ us) l h = go (eq_update w u) refl
  where
    new : is_among u us ≡ false
    new = not-true (is_among u us) (and_left (not (is_among u us)) (all_different us) h)

    go : (b : Bool) → eq_update w u ≡ b → is_among w us ≡ ((b || is_among w us) && not b)
    go true e = first-differs w u us new e
    go false e = sym (and-true (is_among w us))
without-among w (suc k) (u ∷ us) l h =
    go (eq_update w u) refl (without-among w k us (omega arith) (and_right (not (is_among u us)) (all_different us) h))
  where
    new : is_among u us ≡ false
    new = not-true (is_among u us) (and_left (not (is_among u us)) (all_different us) h)

    later : eq_update w u ≡ true → eq_update w (pick k us) ≡ false
    later e =
        not-true→false (eq_update w (pick k us)) (λ t.
        contradiction (ap (λ x. is_among x us) (update-true w (pick k us) t) ∙ pick-among k us (omega arith)) (first-differs w u us new e))

    go : (b : Bool) → eq_update w u ≡ b → is_among w (without k us) ≡ (is_among w us && not (eq_update w (pick k us)))
        → (b || is_among w (without k us)) ≡ ((b || is_among w us) && not (eq_update w (pick k us)))
    go true e r = sym (ap not (later e))
    go false e r = r

-- ---- by place

pub among-pick : (w : Update) (us : List Update) → is_among w us ≡ true → (k : ℕ) × (k < length us) × (pick k us ≡ w)
unfolding pick is_among lists
among-pick w [] h = absurd (false≢true h)
among-pick w (u ∷ us) h =
    ⊎_elim
    (λ e. (zero, omega arith, sym (update-true w u e)))
    (λ t. let found = among-pick w us t in (suc found.0, omega (arith, found.1), found.2))
    (or_cases (eq_update w u) h)
