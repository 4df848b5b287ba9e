-- New updates written behind the pending ones: what is kept, and what is added at most. Assumes nothing.
use Rattle.std.specs.Prelude.{ℕ, ◌+◌, ◌≤◌, ◌≡◌, refl, Bool, not, cond}
use Rattle.std.proofs.Common.{◌∙◌, ap}
use Rattle.std.proofs.Math.Bool.{true, false}
use mathlib.Core.List.{List, [], ◌∷◌, ◌++◌}
use native.Mathlib.Omega.{arith}
use Rattle.std.proofs.lemmas.Bool.{not-true}
use Rattle.lists.specs.Lists.{lists, all_of, any_of}
use Rattle.lists.specs.Laws.Booleans.{and_both, and_left, and_right, or-false-left, or-false-right, contradiction, not-true→false}
use Rattle.lists.specs.Laws.Alls.{all_of-cons, all_of-append, all_of-none, all_of-head, all_of-tail, any_of-none}
use Rattle.lists.specs.Laws.Sums.{sum_of-append}
use Rattle.deck.specs.Deck.{Deck}
use Rattle.charge.specs.Charge.{update_charge}
use Rattle.pool.specs.Updates.{Update, channels, eq_update, is_among, all_different, charge}
use Rattle.pool.proofs.Laws.Equal.{update-true, update-refl}
use Rattle.firing.specs.Firing.{enqueue}

-- ---- one update more

-- behind the others, unless it is among them
abbrev pub behind : List Update → Update → List Update
behind us u = cond (is_among u us) us (us ++ u ∷ [])

pub enqueue-more : (us new : List Update) (u : Update) → enqueue us (u ∷ new) ≡ enqueue (behind us u) new
unfolding enqueue
enqueue-more us new u = refl

pub enqueue-none : (us : List Update) → enqueue us [] ≡ us
unfolding enqueue
enqueue-none us = refl

among-behind : (w u : Update) (us : List Update) → is_among w us ≡ false → eq_update w u ≡ false → is_among w (us ++ u ∷ []) ≡ false
unfolding is_among
among-behind w u us h e =
    let differs : Update → Bool = λ x. not (eq_update w x) in
    (any_of-none (eq_update w) (us ++ u ∷ [])).1
    (all_of-append differs us (u ∷ []) ((any_of-none (eq_update w) us).0 h) (all_of-cons differs u [] (ap not e) (all_of-none differs)))

-- no first, and none later
among-head : (u w : Update) (us : List Update) → is_among u (w ∷ us) ≡ false → eq_update u w ≡ false
unfolding is_among lists
among-head u w us h = or-false-left (eq_update u w) (any_of (eq_update u) us) h

among-tail : (u w : Update) (us : List Update) → is_among u (w ∷ us) ≡ false → is_among u us ≡ false
unfolding is_among lists
among-tail u w us h = or-false-right (eq_update u w) (any_of (eq_update u) us) h

update-sym : (u w : Update) → eq_update u w ≡ false → eq_update w u ≡ false
update-sym u w h =
    not-true→false (eq_update w u) (λ y. contradiction (ap (λ x. eq_update u x) (update-true w u y) ∙ update-refl u) h)

different-behind : (u : Update) (us : List Update) → all_different us ≡ true → is_among u us ≡ false → all_different (us ++ u ∷ []) ≡ true
unfolding all_different is_among lists
different-behind u [] h e = refl
different-behind u (w ∷ us) h e =
    let new = not-true (is_among w us) (and_left (not (is_among w us)) (all_different us) h) in
    and_both (ap not (among-behind w u us new (update-sym u w (among-head u w us e))))
    (different-behind u us (and_right (not (is_among w us)) (all_different us) h) (among-tail u w us e))

-- ---- all of them

module _ (test : Update → Bool) where
  pub enqueue-all : (us new : List Update) → all_of test us ≡ true → all_of test new ≡ true → all_of test (enqueue us new) ≡ true
  unfolding enqueue
  enqueue-all us [] h g = h
  enqueue-all us (u ∷ new) h g =
      enqueue-all (behind us u) new (more (is_among u us)) (all_of-tail test u new g)
    where
      more : (b : Bool) → all_of test (cond b us (us ++ u ∷ [])) ≡ true
      more true = h
      more false = all_of-append test us (u ∷ []) h (all_of-cons test u [] (all_of-head test u new g) (all_of-none test))

pub enqueue-different : (us new : List Update) → all_different us ≡ true → all_different (enqueue us new) ≡ true
unfolding enqueue
enqueue-different us [] h = h
enqueue-different us (u ∷ new) h = enqueue-different (behind us u) new (more (is_among u us) refl)
  where
    more : (b : Bool) → is_among u us ≡ b → all_different (cond b us (us ++ u ∷ [])) ≡ true
    more true e = h
    more false e = different-behind u us h e

module _ (d : Deck) where
  -- the charge of one update
  abbrev pub one : Update → ℕ
  one u = update_charge d u.part (channels u)

  pub charge-append : (l m : List Update) → charge d (l ++ m) ≡ charge d l + charge d m
  unfolding charge
  charge-append l m = sum_of-append one l m

  behind-charge : (us : List Update) (u : Update) (b : Bool) → (charge d us ≤ charge d (cond b us (us ++ u ∷ [])))
      × (charge d (cond b us (us ++ u ∷ [])) ≤ charge d us + one u)
  unfolding charge lists
  behind-charge us u true = (omega arith, omega arith)
  behind-charge us u false = let e = sum_of-append one us (u ∷ []) in (omega arith, omega arith)

  pub enqueue-grows : (us new : List Update) → charge d us ≤ charge d (enqueue us new)
  unfolding enqueue
  enqueue-grows us [] = omega arith
  enqueue-grows us (u ∷ new) = omega (arith, (behind-charge us u (is_among u us)).0, enqueue-grows (behind us u) new)

  pub enqueue-most : (us new : List Update) → charge d (enqueue us new) ≤ charge d us + charge d new
  unfolding enqueue charge lists
  enqueue-most us [] = omega arith
  enqueue-most us (u ∷ new) = omega (arith, (behind-charge us u (is_among u us)).1, enqueue-most (behind us u) new)
