-- What every update of a firing has: a known part, different known channels, at most four of them. Assumes nothing.
use Rattle.std.specs.Prelude.{ℕ, ◌<◌, ◌≡◌, Bool, true, ◌&&◌, cond, length, ℤ}
use Rattle.std.proofs.Math.Path.{refl}
use Rattle.std.proofs.Common.{◌∙◌, ap}
use Rattle.std.proofs.Math.Bool.{not}
use mathlib.Core.List.{List, [], ◌∷◌, map, map-map, flat_map}
use Rattle.std.proofs.Math.Dec.{ltb, leb}
use Rattle.std.proofs.lemmas.List.{length-map}
use borrow.Author.Tests.{lt-ltb, le-leb}
use Rattle.lists.specs.Lists.{lists, all_of, distinct, member}
use Rattle.lists.specs.Laws.Booleans.{and_both}
use Rattle.lists.specs.Laws.Alls.{all_of-none, all_of-cons, all_of-append, all_of-cond, all_of-map, all_of-flat_map}
use Rattle.lists.specs.Laws.Members.{all_of-member}
use Rattle.deck.specs.Deck.{Deck, Action, Rule, R, N, rule_at, targets, active}
use Rattle.deck.specs.Facts.{Formed, Sound}
use Rattle.charge.specs.Charge.{others}
use Rattle.charge.proofs.Laws.Equations.{others-inside}
use Rattle.pool.specs.Updates.{Update, channels}
use Rattle.pool.specs.States.{known}
use Rattle.pool.specs.Fine.{short}
use Rattle.firing.specs.Firing.{evaluated, sent, holds, fired_here, fired_there, fired}

-- an update has the channels of the action that it came from
pub sent-channels : (values : List ℤ) (p q : ℕ) (a : Action) → map (λ x. x.channel) (map (evaluated values p q) a) ≡ targets a
unfolding targets evaluated
sent-channels values p q a = map-map (λ x. x.channel) (evaluated values p q) a

module _ (d : Deck) (values : List ℤ) (p : ℕ) where
  -- rule r is active at p for changed channels cs
  abbrev ActiveFor : List ℕ → ℕ → Type 0
  ActiveFor cs r = member r (active d p cs) ≡ true

  -- A test that holds for whatever the active rules send holds for whatever a firing adds
  module _ (test : Update → Bool) (lp : p < N d) (cs : List ℕ)
      (default : (r : ℕ) → ActiveFor cs r → all_of test (sent values p p (rule_at d r).default) ≡ true)
      (action : (q r : ℕ) → q < N d → ActiveFor cs r → all_of test (sent values p q (rule_at d r).action) ≡ true) where
    here-all : (r : ℕ) → ActiveFor cs r → all_of test (fired_here values p (rule_at d r)) ≡ true
    unfolding fired_here
    here-all r m =
        let rule = rule_at d r in
        let holding = not rule.everywhere && holds values p p rule in
        all_of-append test (sent values p p rule.default) (cond holding (sent values p p rule.action) [])
        (default r m)
        (all_of-cond test holding (sent values p p rule.action) [] (action p r lp m) (all_of-none test))

    there-all : (r q : ℕ) → q < N d → ActiveFor cs r → all_of test (fired_there values p (rule_at d r) q) ≡ true
    unfolding fired_there
    there-all r q lq m =
        let rule = rule_at d r in
        all_of-cond test (rule.everywhere && holds values p q rule) (sent values p q rule.action) [] (action q r lq m) (all_of-none test)

    others-all : (r : ℕ) → ActiveFor cs r → all_of test (flat_map (fired_there values p (rule_at d r)) (others d p)) ≡ true
    others-all r m =
        all_of-flat_map test (fired_there values p (rule_at d r)) (others d p)
        ((all_of-member (λ q. all_of test (fired_there values p (rule_at d r) q)) (others d p)).1
        (λ q o. there-all r q (others-inside d p q o) m))

    -- over the rules that are active
    rules-all : (f : Rule → List Update) → ((r : ℕ) → ActiveFor cs r → all_of test (f (rule_at d r)) ≡ true)
        → all_of test (flat_map f (map (rule_at d) (active d p cs))) ≡ true
    rules-all f h =
        let rs = active d p cs in
        all_of-flat_map test f (map (rule_at d) rs)
        (all_of-map (λ r. all_of test (f r)) (rule_at d) rs ∙ (all_of-member (λ r. all_of test (f (rule_at d r))) rs).1 h)

    pub fired-active : all_of test (fired d values p cs) ≡ true
    unfolding fired
    fired-active =
        let rules = map (rule_at d) (active d p cs) in
        all_of-append test (flat_map (fired_here values p) rules) (flat_map (λ r. flat_map (fired_there values p r) (others d p)) rules)
        (rules-all (fired_here values p) here-all)
        (rules-all (λ r. flat_map (fired_there values p r) (others d p)) others-all)

  -- so does one that holds for whatever any rule sends
  pub fired-all : (test : Update → Bool) → p < N d
      → ((q r : ℕ) → q < N d → all_of test (sent values p q (rule_at d r).default) ≡ true)
      → ((q r : ℕ) → q < N d → all_of test (sent values p q (rule_at d r).action) ≡ true)
      → (cs : List ℕ) → all_of test (fired d values p cs) ≡ true
  fired-all test lp default action cs = fired-active test lp cs (λ r _. default p r lp) (λ q r lq _. action q r lq)

  sent-known : (q : ℕ) (a : Action) → q < N d → Sound (R d) a → all_of (known d) (sent values p q a) ≡ true
  unfolding sent lists known channels
  sent-known q [] lq s = refl
  sent-known q (x ∷ a) lq s =
      let same = sent-channels values p q (x ∷ a) in
      all_of-cons (known d) (record { part = q; pairs = map (evaluated values p q) (x ∷ a) }) []
      (and_both (and_both (and_both (lt-ltb q (N d) lq) refl) (ap (all_of (λ c. ltb c (R d))) same ∙ s.known))
      (ap distinct same ∙ s.different))
      refl

  sent-short : (q : ℕ) (a : Action) → Sound (R d) a → all_of short (sent values p q a) ≡ true
  unfolding sent lists short
  sent-short q [] s = refl
  sent-short q (x ∷ a) s =
      all_of-cons short (record { part = q; pairs = map (evaluated values p q) (x ∷ a) }) []
      (ap (λ n. leb n 4) (length-map (x ∷ a) (evaluated values p q)) ∙ le-leb (length (x ∷ a)) 4 s.few)
      refl

  module _ (f : Formed d) (lp : p < N d) where
    pub fired-known : (cs : List ℕ) → all_of (known d) (fired d values p cs) ≡ true
    fired-known =
        fired-all (known d) lp
        (λ q r lq. sent-known q (rule_at d r).default lq (f.default r))
        (λ q r lq. sent-known q (rule_at d r).action lq (f.action r))

    pub fired-short : (cs : List ℕ) → all_of short (fired d values p cs) ≡ true
    fired-short =
        fired-all short lp
        (λ q r lq. sent-short q (rule_at d r).default (f.default r))
        (λ q r lq. sent-short q (rule_at d r).action (f.action r))
