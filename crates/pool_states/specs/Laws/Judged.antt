-- A good state by the code's tests in their order: the frame, the places, equal ones, the charge. Assumes nothing.
use Rattle.std.specs.Prelude.{ℕ, ◌*◌, ◌/◌, ◌%◌, ◌<◌, ◌≤◌, ◌≡◌, Bool, ◌&&◌, cond, List, eqb, drop, Option, None, Some}
use Rattle.std.proofs.Math.Path.{refl, ap}
use Rattle.std.proofs.Common.{sym, ◌∙◌}
use Rattle.std.proofs.Math.Bool.{true, false, and_assoc, and-false}
use native.Mathlib.Omega.{arith}
use Rattle.std.proofs.Math.Dec.{leb}
use Rattle.std.proofs.Math.ListN.{length}
use borrow.Author.Tests.{leb-true, le-leb, lt-leb, eqb-true, eq-eqb}
use Rattle.lists.specs.Lists.{all_of}
use Rattle.lists.specs.Laws.Booleans.{and_both, and_left, and_right, four, not-true→false}
use Rattle.deck.specs.Deck.{Deck}
use Rattle.charge.specs.Memo.{capped}
use Rattle.pool.specs.Updates.{Update, all_different, charge}
use Rattle.pool.specs.Places.{is_zero, capacity, well_written, places, updates_of}
use Rattle.pool.specs.States.{Memory, good_length, unused_zero, known, good}
use Rattle.pool_states.specs.Answer.{all_fit, weight_of, framed, uncharged, goodness_of}

-- ---- an answer by a test

said-good : (b : Bool) (x : ℕ) {s : ℕ} → Some s ≡ cond b (Some x) None → (b ≡ true) × (s ≡ x)
said-good true x e = (refl, cc)
said-good false x e = let q : ◌≡◌ {A = ℕ} 0 1 = cc in absurd (omega arith)

said-bad : (b : Bool) (x : ℕ) → None ≡ cond b (Some x) None → b ≡ false
said-bad true x e = let q : ◌≡◌ {A = ℕ} 0 1 = cc in absurd (omega arith)
said-bad false x e = refl

module _ (d : Deck) (m : Memory) where
  abbrev n : ℕ
  n = m.state.pending

  abbrev us : List Update
  us = updates_of n m.pool

  -- ---- the frame

  abbrev counted : Bool
  counted = eqb (length m.state.values) 512 && unused_zero d 0 m.state.values && leb n (capacity (length m.pool))

  abbrev behind : Bool
  behind = all_of is_zero (drop (10 * n) m.pool)

  pub record Framed : Type 0 where
    pub long : length m.state.values ≡ 512
    pub unused : unused_zero d 0 m.state.values ≡ true
    pub few : n ≤ length m.pool / 10

  pub framed-tests : framed d m ≡ true → Framed
  unfolding framed capacity
  framed-tests h =
      let t = four (eqb (length m.state.values) 512) (unused_zero d 0 m.state.values) (leb n (length m.pool / 10)) behind h in
      record {
        long = eqb-true (length m.state.values) 512 t.0;
        unused = t.1;
        few = leb-true n (length m.pool / 10) t.2;
      }

  pub framed-last : Framed → framed d m ≡ behind
  unfolding framed capacity
  framed-last p =
      ap (λ x. x && behind)
      (and_both (and_both (eq-eqb (length m.state.values) 512 p.long) p.unused) (le-leb n (length m.pool / 10) p.few))

  -- one test fails
  pub not-framed : (Framed → ⊥) → framed d m ≡ false
  not-framed h = not-true→false (framed d m) (λ t. h (framed-tests t))

  -- ---- all tests but the charge

  pub no-frame : framed d m ≡ false → uncharged d m ≡ false
  unfolding uncharged
  no-frame h = ap (λ x. x && all_fit d n m.pool && all_different us) h

  abbrev sound : Bool
  sound = all_fit d n m.pool && all_different us

  pub not_sound : sound ≡ false → uncharged d m ≡ false
  unfolding uncharged
  not_sound h = and_assoc (framed d m) (all_fit d n m.pool) (all_different us) ∙ ap (λ x. framed d m && x) h ∙ and-false (framed d m)

  pub all-but-charge : framed d m ≡ true → sound ≡ true → uncharged d m ≡ true
  unfolding uncharged
  all-but-charge f h = and_assoc (framed d m) (all_fit d n m.pool) (all_different us) ∙ and_both f h

  -- ---- with the charge

  pub charged : good d m ≡ (uncharged d m && leb (charge d us) (capacity (length m.pool)))
  unfolding good uncharged framed all_fit
  charged =
      ap (λ x. x && all_different us && leb (charge d us) (capacity (length m.pool)))
      (moved counted (all_of well_written (places n m.pool)) behind (all_of (known d) us))
    where
      moved : (a w z k : Bool) → (a && w && z && k) ≡ (a && z && (w && k))
      moved true true z k = refl
      moved true false true k = refl
      moved true false false k = refl
      moved false w z k = refl

  answer : (b : Bool) → good d m ≡ b → cond b (Some (charge d us)) None ≡ goodness_of d m
  answer b e = ap (λ b. cond b (Some (charge d us)) None) (sym e)

  pub judged-bad : uncharged d m ≡ false → None ≡ goodness_of d m
  judged-bad h = answer false (charged ∙ ap (λ x. x && leb (charge d us) (capacity (length m.pool))) h)

  module _ (h : uncharged d m ≡ true) {total : ℕ} (e : total ≡ capped (charge d us)) where
    bounded : good d m ≡ leb (charge d us) (length m.pool / 10)
    unfolding capacity
    bounded = charged ∙ ap (λ x. x && leb (charge d us) (length m.pool / 10)) h

    pub judged-above : length m.pool / 10 < total → None ≡ goodness_of d m
    judged-above k = answer false (bounded ∙ lt-leb (charge d us) (length m.pool / 10) (omega arith))

    pub judged-good : good_length (length m.pool) ≡ true → total ≤ length m.pool / 10 → Some total ≡ goodness_of d m
    unfolding good_length
    judged-good g k =
        let size = length m.pool in
        let most =
        leb-true size 655350
        (and_right (leb 10 size) (leb size 655350) (and_left (leb 10 size && leb size 655350) (eqb (size % 10) 0) g)) in
        let same : total ≡ charge d us = omega arith in
        ap Some same ∙ answer true (bounded ∙ le-leb (charge d us) (size / 10) (omega arith))

  -- ---- what an answer says

  pub weight-good : {r : Option ℕ} {s : ℕ} → r ≡ Some s → r ≡ weight_of d n m.pool → (sound ≡ true) × (s ≡ capped (charge d us))
  weight-good q e = said-good sound (capped (charge d us)) (sym q ∙ e)

  pub weight-bad : {r : Option ℕ} → r ≡ None → r ≡ weight_of d n m.pool → sound ≡ false
  weight-bad q e = said-bad sound (capped (charge d us)) (sym q ∙ e)

  pub good-answer : {s : ℕ} → Some s ≡ goodness_of d m → (good d m ≡ true) × (s ≡ charge d us)
  good-answer e = said-good (good d m) (charge d us) e

  pub bad-answer : None ≡ goodness_of d m → good d m ≡ false
  bad-answer e = said-bad (good d m) (charge d us) e
