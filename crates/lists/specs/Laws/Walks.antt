-- The loop that takes the lowest number of a set and goes on with the rest. Assumes nothing.
use Rattle.std.specs.Prelude.{ℕ, ◌+◌, ◌≤◌, ◌<◌, ◌≡◌, refl, ◌⊎◌, true, false, ◌&&◌, ltb}
use Rattle.std.proofs.Common.{sym, ap, ◌∙◌, inl, inr, arith, lt-ltb, ltb-true, ltb-false}
use Rattle.lists.specs.Bits.{bit, NextIn, RestOf}
use Rattle.lists.specs.Laws.Booleans.{and_left, true-or-false}

-- the loop is at c, the lowest of the numbers left, which are those of the set from c on
pub record Walk (set left c : ℕ) : Type 0 where
  pub next : NextIn left 0 c
  pub same : (i : ℕ) → c ≤ i → i < 64 → bit left i ≡ bit set i

pub walk_first : {set c : ℕ} → NextIn set 0 c → Walk set set c
walk_first h = record { next = h; same = λ i l m. refl }

module _ {set left left' c c' : ℕ} (w : Walk set left c) (r : RestOf left left') (h : NextIn left' 0 c') where
  -- the rest has the numbers behind c, and no other
  behind : (i : ℕ) → c < i → i < 64 → bit left' i ≡ bit set i
  behind i l m = r.each c i w.next ∙ ap (λ b. b && bit left i) (lt-ltb c i l) ∙ w.same i (omega arith) m

  on : c' < 64 → c < c'
  on l = ltb-true c c' (and_left (ltb c c') (bit left c') (sym (r.each c c' w.next) ∙ h.found l))

  pub walk-on : NextIn set (c + 1) c'
  walk-on =
      record {
        most = h.most;
        on = λ few. forward few (true-or-false (ltb c' 64));
        found = λ l. sym (behind c' (on l) l) ∙ h.found l;
        passed = λ i l m. sym (behind i (omega arith) (omega (arith, h.most))) ∙ h.passed i (omega arith) m;
      }
    where
      forward : c + 1 ≤ 64 → (ltb c' 64 ≡ true) ⊎ (ltb c' 64 ≡ false) → c + 1 ≤ c'
      forward few (inl l) = let k : c < c' = on (ltb-true c' 64 l) in omega arith
      forward few (inr l) = omega (arith, ltb-false c' 64 l)

  pub walk-next : Walk set left' c'
  walk-next = record { next = h; same = λ i l m. behind i (omega (arith, on (omega arith))) m }
