-- Laws of updates that a loop offers turn by turn: what the numbers below n that pass a test give, one number at a time.
-- Assumes nothing.
use Prim.Native.Nat.{ℕ, zero, suc, ◌+◌}
use Rattle.std.specs.Prelude.{◌≡◌, Bool, not, eqb}
use Rattle.std.proofs.Math.Path.{refl, sym, ap}
use Rattle.std.proofs.Common.{◌∙◌, subst, add-zero, add-one, eq-eqb, ne_eqb}
use Rattle.std.proofs.Math.Bool.{true, false}
use mathlib.Core.List.{List, [], ◌++◌, append-nil, append_assoc, flat_map}
use native.Mathlib.Omega.{arith}
use Rattle.lists.specs.Lists.{lists, keep, select, from, below}
use Rattle.deck.specs.Deck.{Deck, N}
use Rattle.charge.specs.Charge.{others}
use Rattle.charge.specs.Memo.{Memo}
use Rattle.pool.specs.Updates.{Update}
use Rattle.firing_queue.specs.Queue.{Held, Offered}
use Rattle.firing_queue.specs.Laws.Queue.{offered-none, offered-then}
use Rattle.firing_queue.specs.declared.Queue.{Queue}

module _ {A : Type 0} (f : ℕ → Bool) (g : ℕ → List A) where
  -- what g gives for each number below n that passes
  unfoldable pub turns : ℕ → List A
  turns n = flat_map g (select f (below n))

  turns-from : (a n : ℕ) → flat_map g (select f (from a (suc n)))
      ≡ flat_map g (select f (from a n)) ++ flat_map g (keep (f (a + n)) (a + n) [])
  unfolding lists
  turns-from a zero = ap (λ k. flat_map g (keep (f k) k [])) (sym (add-zero a))
  turns-from a (suc n) =
      let shifted : suc a + n ≡ a + suc n = omega arith in
      go (f a) (turns-from (suc a) n ∙ ap (λ k. flat_map g (select f (from (suc a) n)) ++ flat_map g (keep (f k) k [])) shifted)
    where
      go : (b : Bool)
          → flat_map g (select f (from (suc a) (suc n)))
          ≡ flat_map g (select f (from (suc a) n)) ++ flat_map g (keep (f (a + suc n)) (a + suc n) [])
          → flat_map g (keep b a (select f (from (suc a) (suc n))))
          ≡ flat_map g (keep b a (select f (from (suc a) n))) ++ flat_map g (keep (f (a + suc n)) (a + suc n) [])
      go true e = ap (λ l. g a ++ l) e ∙ sym (append_assoc (g a) _ _)
      go false e = e

  turns_next : (n : ℕ) (b : Bool) → f n ≡ b → turns (n + 1) ≡ turns n ++ flat_map g (keep b n [])
  unfolding turns below
  turns_next n b e =
      let start : 0 + n ≡ n = omega arith in
      ap (λ k. flat_map g (select f (from 0 k))) (add-one n)
      ∙ turns-from 0 n
      ∙ ap (λ k. flat_map g (select f (from 0 n)) ++ flat_map g (keep (f k) k [])) start
      ∙ ap (λ b. flat_map g (select f (from 0 n)) ++ flat_map g (keep b n [])) e

  pub turns-none : turns 0 ≡ []
  unfolding turns lists
  turns-none = refl

  pub turns-pass : (n : ℕ) → f n ≡ true → turns (n + 1) ≡ turns n ++ g n
  unfolding lists
  turns-pass n e = turns_next n true e ∙ ap (λ l. turns n ++ l) (append-nil (g n))

  pub turns-fail : (n : ℕ) → f n ≡ false → turns (n + 1) ≡ turns n
  unfolding lists
  turns-fail n e = turns_next n false e ∙ append-nil (turns n)

-- ---- what a loop has offered

module _ {d : Deck} {held₀ : Held} {q₀ : Queue} (f : ℕ → Bool) (g : ℕ → List Update) where
  pub turned_none : (m : List ℕ) → Memo d m → Offered d (turns f g 0) held₀ q₀ m held₀ q₀
  turned_none m r = subst (λ l. Offered d l held₀ q₀ m held₀ q₀) (sym (turns-none f g)) (offered-none m r)

  module _ {m : List ℕ} {held : Held} {q : Queue} (n : ℕ) (x : Offered d (turns f g n) held₀ q₀ m held q) where
    -- the number n passes
    pub turned-pass : {m' : List ℕ} {held' : Held} {q' : Queue} → f n ≡ true → Offered d (g n) held q m' held' q'
        → Offered d (turns f g (n + 1)) held₀ q₀ m' held' q'
    turned-pass {m'} {held'} {q'} e y =
        subst (λ l. Offered d l held₀ q₀ m' held' q') (sym (turns-pass f g n e)) (offered-then x y)

    -- it does not
    pub turned-fail : f n ≡ false → Offered d (turns f g (n + 1)) held₀ q₀ m held q
    turned-fail e = subst (λ l. Offered d l held₀ q₀ m held q) (sym (turns-fail f g n e)) x

-- where two ways of a turn meet
pub offered-came : {d : Deck} {fresh : List Update} {held₀ : Held} {q₀ : Queue}
    {m m' : List ℕ} {held held' : Held} {q q' : Queue} → m ≡ m' → held ≡ held' → q ≡ q'
    → Offered d fresh held₀ q₀ m' held' q' → Offered d fresh held₀ q₀ m held q
offered-came {d} {fresh} {held₀} {q₀} {m} {m'} {held} {held'} {q} {q'} a b c x =
    subst (λ m. Offered d fresh held₀ q₀ m held q) (sym a)
    (subst (λ held. Offered d fresh held₀ q₀ m' held q) (sym b)
    (subst (λ q. Offered d fresh held₀ q₀ m' held' q) (sym c) x))

-- ---- the other parts

-- q is another part than p
unfoldable pub other : ℕ → ℕ → Bool
other p q = not (eqb q p)

pub other-so : (p q : ℕ) → (q ≡ p → ⊥) → other p q ≡ true
unfolding other
other-so p q h = ap not (ne_eqb q p h)

pub other-not : (p q : ℕ) → q ≡ p → other p q ≡ false
unfolding other
other-not p q e = ap not (eq-eqb q p e)

-- all of them had their turn
pub turned-others : {d : Deck} {held₀ : Held} {q₀ : Queue} {m : List ℕ} {held : Held} {q : Queue}
    (e : Deck) (p n : ℕ) (g : ℕ → List Update) → n ≡ N e
    → Offered d (turns (other p) g n) held₀ q₀ m held q → Offered d (flat_map g (others e p)) held₀ q₀ m held q
unfolding others other turns
turned-others {d} {held₀} {q₀} {m} {held} {q} e p n g k x =
    subst (λ n. Offered d (flat_map g (select (λ q. not (eqb q p)) (below n))) held₀ q₀ m held q) k x
