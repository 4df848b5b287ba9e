-- The numbers that the functions read say which rules listen and which are active. Assumes nothing.
use Prim.Native.Nat.{ℕ, ◌+◌, ◌*◌, ◌<◌}
use Rattle.std.specs.Prelude.{◌≡◌, refl, true, false, ◌&&◌, List, get_or}
use Rattle.std.proofs.Common.{sym, ap, ◌∙◌, arith, lt-ltb}
use Rattle.std.proofs.Math.Path.{ap₂}
use Rattle.std.proofs.Math.Bool.{Bool, and-true, and-false}
use Rattle.std.specs.Int.Bits.{bit_and}
use Rattle.lists.specs.Lists.{any_of, member}
use Rattle.lists.specs.Bits.{bit}
use Rattle.lists.specs.Laws.Anys.{any_of-none}
use Rattle.lists.specs.Laws.Below.{any_of-below, select-below}
use Rattle.lists.specs.Laws.Agreement.{any_of-agree}
use Rattle.lists.specs.Laws.Bits.{bit-and}
use Rattle.deck.specs.Shape.{bits_of}
use Rattle.deck.specs.declared.Deck as Counted
use Rattle.deck.proofs.Laws.Shape.{bits-member}
use Rattle.graph.specs.Masks.{carried_at}
use Rattle.charge.specs.Memo.{ListenersAre, AcyclicTables, hearing, listening}

-- a rule that part p carries is carried
pub carried-by : (parts : List ℕ) (N' r p : ℕ) → p < N' → bit (get_or parts (4 * p) 0) r ≡ true → carried_at parts N' r ≡ true
unfolding carried_at
carried-by parts N' r p l t = (any_of-below (λ q. bit (get_or parts (4 * q) 0) r) N').1 (p, l, t)

module _ {rules parts : List ℕ} {counts : Counted.Deck} (h : AcyclicTables rules parts counts) (r : ℕ) (k : r < counts.rules)
    (mask : ℕ) where
  abbrev N' : ℕ
  N' = counts.parts

  abbrev u : List ℕ
  u = bits_of 32 mask

  -- the test for all parts
  abbrev common : Bool
  common = any_of (λ c. member c (bits_of 32 (get_or rules (8 * r) 0))) u

  -- the listeners of the mask are these rules
  pub is-listener : {s : ℕ} → ListenersAre rules mask s → bit s r ≡ listening rules parts N' r mask
  unfolding bits_of
  is-listener w =
      w.each r
      ∙ any_of-agree (λ c. bit (get_or rules (8 * c + 7) 0) r)
      (λ c. carried_at parts N' r && member c (bits_of 32 (get_or rules (8 * r) 0))) u
      (λ c m.
      let l = ((select-below (bit mask) 32 c).0 m).0 in
      h.noted.each c r l (omega (arith, h.few_rules))
      ∙ ap₂ (λ a b. a && (carried_at parts N' r && b)) (lt-ltb r counts.rules k) (sym (bits-member 32 (get_or rules (8 * r) 0) c l)))
      ∙ go (carried_at parts N' r)
    where
      heard-by : ℕ → Bool
      heard-by c = member c (bits_of 32 (get_or rules (8 * r) 0))

      go : (a : Bool) → any_of (λ c. a && heard-by c) u ≡ (any_of heard-by u && a)
      go true = sym (and-true (any_of heard-by u))
      go false = any_of-none (λ (c : ℕ). false) (λ c. refl) u ∙ sym (and-false (any_of heard-by u))

  -- those that part p carries are active there
  pub is-active : {s : ℕ} → ListenersAre rules mask s → (p : ℕ) → p < N'
      → bit (bit_and s (get_or parts (4 * p) 0)) r ≡ hearing rules parts p r mask
  is-active {s} w p l =
      bit-and s (get_or parts (4 * p) 0) r
      ∙ ap (λ b. b && bit (get_or parts (4 * p) 0) r) (is-listener w)
      ∙ go (bit (get_or parts (4 * p) 0) r) (carried-by parts N' r p l)
    where
      go : (b : Bool) → (b ≡ true → carried_at parts N' r ≡ true) → (common && carried_at parts N' r && b) ≡ (b && common)
      go true f = and-true (common && carried_at parts N' r) ∙ ap (λ a. common && a) (f refl) ∙ and-true common
      go false f = and-false (common && carried_at parts N' r)
