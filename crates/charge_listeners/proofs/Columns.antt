-- Column 7 of the table of rules: the carried rules that listen to each channel. Assumes nothing.
use Prim.Native.Nat.{ℕ, ◌+◌, ◌*◌, ◌^◌, ◌<◌, ◌≤◌}
use mathlib.Core.Path.{◌≡◌, refl, sym, ap, ap₂, ◌∙◌}
use mathlib.Core.Logic.{⊎_elim}
use mathlib.Core.Bool.{Bool, true, false, ◌&&◌, ◌||◌, and-true, and-false, or-false}
use mathlib.Core.List.{List}
use native.Mathlib.Nat.{eq-or-lt_of_le}
use native.Mathlib.Decide.{dec_lt}
use native.Mathlib.Omega.{arith}
use lib.Bits.{bit_or}
use lib.Dec.{eqb, ltb}
use lib.ListN.{length, get_or, set, length-set}
use lib.Seq.{get_or-set_same, get_or-set_other}
use borrow.Author.Tests.{eq-eqb, ne_eqb, lt-ltb, le-ltb}
use Rattle.lists.specs.Lists.{lists, any_of, below}
use Rattle.lists.specs.Bits.{bit}
use Rattle.lists.specs.Laws.Anys.{any_of-select}
use Rattle.lists.specs.Laws.Agreement.{any_of-more}
use Rattle.lists.specs.Laws.Bits.{bit-or, bit-zero, bit-power}
use Rattle.deck.specs.Shape.{bits_of}
use Rattle.graph.specs.Masks.{carried_at}
use Rattle.charge.specs.Memo.{Noted, OthersKept, Cleared, RuleNoted, ListenersAre}
use Rattle.charge.proofs.Laws.Tables.{first-kept}

pub kept_same : {rules : List ℕ} → OthersKept rules rules
kept_same = record { long = refl; each = λ r k l. refl }

pub kept_trans : {a b c : List ℕ} → OthersKept a b → OthersKept b c → OthersKept a c
kept_trans f g = record { long = g.long ∙ f.long; each = λ r k l. g.each r k l ∙ f.each r k l }

kept_set : {rules₀ rules : List ℕ} (c x : ℕ) → OthersKept rules₀ rules → OthersKept rules₀ (set rules (8 * c + 7) x)
kept_set {rules₀} {rules} c x h =
    record {
      long = length-set rules (8 * c + 7) x ∙ h.long;
      each = λ r k l. get_or-set_other rules (8 * c + 7) (8 * r + k) x 0 (λ e. omega arith) ∙ h.each r k l;
    }

-- ---- it is cleared for the channels below k
pub record Clearing (rules₀ rules : List ℕ) (k : ℕ) : Type 0 where
  pub kept : OthersKept rules₀ rules
  pub done : (c : ℕ) → c < k → get_or rules (8 * c + 7) 0 ≡ 0

pub clearing-none : {rules : List ℕ} → Clearing rules rules 0
clearing-none = record { kept = kept_same; done = λ c l. absurd (omega arith) }

module _ {rules₀ rules : List ℕ} {k : ℕ} (h : Clearing rules₀ rules k) where
  pub clearing-more : 8 * k + 7 < length rules₀ → Clearing rules₀ (set rules (8 * k + 7) 0) (k + 1)
  clearing-more m =
      record {
        kept = kept_set k 0 h.kept;
        done = λ c l.
            ⊎_elim
            (λ (e : c ≡ k).
            ap (λ j. get_or (set rules (8 * k + 7) 0) (8 * j + 7) 0) e
            ∙ get_or-set_same rules (8 * k + 7) 0 0 (omega (arith, h.kept.long)))
            (λ (v : c < k). get_or-set_other rules (8 * k + 7) (8 * c + 7) 0 0 (λ e. omega arith) ∙ h.done c v)
            (eq-or-lt_of_le (omega arith));
      }

  pub clearing-all : 32 ≤ k → Cleared rules₀ rules
  clearing-all m = record { kept = h.kept; each = λ c l. h.done c (omega arith) }

-- ---- rule r is added for the events below k
pub record Noting (events r : ℕ) (rules₀ rules : List ℕ) (k : ℕ) : Type 0 where
  pub kept : OthersKept rules₀ rules
  pub done : (c s : ℕ) → c < k
      → bit (get_or rules (8 * c + 7) 0) s ≡ (bit (get_or rules₀ (8 * c + 7) 0) s || bit events c && eqb s r)
  pub rest : (c : ℕ) → k ≤ c → get_or rules (8 * c + 7) 0 ≡ get_or rules₀ (8 * c + 7) 0

pub noting-none : {e r : ℕ} {rules : List ℕ} → Noting e r rules rules 0
noting-none = record { kept = kept_same; done = λ c s l. absurd (omega arith); rest = λ c l. refl }

module _ {e r : ℕ} {rules₀ rules : List ℕ} {k : ℕ} (h : Noting e r rules₀ rules k) where
  -- channel k is done besides
  step : (zs : List ℕ) → OthersKept rules₀ zs
      → ((s : ℕ) → bit (get_or zs (8 * k + 7) 0) s ≡ (bit (get_or rules₀ (8 * k + 7) 0) s || bit e k && eqb s r))
      → ((c : ℕ) → (c ≡ k → ⊥) → get_or zs (8 * c + 7) 0 ≡ get_or rules (8 * c + 7) 0)
      → Noting e r rules₀ zs (k + 1)
  step zs kept here other =
      record {
        kept = kept;
        done = λ c s l.
            ⊎_elim
            (λ (q : c ≡ k). rw q (here s))
            (λ (v : c < k). ap (λ y. bit y s) (other c (λ q. omega arith)) ∙ h.done c s v)
            (eq-or-lt_of_le (omega arith));
        rest = λ c l. other c (λ q. omega arith) ∙ h.rest c (omega arith);
      }

  before : (s : ℕ) → bit (get_or rules (8 * k + 7) 0) s ≡ bit (get_or rules₀ (8 * k + 7) 0) s
  before s = ap (λ y. bit y s) (h.rest k (omega arith))

  pub noting-skip : bit e k ≡ false → Noting e r rules₀ rules (k + 1)
  noting-skip f =
      step rules h.kept
      (λ s.
      before s
      ∙ sym
      (ap (λ b. bit (get_or rules₀ (8 * k + 7) 0) s || b && eqb s r) f ∙ or-false (bit (get_or rules₀ (8 * k + 7) 0) s)))
      (λ c _. refl)

  pub noting-more : 8 * k + 7 < length rules₀ → bit e k ≡ true
      → Noting e r rules₀ (set rules (8 * k + 7) (bit_or (get_or rules (8 * k + 7) 0) (2 ^ r))) (k + 1)
  noting-more m t =
      let x = bit_or (get_or rules (8 * k + 7) 0) (2 ^ r) in
      step (set rules (8 * k + 7) x) (kept_set k x h.kept)
      (λ s.
      ap (λ y. bit y s) (get_or-set_same rules (8 * k + 7) x 0 (omega (arith, h.kept.long)))
      ∙ bit-or (get_or rules (8 * k + 7) 0) (2 ^ r) s
      ∙ ap₂ (λ a b. a || b) (before s) (bit-power r s ∙ sym (ap (λ b. b && eqb s r) t)))
      (λ c n. get_or-set_other rules (8 * k + 7) (8 * c + 7) x 0 (λ q. n (omega arith)))

  pub noting-all : 32 ≤ k → RuleNoted e r rules₀ rules
  noting-all m = record { kept = h.kept; each = λ c s l. h.done c s (omega arith) }

-- ---- the rules below k are noted

pub noted-none : {rules₀ rules parts : List ℕ} {N : ℕ} → Cleared rules₀ rules → Noted rules parts 0 N
noted-none {rules₀} {rules} {parts} {N} h =
    record {
      each = λ c r l m.
          ap (λ x. bit x r) (h.each c l)
          ∙ bit-zero r
          ∙ sym (ap (λ b. b && (carried_at parts N r && bit (get_or rules (8 * r) 0) c)) (le-ltb r 0 (omega arith)));
    }

module _ {rules parts : List ℕ} {N k : ℕ} (h : Noted rules parts k N) where
  abbrev mine : ℕ → ℕ → Bool
  mine c r = carried_at parts N r && bit (get_or rules (8 * r) 0) c

  -- one rule more: those below k + 1 are those below k, and k
  one_more_lem : (c r : ℕ) (f : Bool → Bool) → f false ≡ false → f true ≡ mine c k
      → (ltb r k && mine c r || f (eqb r k)) ≡ (ltb r (k + 1) && mine c r)
  one_more_lem c r f out this = go (dec_lt r k) (dec_lt k r)
    where
      all : (x y z : Bool) → ltb r k ≡ x → eqb r k ≡ y → ltb r (k + 1) ≡ z → (x && mine c r || f y) ≡ (z && mine c r)
          → (ltb r k && mine c r || f (eqb r k)) ≡ (ltb r (k + 1) && mine c r)
      all x y z p q s e = rw (p, q, s) e

      go : Dec (r < k) → Dec (k < r) → (ltb r k && mine c r || f (eqb r k)) ≡ (ltb r (k + 1) && mine c r)
      go (yes a) _ =
          all true false true (lt-ltb r k a) (ne_eqb r k (λ q. omega arith)) (lt-ltb r (k + 1) (omega arith))
          (ap (λ b. mine c r || b) out ∙ or-false (mine c r))
      go (no a) (yes b) =
          all false false false (le-ltb r k (omega arith)) (ne_eqb r k (λ q. omega arith))
          (le-ltb r (k + 1) (omega arith)) out
      go (no a) (no b) =
          let e : r ≡ k = omega arith in
          all false true true (le-ltb r k (omega arith)) (eq-eqb r k e) (lt-ltb r (k + 1) (omega arith))
          (this ∙ sym (ap (mine c) e))

  pub noted-skip : carried_at parts N k ≡ false → Noted rules parts (k + 1) N
  noted-skip none =
      record {
        each = λ c r l m.
            h.each c r l m
            ∙ sym (or-false (ltb r k && mine c r))
            ∙ one_more_lem c r (λ b. false) refl (sym (ap (λ b. b && bit (get_or rules (8 * k) 0) c) none));
      }

  pub noted_more : {rules' : List ℕ} → carried_at parts N k ≡ true → RuleNoted (get_or rules (8 * k) 0) k rules rules'
      → Noted rules' parts (k + 1) N
  noted_more {rules'} t w =
      record {
        each = λ c r l m.
            let e = get_or rules (8 * k) 0 in
            w.each c r l
            ∙ ap (λ b. b || bit e c && eqb r k) (h.each c r l m)
            ∙ one_more_lem c r (λ b. bit e c && b) (and-false (bit e c)) (and-true (bit e c) ∙ sym (ap (λ b. b && bit e c) t))
            ∙ ap (λ x. ltb r (k + 1) && (carried_at parts N r && bit x c)) (sym (first-kept w.kept r));
      }

-- ---- what the loop over the channels of a mask collects from column 7
pub record Collected (rules : List ℕ) (mask set k : ℕ) : Type 0 where
  pub each : (r : ℕ) → bit set r ≡ any_of (λ c. bit mask c && bit (get_or rules (8 * c + 7) 0) r) (below k)

pub collected-none : {rules : List ℕ} {mask : ℕ} → Collected rules mask 0 0
unfolding lists
collected-none = record { each = λ r. bit-zero r }

module _ {rules : List ℕ} {mask set k : ℕ} (h : Collected rules mask set k) where
  abbrev has : ℕ → ℕ → Bool
  has r c = bit mask c && bit (get_or rules (8 * c + 7) 0) r

  pub collected-skip : bit mask k ≡ false → Collected rules mask set (k + 1)
  collected-skip f =
      record {
        each = λ r.
            h.each r
            ∙ sym (or-false (any_of (has r) (below k)))
            ∙ ap (λ b. any_of (has r) (below k) || (b && bit (get_or rules (8 * k + 7) 0) r)) (sym f)
            ∙ sym (any_of-more (has r) k);
      }

  pub collected-more : bit mask k ≡ true → Collected rules mask (bit_or set (get_or rules (8 * k + 7) 0)) (k + 1)
  collected-more t =
      record {
        each = λ r.
            bit-or set (get_or rules (8 * k + 7) 0) r
            ∙ ap₂ (λ a b. a || (b && bit (get_or rules (8 * k + 7) 0) r)) (h.each r) (sym t)
            ∙ sym (any_of-more (has r) k);
      }

pub collected-all : {rules : List ℕ} {mask set : ℕ} → Collected rules mask set 32 → ListenersAre rules mask set
unfolding bits_of
collected-all {rules} {mask} h =
    record { each = λ r. h.each r ∙ sym (any_of-select (λ c. bit (get_or rules (8 * c + 7) 0) r) (bit mask) (below 32)) }
