-- The search over the places 64 p + r, lowest first: what is known of those that are passed. Assumes nothing.
use Prim.Native.Nat.{ℕ, ◌+◌, ◌*◌, ◌≤◌, ◌<◌, max, zero-le}
use mathlib.Core.Path.{◌≡◌, refl, sym, ap, ap₂, ◌∙◌}
use mathlib.Core.Logic.{⊎_elim}
use mathlib.Core.Bool.{true, false}
use Rattle.std.specs.Prelude.{Ok, Err}
use mathlib.Core.List.{List, [], ◌∷◌}
use native.Mathlib.Nat.{le_refl, eq-or-lt_of_le}
use native.Mathlib.Decide.{dec_lt}
use native.Mathlib.Omega.{arith}
use lib.ListN.{get_or}
use Rattle.lists.specs.Bits.{bit}
use Rattle.lists.specs.Laws.Booleans.{contradiction}
use Rattle.deck.specs.Deck.{Deck, M, N, carries}
use Rattle.deck.specs.Shape.{shape}
use Rattle.deck.specs.declared.Deck as Counted
use Rattle.deck.proofs.Laws.Shape.{counted-M, counted-N, shape-carries}
use Rattle.charge.specs.Charge.{rule_charge, carried_charges, largest_charge, above_bound}
use Rattle.charge.specs.Memo.{AcyclicTables, capped}
use Rattle.charge.specs.Answer.{bound_by, bound_of, LargestBelow}
use Rattle.charge.proofs.Laws.Largest.{AtMost, largest-charge}
use Rattle.charge.proofs.Laws.Bound.{FirstAbove, none_above, first_above}

-- rule r is carried at part p
abbrev pub Carried : Deck → ℕ → ℕ → Type 0
Carried d p r = (p < N d) × (r < M d) × (carries d p r ≡ true)

module _ (d : Deck) (few : M d ≤ 64) where
  pub passed_none : LargestBelow d 0 0
  passed_none = record { most = λ q s _ _ _ h. absurd (omega arith); least = zero-le; fits = zero-le }

  module _ {k best : ℕ} (h : LargestBelow d k best) where
    -- no rule is carried at the places up to m
    pub passed-skip : (m : ℕ) → ((q s : ℕ) → Carried d q s → k ≤ 64 * q + s → 64 * q + s < m → ⊥) → LargestBelow d m best
    passed-skip m none =
        record { most = λ q s l w c v. go q s (l, w, c) v (dec_lt (64 * q + s) k); least = h.least; fits = h.fits }
      where
        go : (q s : ℕ) → Carried d q s → 64 * q + s < m → Dec (64 * q + s < k) → rule_charge d q s ≤ best
        go q s c v (yes l) = h.most q s c.0 c.1 c.2 l
        go q s c v (no l) = absurd (none q s c (omega arith) v)

  -- the next place is that of a carried rule
  module _ {p r best : ℕ} (h : LargestBelow d (64 * p + r) best) (y : Carried d p r) where
    pub passed-more : {c b : ℕ} → c ≡ capped (rule_charge d p r) → (c ≡ 65536 → ⊥) → b ≡ max best c
        → LargestBelow d (64 * p + r + 1) b
    passed-more {c} {b} v n e =
        let charge : c ≡ rule_charge d p r = omega arith in
        let most = (largest-charge d (largest_charge d)).0 (le_refl (largest_charge d)) p r y.0 y.1 y.2 in
        record {
          most = λ q s l m t w.
              ⊎_elim
              (λ (e : 64 * q + s ≡ 64 * p + r). here q s (omega (arith, y.1)) (omega (arith, y.1)) charge)
              (λ (v : 64 * q + s < 64 * p + r). omega (arith, h.most q s l m t v))
              (eq-or-lt_of_le (omega arith));
          least = omega (arith, h.least);
          fits = omega (arith, h.fits);
        }
      where
        here : (q s : ℕ) → q ≡ p → s ≡ r → c ≡ rule_charge d p r → rule_charge d q s ≤ b
        here q s i j g = rw (i, j) (omega arith)

    pub passed-above : 65535 < rule_charge d p r → Err (64 * p + r) ≡ bound_of d
    unfolding bound_of bound_by
    passed-above above = go (above_bound (carried_charges d)) refl
      where
        go : (l : List ℕ) → above_bound (carried_charges d) ≡ l → Err (64 * p + r) ≡ bound_by l (largest_charge d)
        go [] e = absurd (omega (arith, (none_above d).0 e p r y.0 y.1 y.2))
        go (x ∷ xs) e = ap Err (same (dec_lt x (64 * p + r)) (dec_lt (64 * p + r) x))
          where
            first : FirstAbove d x
            first = first_above d few x xs e

            same : Dec (x < 64 * p + r) → Dec (64 * p + r < x) → 64 * p + r ≡ x
            same (yes l) _ =
                absurd
                (omega (
                  arith,
                  h.most first.part first.rule first.part_known first.rule_known first.carried
                      (omega (arith, first.place)),
                  h.fits,
                  first.above,
                ))
            same (no _) (yes l) = absurd (omega (arith, first.lowest p r y.0 y.1 y.2 l))
            same (no a) (no b) = omega arith

  module _ {k best : ℕ} (h : LargestBelow d k best) where
    pub passed-all : (n : ℕ) → N d ≡ n → k ≡ 64 * n → Ok best ≡ bound_of d
    unfolding bound_of bound_by
    passed-all n same e =
        let all : AtMost d best = λ q s l m c. h.most q s l m c (omega arith) in
        let none : above_bound (carried_charges d) ≡ [] =
        (none_above d).1 (λ q s l m c. omega (arith, all q s l m c, h.fits)) in
        let largest : best ≡ largest_charge d = omega (arith, h.least, (largest-charge d best).1 all) in
        ap Ok largest ∙ sym (ap (λ l. bound_by l (largest_charge d)) none)

-- what the search finds, in the numbers of the tables
module _ {rules parts : List ℕ} {counts : Counted.Deck} (h : AcyclicTables rules parts counts) where
  -- the counts
  abbrev R' : ℕ
  R' = counts.channels

  abbrev M' : ℕ
  M' = counts.rules

  abbrev N' : ℕ
  N' = counts.parts

  abbrev deck : Deck
  deck = shape rules parts counts

  pub few_rules : M deck ≤ 64
  few_rules = omega (arith, counted-M rules parts counts, h.few_rules)

  pub is-place : (p r : ℕ) → p < N' → r < M' → bit (get_or parts (4 * p) 0) r ≡ true → Carried deck p r
  is-place p r l m t = (
    omega (arith, counted-N rules parts counts),
    omega (arith, counted-M rules parts counts),
    shape-carries rules parts R' M' N' p r l (omega (arith, h.few_rules)) ∙ t,
  )

  module _ (p : ℕ) (l : p < N') {best : ℕ} where
    -- part p does not carry rule r
    pub passed-next : (r : ℕ) → r < M' → bit (get_or parts (4 * p) 0) r ≡ false → LargestBelow deck (64 * p + r) best
        → LargestBelow deck (64 * p + (r + 1)) best
    passed-next r m f w = passed-skip deck few_rules w (64 * p + (r + 1)) between
      where
        between : (q s : ℕ) → Carried deck q s → 64 * p + r ≤ 64 * q + s → 64 * q + s < 64 * p + (r + 1) → ⊥
        between q s c a b =
            let part : q ≡ p = omega (arith, c.1, few_rules, h.few_rules) in
            let rule : s ≡ r = omega (arith, c.1, few_rules, h.few_rules) in
            let t = sym (shape-carries rules parts R' M' N' q s (omega arith) (omega (arith, c.1, few_rules))) ∙ c.2 in
            contradiction (ap₂ (λ p s. bit (get_or parts (4 * p) 0) s) (sym part) (sym rule) ∙ t) f

    -- all rules of the part are passed
    pub passed-part : LargestBelow deck (64 * p + M') best → LargestBelow deck (64 * (p + 1)) best
    passed-part w =
        passed-skip deck few_rules w (64 * (p + 1))
        (λ q s c a b. omega (arith, c.1, few_rules, counted-M rules parts counts))
