-- The conversion of a well-formed deck is well formed, if it has at most 64 rules, and has no default action. A deck without default
-- actions is converted to itself. Assumes nothing.
use Prim.Native.Nat.{ℕ, zero, suc, ◌+◌, ◌≤◌, ◌<◌}
use Rattle.std.specs.Prelude.{◌≡◌, true, false, ◌&&◌, take}
use Rattle.std.proofs.Math.Path.{refl, ap, ap₂, subst}
use Rattle.std.proofs.Common.{sym, ◌∙◌}
use mathlib.Core.List.{List, [], ◌∷◌, ◌++◌, map, flat_map}
use native.Mathlib.Omega.{arith}
use Rattle.std.proofs.Math.ListN.{length, length-map}
use borrow.Author.Tests.{le-leb}
use Rattle.lists.specs.Lists.{lists, all_of, sum_of, from}
use Rattle.lists.specs.Laws.Booleans.{and_both, and_left, and_right}
use Rattle.lists.specs.Laws.Alls.{all_of-at, all_of-every, all_of-flat_map, all_of-map, all_of-weaken}
use Rattle.expression.specs.Syntax.{constant}
use Rattle.expression.specs.Reading.{Scope}
use Rattle.expression.specs.Encoding.{encoding_expressions}
use Rattle.deck.specs.Deck.{Action, Rule, Part, Deck, R, M, N, rule_at, decks}
use Rattle.deck.specs.Layout.{own_only, task_scope, layouts}
use Rattle.deck.specs.declared.Form.TheVariants.{New}
use Rattle.deck.specs.Encoding.{in_range, is_rising, good_action, good_condition, good_rule, good_part, well_formed, suits_rule, suits, encodings}
use Rattle.deck.specs.Encoding.{is_label}
use Rattle.deck.proofs.Laws.Formed.{rising-head, rising-cons, rule-tests, from-rule-tests, part-tests, from-part-tests}
use Rattle.deck.proofs.Laws.Formed.{deck-tests, from-deck-tests, empty-good}
use Rattle.deck.proofs.Laws.Forms.{rule-none, none-rule}
use Rattle.conversion.specs.Converted.{default_rule, task_rule, split_by, split, new_number, new_numbers, renumbered, converted}
use Rattle.conversion.proofs.Laws.Renumbering.{number-of-rules, next-number, grows}

module _ (d : Deck) where
  pub same-R : R (converted d) ≡ R d
  unfolding decks converted
  same-R = refl

  pub same-N : N (converted d) ≡ N d
  unfolding decks converted
  same-N = length-map d.parts (renumbered d)

-- ---- numbers in a row

-- a smaller bound
lower : (a b hi : ℕ) (l : List ℕ) → a ≤ b → is_rising b hi l ≡ true → is_rising a hi l ≡ true
unfolding is_rising
lower a b hi [] h r = refl
lower a b hi (c ∷ l) h r =
    let head = rising-head b hi c l r in rising-cons a hi c l (omega (arith, h, head.0)) head.1 head.2

-- numbers in a row rise, in front of numbers that rise behind them
rising-row : (lo a n hi : ℕ) (l : List ℕ) → lo ≤ a → a + n ≤ hi → is_rising (a + n) hi l ≡ true → is_rising lo hi (from a n ++ l) ≡ true
unfolding from
rising-row lo a zero hi l h k r = lower lo (a + 0) hi l (omega arith) r
rising-row lo a (suc n) hi l h k r =
    let e : suc a + n ≡ a + suc n = omega arith in
    rising-cons lo hi a (from (suc a) n ++ l) h (omega arith)
    (rising-row (suc a) (suc a) n hi l (omega arith) (omega arith) (subst (λ j. is_rising j hi l ≡ true) (sym e) r))

-- a rising list of numbers below hi is no longer than there is room
rising-short : (lo hi : ℕ) (l : List ℕ) → is_rising lo hi l ≡ true → lo ≤ hi → length l + lo ≤ hi
rising-short lo hi [] h k = omega arith
rising-short lo hi (c ∷ l) h k =
    let head = rising-head lo hi c l h in
    omega (arith, head.0, rising-short (suc c) hi l head.2 (omega (arith, head.1)))

module _ (d : Deck) where
  rising-new : (lo : ℕ) (l : List ℕ) → is_rising lo (M d) l ≡ true
      → is_rising (new_number d lo) (M (converted d)) (flat_map (new_numbers d) l) ≡ true
  unfolding is_rising flat_map new_numbers
  rising-new lo [] h = refl
  rising-new lo (c ∷ l) h =
      let head = rising-head lo (M d) c l h in
      let next = next-number d c head.1 in
      rising-row (new_number d lo) (new_number d c) (length (split (rule_at d c))) (M (converted d)) (flat_map (new_numbers d) l)
      (grows d lo c head.0)
      (omega (arith, next, grows d (suc c) (M d) head.1, number-of-rules d))
      (subst (λ j. is_rising j (M (converted d)) (flat_map (new_numbers d) l) ≡ true) next (rising-new (suc c) l head.2))

  first-zero : new_number d 0 ≡ 0
  unfolding new_number lists
  first-zero = refl

  part-good : (p : Part) → good_part (R d) (M d) p ≡ true → good_part (R d) (M (converted d)) (renumbered d p) ≡ true
  unfolding renumbered
  part-good p h =
      let tests = part-tests (R d) (M d) p h in
      let carried = flat_map (new_numbers d) p.carried in
      let rises = subst (λ j. is_rising j (M (converted d)) carried ≡ true) first-zero (rising-new 0 p.carried tests.3) in
      let short = rising-short 0 (M (converted d)) carried rises (omega arith) in
      from-part-tests (R d) (M (converted d)) (renumbered d p)
      (tests.0, tests.1, le-leb (length carried) (M (converted d)) (omega (arith, short)), rises, tests.4)

-- the condition true is good
true-good : (sc : Scope) → good_condition sc (constant true) ≡ true
unfolding encodings encoding_expressions
true-good sc = refl

here-scope : (R : ℕ) → task_scope R false ≡ own_only R
unfolding layouts
here-scope R = refl

labels-same : (d : Deck)
    → (in_range 1 32 (R (converted d)) && all_of is_label (converted d).labels)
    ≡ (in_range 1 32 (R d) && all_of is_label d.labels)
unfolding decks converted
labels-same d = refl

rules-same : (d : Deck) → all_of (good_rule (R (converted d))) (converted d).rules ≡ all_of (good_rule (R d)) (flat_map split d.rules)
unfolding decks converted
rules-same d = refl

parts_same : (d : Deck)
    → all_of (good_part (R (converted d)) (M (converted d))) (converted d).parts
    ≡ all_of (good_part (R d) (M (converted d))) (map (renumbered d) d.parts)
unfolding decks converted
parts_same d = refl

rule-good : (n : ℕ) (r : Rule) → good_rule n r ≡ true → all_of (good_rule n) (split r) ≡ true
unfolding split split_by lists
rule-good n r h =
    let tests = rule-tests n r h in
    let of-default = ap (λ sc. good_action sc r.default) (here-scope n) ∙ tests.2 in
    go r.default
    (from-rule-tests n (default_rule r) (tests.0, tests.1, empty-good (own_only n), true-good (task_scope n false), of-default))
    (from-rule-tests n (task_rule r) (tests.0, tests.1, empty-good (own_only n), tests.3, tests.4))
  where
    go : (a : Action) → good_rule n (default_rule r) ≡ true → good_rule n (task_rule r) ≡ true → all_of (good_rule n) (split_by a r) ≡ true
    go [] first second = and_both h refl
    go (s ∷ a) first second = and_both first (and_both second refl)

pub converted-formed : (d : Deck) → well_formed d ≡ true → M (converted d) ≤ 64 → well_formed (converted d) ≡ true
converted-formed d h few =
    let tests = deck-tests d h in
    from-deck-tests (converted d) (
      labels-same d ∙ tests.0,
      le-leb (M (converted d)) 64 few,
      rules-same d
          ∙ all_of-flat_map (good_rule (R d)) split d.rules
          (all_of-weaken (λ r. all_of (good_rule (R d)) (split r)) (good_rule (R d)) (rule-good (R d)) d.rules tests.2),
      ap (in_range 1 16) (same-N d) ∙ tests.3,
      parts_same d
          ∙ all_of-map (good_part (R d) (M (converted d))) (renumbered d) d.parts
          ∙ all_of-weaken (λ p. good_part (R d) (M (converted d)) (renumbered d p)) (good_part (R d) (M d)) (part-good d) d.parts
          tests.4,
    )

-- ---- no default action is left

split-suits : (r : Rule) → all_of (suits_rule New) (split r) ≡ true
unfolding split split_by lists
split-suits r = go r.default refl
  where
    go : (a : Action) → r.default ≡ a → all_of (suits_rule New) (split_by a r) ≡ true
    go [] e = and_both (none-rule r e) refl
    go (s ∷ a) e = and_both (none-rule (default_rule r) refl) (and_both (none-rule (task_rule r) refl) refl)

pub converted-suits : (d : Deck) → suits New (converted d) ≡ true
unfolding converted suits
converted-suits d =
    all_of-flat_map (suits_rule New) split d.rules (all_of-every (λ r. all_of (suits_rule New) (split r)) split-suits d.rules)

-- ---- a deck without default actions is left as it is

-- a rule without default action becomes itself
split_one : (r : Rule) → suits_rule New r ≡ true → split r ≡ r ∷ []
unfolding split split_by
split_one r h = ap (λ a. split_by a r) (rule-none r h)

module _ (d : Deck) (new : suits New d ≡ true) where
  rules-left : (l : List Rule) → all_of (suits_rule New) l ≡ true → flat_map split l ≡ l
  unfolding lists
  rules-left [] h = refl
  rules-left (r ∷ l) h =
      ap₂ ◌++◌ (split_one r (and_left (suits_rule New r) (all_of (suits_rule New) l) h))
      (rules-left l (and_right (suits_rule New r) (all_of (suits_rule New) l) h))

  -- each of the first rules becomes one
  ones : (l : List Rule) (k : ℕ) → all_of (suits_rule New) l ≡ true → k ≤ length l → sum_of (λ x. length (split x)) (take k l) ≡ k
  unfolding lists
  ones l zero h le = refl
  ones [] (suc k) h le = omega arith
  ones (r ∷ l) (suc k) h le =
      ap₂ ◌+◌ (ap length (split_one r (and_left (suits_rule New r) (all_of (suits_rule New) l) h)))
      (ones l k (and_right (suits_rule New r) (all_of (suits_rule New) l) h) (omega arith))
      ∙ omega arith

  number-left : (r : ℕ) → r < M d → new_numbers d r ≡ r ∷ []
  unfolding new_numbers new_number decks from suits
  number-left r h =
      ap₂ from (ones d.rules r new (omega arith))
      (ap length (split_one (rule_at d r) (all_of-at (suits_rule New) d.rules r _ new h)))

  carried-left : (lo : ℕ) (l : List ℕ) → is_rising lo (M d) l ≡ true → flat_map (new_numbers d) l ≡ l
  unfolding flat_map
  carried-left lo [] h = refl
  carried-left lo (c ∷ l) h =
      let head = rising-head lo (M d) c l h in ap₂ ◌++◌ (number-left c head.1) (carried-left (suc c) l head.2)

  part_left : (p : Part) → good_part (R d) (M d) p ≡ true → renumbered d p ≡ p
  unfolding renumbered
  part_left p h =
      ap (λ c. record { opening = p.opening; carried = c; limit = p.limit })
      (carried-left 0 p.carried (part-tests (R d) (M d) p h).3)

  parts-left : (l : List Part) → all_of (good_part (R d) (M d)) l ≡ true → map (renumbered d) l ≡ l
  unfolding lists
  parts-left [] h = refl
  parts-left (p ∷ l) h =
      ap₂ ◌∷◌ (part_left p (and_left (good_part (R d) (M d) p) _ h)) (parts-left l (and_right (good_part (R d) (M d) p) _ h))

  pub unchanged : well_formed d ≡ true → converted d ≡ d
  unfolding converted suits
  unchanged h =
      ap₂ (λ rs ps. record { labels = d.labels; rules = rs; parts = ps }) (rules-left d.rules new)
      (parts-left d.parts (deck-tests d h).4)
