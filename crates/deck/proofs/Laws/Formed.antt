-- What a well-formed deck has, in the form that the layers above use. Assumes nothing.
use Rattle.std.specs.Prelude.{ℕ, suc, ◌≤◌, ◌<◌, ◌≡◌, true, false, ◌&&◌, List, [], ◌∷◌, eqb, length}
use Rattle.std.proofs.Math.Path.{refl}
use Rattle.std.proofs.Common.{◌∙◌, subst}
use Rattle.std.proofs.Math.Bool.{Bool}
use Rattle.std.proofs.Math.Dec.{leb, ltb}
use borrow.Author.Tests.{leb-true, le-leb, ltb-true, lt-ltb}
use Rattle.lists.specs.Lists.{lists, all_of, distinct}
use Rattle.lists.specs.Laws.Booleans.{and_both, and_left, and_right, Five, five, from-five}
use Rattle.lists.specs.Laws.Alls.{all_of-map, all_of-weaken, all_of-get_or}
use Rattle.expression.specs.Reading.{Scope}
use Rattle.expression.specs.Encoding.{encode_num, fits, good_num}
use Rattle.deck.specs.Deck.{Assignment, Action, Rule, Part, Deck, R, M, N, rule_at, targets, decks}
use Rattle.deck.specs.Layout.{own_only, task_scope, layouts}
use Rattle.deck.specs.Encoding.{in_range, is_rising, fitting_length, good_assignment, good_action, good_condition, good_rule, good_part}
use Rattle.deck.specs.Encoding.{is_label}
use Rattle.deck.specs.Encoding.{well_formed, encodings}
use Rattle.deck.specs.Facts.{Formed, Sound}

-- ---- the tests of numbers that rise, of a rule, of a part and of a deck, one by one

module _ (lo hi c : ℕ) (l : List ℕ) where
  pub rising-head : is_rising lo hi (c ∷ l) ≡ true → (lo ≤ c) × (c < hi) × (is_rising (suc c) hi l ≡ true)
  unfolding is_rising
  rising-head h =
      let both = and_left (leb lo c && ltb c hi) (is_rising (suc c) hi l) h in (
        leb-true lo c (and_left (leb lo c) (ltb c hi) both),
        ltb-true c hi (and_right (leb lo c) (ltb c hi) both),
        and_right (leb lo c && ltb c hi) (is_rising (suc c) hi l) h,
      )

  pub rising-cons : lo ≤ c → c < hi → is_rising (suc c) hi l ≡ true → is_rising lo hi (c ∷ l) ≡ true
  unfolding is_rising
  rising-cons a b h = and_both (and_both (le-leb lo c a) (lt-ltb c hi b)) h

module _ (R : ℕ) (r : Rule) where
  abbrev pub RuleTests : Type 0
  RuleTests =
      Five (in_range 1 8 (length r.events)) (is_rising 0 R r.events) (good_action (own_only R) r.default)
      (good_condition (task_scope R r.everywhere) r.condition) (good_action (task_scope R r.everywhere) r.action)

  pub rule-tests : good_rule R r ≡ true → RuleTests
  unfolding good_rule
  rule-tests h = five _ _ _ _ _ h

  pub from-rule-tests : RuleTests → good_rule R r ≡ true
  unfolding good_rule
  from-rule-tests t = from-five _ _ _ _ _ t

module _ (R M : ℕ) (p : Part) where
  abbrev pub PartTests : Type 0
  PartTests =
      Five (eqb (length p.opening) R) (all_of fits p.opening) (leb (length p.carried) M) (is_rising 0 M p.carried)
      (good_condition (own_only R) p.limit)

  pub part-tests : good_part R M p ≡ true → PartTests
  unfolding good_part
  part-tests h = five _ _ _ _ _ h

  pub from-part-tests : PartTests → good_part R M p ≡ true
  unfolding good_part
  from-part-tests t = from-five _ _ _ _ _ t

module _ (d : Deck) where
  abbrev pub DeckTests : Type 0
  DeckTests =
      Five (in_range 1 32 (R d) && all_of is_label d.labels) (leb (M d) 64) (all_of (good_rule (R d)) d.rules)
      (in_range 1 16 (N d)) (all_of (good_part (R d) (M d)) d.parts)

  pub deck-tests : well_formed d ≡ true → DeckTests
  unfolding well_formed
  deck-tests h = five _ _ _ _ _ h

  pub from-deck-tests : DeckTests → well_formed d ≡ true
  unfolding well_formed
  from-deck-tests t = from-five _ _ _ _ _ t

-- ---- what they say

module _ (sc : Scope) where
  target-known : (s : Assignment) → good_assignment sc s ≡ true → ltb s.target sc.owns ≡ true
  unfolding good_assignment
  target-known s h =
      let known : Bool = ltb s.target sc.owns in
      let good : Bool = good_num sc s.value in
      and_left known good (and_left (known && good) (fitting_length (encode_num s.value)) h)

  sound : (a : Action) → good_action sc a ≡ true → Sound sc.owns a
  unfolding good_action targets
  sound a h =
      let few : Bool = leb (length a) 4 in
      let good : Bool = all_of (good_assignment sc) a in
      let both = and_left (few && good) (distinct (targets a)) h in
      record {
        few = leb-true (length a) 4 (and_left few good both);
        known = all_of-map (λ t. ltb t sc.owns) (λ s. s.target) a
            ∙ all_of-weaken (λ s. ltb s.target sc.owns) (good_assignment sc) target-known a (and_right few good both);
        different = and_right (few && good) (distinct (targets a)) h;
      }

  -- the action of a rule that the deck does not have
  pub empty-good : good_action sc [] ≡ true
  unfolding encodings lists decks
  empty-good = refl

module _ (R : ℕ) where
  abbrev good_default : Rule → Bool
  good_default r = good_action (own_only R) r.default

  abbrev good_task : Rule → Bool
  good_task r = good_action (task_scope R r.everywhere) r.action

  both-good : (r : Rule) → good_rule R r ≡ true → (good_default r ≡ true) × (good_task r ≡ true)
  both-good r h = let tests = rule-tests R r h in (tests.2, tests.4)

-- either scope knows the R own channels
pub owns-task : (R : ℕ) (everywhere : Bool) → (task_scope R everywhere).owns ≡ R
unfolding layouts
owns-task R true = refl
owns-task R false = refl

opening-long : (R M : ℕ) (p : Part) → good_part R M p ≡ true → eqb (length p.opening) R ≡ true
opening-long R M p h = (part-tests R M p h).0

pub formed : (d : Deck) → well_formed d ≡ true → Formed d
unfolding in_range rule_at layouts
formed d h =
    let channels : Bool = in_range 1 32 (R d) in
    let labels : Bool = all_of is_label d.labels in
    let tests = deck-tests d h in
    record {
      channels = leb-true (R d) 32 (and_right (leb 1 (R d)) (leb (R d) 32) (and_left channels labels tests.0));
      rules = leb-true (M d) 64 tests.1;
      parts = leb-true (N d) 16 (and_right (leb 1 (N d)) (leb (N d) 16) tests.3);
      openings = all_of-weaken (λ p. eqb (length p.opening) (R d)) (good_part (R d) (M d)) (opening-long (R d) (M d)) d.parts
          tests.4;
      default = λ r. sound (own_only (R d)) (rule_at d r).default
          (all_of-get_or (good_default (R d)) d.rules r _
          (all_of-weaken (good_default (R d)) (good_rule (R d)) (λ r g. (both-good (R d) r g).0) d.rules tests.2)
          (empty-good (own_only (R d))));
      action = λ r.
          let scope = task_scope (R d) (rule_at d r).everywhere in
          subst (λ (n : ℕ). Sound n (rule_at d r).action) (owns-task (R d) (rule_at d r).everywhere)
          (sound scope (rule_at d r).action
          (all_of-get_or (good_task (R d)) d.rules r _
          (all_of-weaken (good_task (R d)) (good_rule (R d)) (λ r g. (both-good (R d) r g).1) d.rules tests.2)
          (empty-good (task_scope (R d) false))));
    }
