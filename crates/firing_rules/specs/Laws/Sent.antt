-- What a rule sends, evaluated on the stretches of channels that are lent, and what stands at the offsets in its row. Assumes
-- nothing.
use Rattle.std.specs.Prelude.{ℕ, ◌+◌, ◌*◌, ◌-◌, ◌≤◌, ◌<◌, ◌≡◌, Bool, ◌&&◌, ltb, get_or, take, drop, ℤ}
use Rattle.std.proofs.Math.Path.{refl, sym, ap, ap₂, subst}
use Rattle.std.proofs.Common.{◌∙◌, Fits, lt-ltb}
use Rattle.std.proofs.Math.Bool.{true, false, not, cond}
use Rattle.std.proofs.lemmas.Bool.{false≢true}
use mathlib.Core.List.{List, [], ◌∷◌, ◌++◌, map, flat_map}
use native.Mathlib.Omega.{arith}
use Rattle.std.proofs.Math.ListN.{length}
use Rattle.std.specs.Int.{w64}
use Rattle.lists.specs.Lists.{lists, all_of, distinct, is_empty}
use Rattle.lists.specs.Laws.Booleans.{and_left, and_right, from-four, contradiction}
use Rattle.expression.specs.Syntax.{Truth}
use Rattle.expression.specs.Values.{truth_value}
use Rattle.expression.specs.Reading.{Scope, whole_truth}
use Rattle.expression.specs.Answers.{scope, value_in, num_in}
use Rattle.expression.specs.Encoding.{good_num, good_truth}
use Rattle.expression.proofs.Laws.Agreement.{num-agree, truth-agree}
use Rattle.deck.specs.Deck.{Deck, Action, Assignment, Rule, R, M, N, rule_at, targets}
use Rattle.deck.specs.Layout.{truths, expression, action, own_only, own_and_far, task_scope}
use Rattle.deck.specs.Encoding.{kind_byte}
use Rattle.deck.specs.declared.Deck as Counted
use Rattle.deck.specs.Facts.{ReadsAt}
use Rattle.deck.specs.Facts.{all_in}
use Rattle.deck.specs.Facts as Formed
use Rattle.deck.proofs.Laws.Shape.{shape-R, shape-N}
use Rattle.charge.specs.Charge.{others}
use Rattle.charge.proofs.Laws.Tables.{Field, field_of}
use Rattle.pool.specs.Updates.{Pair, Update, channels, value_at}
use Rattle.pool.specs.Places.{place, update_of, well_written}
use Rattle.pool.specs.States.{known}
use Rattle.pool.proofs.Laws.Places.{update-back, place-well}
use Rattle.pool_states.specs.Answer.{HoldsKnown}
use Rattle.pool_states.specs.Laws.Shape.{same-holds}
use Rattle.passing.specs.Stands.{Stands, HasTruth, TruthIs}
use Rattle.passing.specs.Tabled.{deck_of, Tabled}
use Rattle.deck.specs.Shape.{shape}
use Rattle.passing.proofs.Laws.Limits.{stretch_of, stretch-length, stretch-value}
use Rattle.passing.proofs.Laws.Stands.{stands}
use Rattle.firing.specs.Firing.{evaluated, sent, holds, fired_here, fired_there}
use Rattle.firing.specs.Evaluated.{update_by, HasAction, ActionIs}
use Rattle.firing.proofs.Laws.Lined.{action-stands, action-count}
use Rattle.firing.proofs.Laws.Written.{row-length}
use Rattle.firing_rules.specs.Reactions.{adds, fired_in, Tasked, Made}
use Rattle.firing_rules.specs.declared.Half.{Half}
use Rattle.firing_rules.specs.declared.Half.TheVariants.{Here, Others}

-- the channels that are lent are those of the scope: the own ones of part p, the far ones of part q
pub record Lent (sc : Scope) (values : List ℤ) (p q : ℕ) (own far : List ℤ) : Type 0 where
  pub owns : length own ≡ sc.owns
  pub fars : length far ≡ sc.fars
  pub own_value : (c : ℕ) → c < sc.owns → value_in own c ≡ value_at values p c
  pub far_value : (c : ℕ) → c < sc.fars → value_in far c ≡ value_at values q c

-- the n channels of part p, as code lends them: from 32 p to 32 p + n
abbrev pub slice_of : ℕ → ℕ → List ℤ → List ℤ
slice_of n p values = take (32 * p + n - 32 * p) (drop (32 * p) values)

slice_is : (n p : ℕ) (values : List ℤ) → slice_of n p values ≡ stretch_of n p values
slice_is n p values = let e : 32 * p + n - 32 * p ≡ n = omega arith in ap (λ m. take m (drop (32 * p) values)) e

module _ (n p q : ℕ) (values : List ℤ) (fits : 32 * p + n ≤ length values) where
  lent-own : Lent (own_only n) values p q (slice_of n p values) []
  unfolding own_only
  lent-own =
      subst (λ l. Lent (own_only n) values p q l []) (sym (slice_is n p values))
      (record {
        owns = stretch-length n p values fits;
        fars = refl;
        own_value = stretch-value n p values fits;
        far_value = λ c h. absurd (omega arith);
      })

  lent_both : 32 * q + n ≤ length values → Lent (own_and_far n) values p q (slice_of n p values) (slice_of n q values)
  unfolding own_and_far
  lent_both far =
      subst (λ l. Lent (own_and_far n) values p q l (slice_of n q values)) (sym (slice_is n p values))
      (subst (λ l. Lent (own_and_far n) values p q (stretch_of n p values) l) (sym (slice_is n q values))
      (record {
        owns = stretch-length n p values fits;
        fars = stretch-length n q values far;
        own_value = stretch-value n p values fits;
        far_value = stretch-value n q values far;
      }))

abbrev pair_of : ℕ → ℤ → Pair
pair_of c v = record { channel = c; value = v }

abbrev to_part : ℕ → List Pair → Update
to_part q l = record { part = q; pairs = l }

module _ {sc : Scope} {values : List ℤ} {p q : ℕ} {own far : List ℤ} (l : Lent sc values p q own far) where
  scope-is : scope (length own) (length far) ≡ sc
  scope-is = ap₂ scope l.owns l.fars

  -- an action comes to the same on what is lent
  pairs-agree : (a : Action) → all_in sc a ≡ true
      → map (λ (s : Assignment). pair_of s.target (num_in own far s.value)) a ≡ map (evaluated values p q) a
  unfolding evaluated lists
  pairs-agree [] h = refl
  pairs-agree (s ∷ a) h =
      ap₂ (λ (x : Pair) (xs : List Pair). x ∷ xs)
      (ap (pair_of s.target)
      (num-agree sc (value_in own) (value_at values p) (value_in far) (value_at values q) l.own_value l.far_value s.value
      (and_left (good_num sc s.value) (all_in sc a) h)))
      (pairs-agree a (and_right (good_num sc s.value) (all_in sc a) h))

  -- an action that is not empty makes one update of it
  sent-agree : (a : Action) → all_in sc a ≡ true → (length a ≡ 0 → ⊥) → sent values p q a ≡ update_by own far q a ∷ []
  unfolding sent update_by
  sent-agree [] h some = absurd (some refl)
  sent-agree (s ∷ a) h some = ap (λ (l : List Pair). to_part q l ∷ []) (sym (pairs-agree (s ∷ a) h))

  action-there : (s : List ℕ) (at : ℕ) (a : Action) → ReadsAt s (action sc) at a → ReadsAt s (action (scope (length own) (length far))) at a
  action-there s at a r = subst (λ c. ReadsAt s (action c) at a) (sym scope-is) r

  -- and a condition can be evaluated
  module _ (s : List ℕ) (at : ℕ) (t : Truth) (r : ReadsAt s (expression (truths sc)) at t) where
    truth-stands : Stands (whole_truth (scope (length own) (length far))) s at t
    truth-stands =
        stands (truths (scope (length own) (length far))) s at t
        (subst (λ c. ReadsAt s (expression (truths c)) at t) (sym scope-is) r)

    truth-known : HasTruth s at (length own) (length far)
    truth-known = (t, truth-stands)

    truth-value : {b : Bool} → good_truth sc t ≡ true → TruthIs s at own far b
        → b ≡ truth_value (value_at values p) (value_at values q) t
    truth-value h is =
        is t truth-stands
        ∙ truth-agree sc (value_in own) (value_at values p) (value_in far) (value_at values q) l.own_value l.far_value t h

-- ---- kinds

kind-wide : (e : Bool) → kind_byte e ≡ 1 → e ≡ true
kind-wide true h = refl
kind-wide false h = absurd (omega (arith, h))

kind-here : (e : Bool) → (kind_byte e ≡ 1 → ⊥) → e ≡ false
kind-here true h = absurd (h refl)
kind-here false h = refl

-- ---- the update of an action

-- its channels are the targets
targeted : (own far : List ℤ) (q : ℕ) (a : Action) → channels (update_by own far q a) ≡ targets a
unfolding channels update_by targets
targeted own far q [] = refl
targeted own far q (s ∷ a) = ap (λ l. s.target ∷ l) (targeted own far q a)

some_pairs : (own far : List ℤ) (q : ℕ) (a : Action) → (length a ≡ 0 → ⊥) → not (is_empty (update_by own far q a).pairs) ≡ true
unfolding update_by lists
some_pairs own far q [] h = absurd (h refl)
some_pairs own far q (s ∷ a) h = refl

part_low : (own far : List ℤ) (q : ℕ) (a : Action) (n : ℕ) → q < n → ltb (update_by own far q a).part n ≡ true
unfolding update_by
part_low own far q a n h = lt-ltb q n h

known-update : (d : Deck) (own far : List ℤ) (q : ℕ) (a : Action) → q < N d → (length a ≡ 0 → ⊥) → Formed.Sound (R d) a
    → known d (update_by own far q a) ≡ true
unfolding known
known-update d own far q a l h f =
    let u = update_by own far q a in
    let e = targeted own far q a in
    from-four (ltb u.part (N d)) (not (is_empty u.pairs)) (all_of (λ c. ltb c (R d)) (channels u)) (distinct (channels u))
    (part_low own far q a (N d) l, some_pairs own far q a h, ap (all_of (λ c. ltb c (R d))) e ∙ f.known, ap distinct e ∙ f.different)

-- ---- what a rule adds, case by case

module _ (values : List ℤ) (p q : ℕ) (r : Rule) where
  sent-none : length r.action ≡ 0 → sent values p q r.action ≡ []
  unfolding sent
  sent-none = go r.action
    where
      go : (a : Action) → length a ≡ 0 → sent values p q a ≡ []
      go [] h = refl
      go (s ∷ a) h = absurd (omega (arith, h))

  sent-some : (length r.action ≡ 0 → ⊥) → is_empty (sent values p q r.action) ≡ false
  unfolding sent lists
  sent-some = go r.action
    where
      go : (a : Action) → (length a ≡ 0 → ⊥) → is_empty (sent values p q a) ≡ false
      go [] h = absurd (h refl)
      go (s ∷ a) h = refl

  -- an empty action
  pub adds_none : length r.action ≡ 0 → false ≡ not (is_empty (adds values p q r))
  unfolding adds lists
  adds_none h = go (holds values p q r) (sent values p q r.action) (sent-none h)
    where
      go : (b : Bool) (l : List Update) → l ≡ [] → false ≡ not (is_empty (cond b l []))
      go true l e = sym (ap (λ (l : List Update). not (is_empty l)) e)
      go false l e = refl

  -- another one: the condition decides
  pub adds-some : (length r.action ≡ 0 → ⊥) → holds values p q r ≡ not (is_empty (adds values p q r))
  unfolding adds lists
  adds-some h = go (holds values p q r)
    where
      go : (b : Bool) → b ≡ not (is_empty (cond b (sent values p q r.action) []))
      go true = sym (ap not (sent-some h))
      go false = refl

  pub adds-true : not (is_empty (adds values p q r)) ≡ true
      → (adds values p q r ≡ sent values p q r.action) × (length r.action ≡ 0 → ⊥)
  unfolding adds lists
  adds-true h = (go (holds values p q r) h, λ e. contradiction h (sym (adds_none e)))
    where
      go : (b : Bool) → not (is_empty (cond b (sent values p q r.action) [])) ≡ true
          → cond b (sent values p q r.action) [] ≡ sent values p q r.action
      go true h = refl
      go false h = absurd (false≢true h)

  pub adds-false : not (is_empty (adds values p q r)) ≡ false → adds values p q r ≡ []
  unfolding lists
  adds-false h = go (adds values p q r) h
    where
      go : (l : List Update) → not (is_empty l) ≡ false → l ≡ []
      go [] h = refl
      go (u ∷ l) h = absurd (false≢true (sym h))

-- ---- the halves of the firing, by the rule's kind

module _ (values : List ℤ) (p : ℕ) (r : Rule) where
  -- of a rule without default action
  module _ (none : r.default ≡ []) where
    -- by its kind and whether the condition holds
    abbrev task : Bool → Bool → List Update
    task everywhere h = cond (not everywhere && h) (sent values p p r.action) []

    here-action : fired_here values p r ≡ task r.everywhere (holds values p p r)
    unfolding fired_here sent
    here-action = ap (λ a. sent values p p a ++ task r.everywhere (holds values p p r)) none

    here-wide : r.everywhere ≡ true → fired_here values p r ≡ []
    here-wide e = here-action ∙ ap (λ x. task x (holds values p p r)) e

    here-adds : r.everywhere ≡ false → fired_here values p r ≡ adds values p p r
    unfolding adds
    here-adds e = here-action ∙ ap (λ x. task x (holds values p p r)) e

  there-here : r.everywhere ≡ false → (q : ℕ) → fired_there values p r q ≡ []
  unfolding fired_there
  there-here e q = rw e refl

  there-adds : r.everywhere ≡ true → (q : ℕ) → fired_there values p r q ≡ adds values p q r
  unfolding fired_there adds
  there-adds e q = rw e refl

  others-here : (qs : List ℕ) → r.everywhere ≡ false → flat_map (fired_there values p r) qs ≡ []
  unfolding lists
  others-here [] e = refl
  others-here (q ∷ qs) e = ap₂ (λ (x y : List Update). x ++ y) (there-here e q) (others-here qs e)

  others-add : (qs : List ℕ) → r.everywhere ≡ true → flat_map (fired_there values p r) qs ≡ flat_map (λ q. adds values p q r) qs
  unfolding lists
  others-add [] e = refl
  others-add (q ∷ qs) e = ap₂ (λ (x y : List Update). x ++ y) (there-adds e q) (others-add qs e)

-- in the first half, and in the second
module _ (d : Deck) (values : List ℤ) (p : ℕ) (r : Rule) {half : Half} where
  pub first-wide : half ≡ Here → r.default ≡ [] → r.everywhere ≡ true → fired_in d values p half r ≡ []
  first-wide h none e = ap (λ half. fired_in d values p half r) h ∙ here-wide values p r none e

  pub first-here : half ≡ Here → r.default ≡ [] → r.everywhere ≡ false → fired_in d values p half r ≡ adds values p p r
  first-here h none e = ap (λ half. fired_in d values p half r) h ∙ here-adds values p r none e

  pub second-wide : half ≡ Others → r.everywhere ≡ true → fired_in d values p half r ≡ flat_map (λ q. adds values p q r) (others d p)
  second-wide h e = ap (λ half. fired_in d values p half r) h ∙ others-add values p r (others d p) e

  pub second-here : half ≡ Others → r.everywhere ≡ false → fired_in d values p half r ≡ []
  second-here h e = ap (λ half. fired_in d values p half r) h ∙ others-here values p r (others d p) e

-- ---- what code computes to lend the n channels of part q

pub record Stretch (values : List ℤ) (q n : ℕ) : Type 0 where
  pub start : Fits w64 (32 * q)
  pub bytes : Fits w64 (32 * q * 4)
  pub end : Fits w64 (32 * q + n)
  pub inside : 32 * q + n ≤ length values

stretch-of : (values : List ℤ) (q n : ℕ) → 32 * q + n ≤ 512 → length values ≡ 512 → Stretch values q n
stretch-of values q n fits long = record {
  start = record { fits = omega arith };
  bytes = record { fits = omega arith };
  end = record { fits = omega arith };
  inside = omega arith;
}

-- ---- the row of a rule

pub tasked : {s : List ℕ} {k : Counted.Deck} {rules parts : List ℕ} {values : List ℤ} {p q r : ℕ} → Tabled s k rules parts
    → length values ≡ 512 → p < k.parts → q < k.parts → r < k.rules → Tasked s k rules values p q r
tasked {parts} t long from to rule =
    record { parts = parts; tabled = t; long = long; from = from; to = to; rule = rule }

-- the byte of a kind
kind-low : (e : Bool) (n : ℕ) → n * kind_byte e ≤ n
kind-low true n = omega arith
kind-low false n = omega arith

module _ {s : List ℕ} {k : Counted.Deck} {rules : List ℕ} {values : List ℤ} {p q r : ℕ} (x : Tasked s k rules values p q r) where
  abbrev d : Deck
  d = deck_of s

  abbrev rule : Rule
  rule = rule_at d r

  -- the row: where the condition and the action stand, and the kind
  abbrev condition_at : ℕ
  condition_at = get_or rules (8 * r + 5) 0

  abbrev action_at : ℕ
  action_at = get_or rules (8 * r + 6) 0

  abbrev kind : ℕ
  kind = get_or rules (8 * r + 3) 0

  pub field : (i : ℕ) → i < 8 → Field rules r i
  field i low =
      let t = x.tabled in
      field_of rules r i (omega (arith, x.rule, t.counts.rules, t.counts.formed.rules)) low
      (omega (arith, x.rule, t.counts.rules, t.rule_table.room))

  kind-is : kind ≡ kind_byte rule.everywhere
  kind-is = x.tabled.sets.kind r

  pub is_wide : kind ≡ 1 → rule.everywhere ≡ true
  is_wide h = kind-wide rule.everywhere (sym kind-is ∙ h)

  pub is-here : (kind ≡ 1 → ⊥) → rule.everywhere ≡ false
  is-here h = kind-here rule.everywhere (λ e. h (kind-is ∙ e))

  -- as many far channels as the kind has
  pub few-fars : k.channels * kind ≤ k.channels
  few-fars = subst (λ n. k.channels * n ≤ k.channels) (sym kind-is) (kind-low rule.everywhere k.channels)

  pub fars-fit : Fits w64 (k.channels * kind)
  fars-fit = let c = x.tabled.counts in record { fits = omega (arith, few-fars, c.channels, c.formed.channels) }

  stretch : (part n : ℕ) → part < k.parts → n ≤ k.channels → Stretch values part n
  stretch part n h few =
      let c = x.tabled.counts in
      stretch-of values part n (omega (arith, h, few, c.channels, c.parts, c.formed.channels, c.formed.parts)) x.long

  pub own-stretch : Stretch values p k.channels
  own-stretch = stretch p k.channels x.from (omega arith)

  pub far-stretch : Stretch values q (k.channels * kind)
  far-stretch = stretch q (k.channels * kind) x.to few-fars

  pub to_low : q < 16
  to_low = let c = x.tabled.counts in omega (arith, x.to, c.parts, c.formed.parts)

  abbrev own : List ℤ
  own = slice_of k.channels p values

  abbrev far : List ℤ
  far = slice_of (k.channels * kind) q values

  fits : (q : ℕ) → q < k.parts → 32 * q + R d ≤ length values
  fits q h =
      let t = x.tabled.counts in
      omega (arith, x.long, t.parts, t.formed.channels, t.formed.parts)

  rule_known : r < M d
  rule_known = omega (arith, x.rule, x.tabled.counts.rules)

  -- what condition and action are lent, by the kind
  lent_by : (e : Bool) → Lent (task_scope (R d) e) values p q own (slice_of (k.channels * kind_byte e) q values)
  unfolding task_scope
  lent_by false =
      subst (λ n. Lent (own_only (R d)) values p q own (slice_of n q values)) (let e : 0 ≡ k.channels * 0 = omega arith in e)
      (subst (λ n. Lent (own_only (R d)) values p q own (take n (drop (32 * q) values)))
      (let e : 0 ≡ 32 * q + 0 - 32 * q = omega arith in e)
      (subst (λ n. Lent (own_only (R d)) values p q (slice_of n p values) []) (sym x.tabled.counts.channels)
      (lent-own (R d) p q values (fits p x.from))))
  lent_by true =
      subst (λ n. Lent (own_and_far (R d)) values p q own (slice_of n q values)) (let e : k.channels ≡ k.channels * 1 = omega arith in e)
      (subst (λ n. Lent (own_and_far (R d)) values p q (slice_of n p values) (slice_of n q values)) (sym x.tabled.counts.channels)
      (lent_both (R d) p q values (fits p x.from) (fits q x.to)))

  lent : Lent (task_scope (R d) rule.everywhere) values p q own far
  lent =
      subst (λ n. Lent (task_scope (R d) rule.everywhere) values p q own (slice_of (k.channels * n) q values)) (sym kind-is)
      (lent_by rule.everywhere)

  pub condition-known : HasTruth s condition_at (length own) (length far)
  condition-known = truth-known lent s condition_at _ (x.tabled.rule_table.condition r rule_known)

  pub condition-value : {b : Bool} → TruthIs s condition_at own far b → b ≡ holds values p q rule
  unfolding holds
  condition-value is =
      truth-value lent s condition_at _ (x.tabled.rule_table.condition r rule_known) (x.tabled.counts.scoped.condition r) is

  action-reads : ReadsAt s (action (scope (length own) (length far))) action_at rule.action
  action-reads = action-there lent s action_at _ (x.tabled.rule_table.action r rule_known)

  pub action-known : HasAction s action_at (length own) (length far)
  action-known = (rule.action, action-reads)

  pub action-inside : action_at < length s
  action-inside = (action-count (scope (length own) (length far)) s action_at rule.action action-reads).1

  pub action-length : get_or s action_at 0 ≡ length rule.action
  action-length = (action-count (scope (length own) (length far)) s action_at rule.action action-reads).0

  -- the numbers that the code writes are the place of a known update
  pub made_so : not (is_empty (adds values p q rule)) ≡ true → (row : List ℤ) → ActionIs s action_at q own far row
      → Made d values p q rule row
  made_so h row is =
      let a = rule.action in
      let some = adds-true values p q rule h in
      let e : row ≡ place (update_by own far q a) = is a action-reads in
      let back : update_of row ≡ update_by own far q a = ap update_of e ∙ update-back (update_by own far q a) in
      let there = action-stands (scope (length own) (length far)) s action_at a action-reads in
      record {
        one = some.0
            ∙ sent-agree lent a (x.tabled.counts.scoped.action r) some.1
            ∙ ap (λ (u : Update). u ∷ []) (sym back);
        known = record {
          long = ap length e ∙ row-length own far q a there.few;
          written = ap well_written e ∙ place-well (update_by own far q a);
          known = ap (known d) back
              ∙ known-update d own far q a (omega (arith, x.to, x.tabled.counts.parts)) some.1 (x.tabled.counts.formed.action r);
        };
      }

-- a known update of the deck is one of the shape of its tables
pub made-known : {s : List ℕ} {k : Counted.Deck} {rules parts : List ℕ} → Tabled s k rules parts → {row : List ℤ}
    → HoldsKnown (deck_of s) row → HoldsKnown (shape rules parts k) row
made-known {s} {k} {rules} {parts} t {row} h =
    same-holds (deck_of s) (shape rules parts k)
    (sym (shape-R rules parts k.channels k.rules k.parts ∙ t.counts.channels))
    (sym (shape-N rules parts k.channels k.rules k.parts ∙ t.counts.parts))
    row h
