-- From what the pass and the searches give to the answer of the tests of a deck. Assumes nothing.
use Rattle.std.specs.Prelude.{ℕ, suc, ◌≤◌, ◌<◌, ◌≡◌, refl, Bool, List, [], ◌∷◌, length, get_or, replicate, Result, Ok, Err}
use Rattle.std.proofs.Math.Path.{sym}
use Rattle.std.proofs.Common.{ap, ◌∙◌, subst, inl, inr, Fits, lt-ltb}
use Rattle.std.proofs.Math.Bool.{not}
use native.Mathlib.Omega.{arith}
use Rattle.std.proofs.Math.Decide.{dec_lt}
use Rattle.std.proofs.lemmas.List.{length-replicate, get_or-replicate}
use Rattle.std.proofs.Math.ListN.{get_or-eq_default}
use Rattle.std.specs.Int.{w8}
use Rattle.lists.specs.Lists.{select, below, first_or, lists}
use Rattle.lists.specs.Laws.Below.{select-first}
use Rattle.lists.specs.Laws.Booleans.{and_both}
use Rattle.refusals.specs.Outcome.{refused, accepted}
use Rattle.refusals.specs.Numbers.{opens_outside}
use Rattle.refusals.specs.Declined.{decline_outcome}
use Rattle.refusals.specs.declared.Declined.{Declined}
use Rattle.expression.specs.Bytes.{Bytes}
use Rattle.deck.specs.declared.Form.{Form}
use Rattle.deck.specs.declared.Form.TheVariants.{Old, New}
use Rattle.deck.specs.Deck.{Deck, R, M, N}
use Rattle.deck.specs.Layout.{read, value_of}
use Rattle.deck.specs.Shape.{shape_of}
use Rattle.deck.specs.Marks.{RulesFit, marked_sections, unmarked, Loads}
use Rattle.deck.specs.declared.Deck as Counted
use Rattle.deck.proofs.Laws.Marks.{map_got, read-marked}
use Rattle.deck.proofs.Laws.Shape.{counted-R, counted-M, counted-N}
use Rattle.deck.proofs.Laws.Tables.{SameTests, shape-tests}
use Rattle.deck.proofs.Laws.TablesRead.{Zeros}
use Rattle.graph.specs.Graph.{edge, reaches_itself, cyclic}
use Rattle.graph.specs.FirstCycle.{first_cycle}
use Rattle.graph.specs.Masks.{Sized}
use Rattle.graph.proofs.Laws.Targets.{known-targets}
use Rattle.graph.proofs.Laws.Same.{same_first, same_known}
use Rattle.graph.proofs.Laws.FirstCycle.{first-acyclic}
use Rattle.charge.specs.Charge.{carried_charges, above_bound, largest_charge}
use Rattle.charge.specs.Memo.{Noted, AcyclicTables, memo_size, Memo}
use Rattle.charge.specs.Answer.{bound_of}
use Rattle.charge.proofs.Laws.Bound.{first_above}
use Rattle.charge.proofs.Laws.Shape.{shape-bound}
use Rattle.charge.proofs.Laws.Tables.{memo-new, memo-long}
use Rattle.passing.specs.Check.{within, opening_values, outside, passing}
use Rattle.passing.specs.Tabled.{layout_of, deck_of, Tabled, PartsKnown}
use Rattle.deck.specs.Shape.{shape}
use Rattle.passing.specs.Judged.{RulesKnown, JudgesRules, ZeroRules, ZeroMemo, WholeKnown, Passed, Judges}
use Rattle.passing.specs.declared.Passing.{Passing}
use Rattle.passing.proofs.Laws.CheckSteps.{first_outside, above-bound, passing-6, passing-7, passing-8, passing-whole}
use Rattle.passing.proofs.Laws.Places.{read-place}
use Rattle.passing.proofs.Laws.Tabled.{marked-read, marked-layout, tabled}

-- ---- the pass

-- a table of zeros
pub zeros-table : (n : ℕ) → Zeros (replicate n 0)
zeros-table n i = go (dec_lt i n)
  where
    none : ℕ
    none = 0

    go : Dec (i < n) → get_or (replicate n none) i none ≡ none
    go (yes h) = get_or-replicate n i none none h
    go (no h) = get_or-eq_default (replicate n none) none (omega (arith, length-replicate n none))

-- the table of rules as the pass takes it
module _ {s rules : List ℕ} (z : ZeroRules s rules) where
  size : length rules ≡ z.size
  size = let none : ℕ = 0 in ap length z.zeros ∙ length-replicate z.size none

  long : 256 ≤ length rules
  long = omega (arith, size, z.long)

  pub rules-fit : RulesFit s (length rules)
  rules-fit h = omega (arith, size, z.fits h)

module _ (f : Form) (s rules parts rules₀ : List ℕ) where
  pub loaded-tabled : (k : Counted.Deck) → ZeroRules s rules₀ → Loads f s rules rules₀ parts (replicate 64 0) (Ok k) → Bytes s
      → WholeKnown s k rules parts
  loaded-tabled k z w b =
      let m = w.0 in
      let none : ℕ = 0 in
      let blank : Zeros rules₀ = subst Zeros (sym z.zeros) (zeros-table z.size) in
      let t = tabled f s m w.1 rules₀ (replicate 64 0) blank (zeros-table 64) b (long z) (rules-fit z) (length-replicate 64 none) in
      record { tabled = rw (w.2, w.3, w.4) t; bytes = b }

  pub loaded-read : (k : Counted.Deck) → Loads f s rules rules₀ parts (replicate 64 0) (Ok k) → read f s ≡ accepted (layout_of s)
  loaded-read k w = marked-read f s w.0 w.1 ∙ ap accepted (sym (marked-layout f s w.0 w.1))

  -- the memo is as long as the deck that was read needs it
  pub loaded-memo : (k : Counted.Deck) {memo : List ℕ} → Loads f s rules rules₀ parts (replicate 64 0) (Ok k) → ZeroMemo s memo
      → memo ≡ replicate (memo_size k.rules) 0
  loaded-memo k w z = z f w.0 w.1 ∙ ap (λ (c : Counted.Deck). replicate (memo_size c.rules) 0) (sym w.2)

pub loaded-wrong : (f : Form) (s : List ℕ) (n p : ℕ) → marked_sections f s 0 ≡ refused n p → read f s ≡ refused n p
unfolding value_of
loaded-wrong f s n p e = read-marked f s ∙ ap (λ o. value_of (map_got unmarked o)) e

pub wrong-place : (f : Form) (s : List ℕ) (n p : ℕ) → read f s ≡ refused n p → p ≤ 65536
wrong-place Old s n p e = omega (arith, read-place Old s n p e)
wrong-place New s n p e = omega (arith, read-place New s n p e)

-- ---- the searches

-- a search that found none below its bound found the bound
first-whole : (f : ℕ → Bool) (n c : ℕ) → c ≡ first_or n (select f (below n)) → n ≤ c → first_or n (select f (below n)) ≡ n
unfolding first_or
first-whole f n c e h = go (select f (below n)) refl e
  where
    go : (l : List ℕ) → select f (below n) ≡ l → c ≡ first_or n l → first_or n l ≡ n
    go [] g e = refl
    go (x ∷ xs) g e = absurd (omega (arith, h, e, (select-first f n x xs g).1))

module _ (rules parts : List ℕ) (k : Counted.Deck) (w : RulesKnown rules parts k) where
  abbrev d : Deck
  d = shape rules parts k

  pub above_place : (p : ℕ) → bound_of d ≡ Err p → p ≤ 65536
  unfolding bound_of
  above_place p e =
      let f = first_above d (omega (arith, counted-M rules parts k, w.sized.few_rules)) p _
      (above-bound (above_bound (carried_charges d)) (largest_charge d) p e).1 in
      omega (
        arith,
        f.place,
        f.part_known,
        f.rule_known,
        counted-M rules parts k,
        counted-N rules parts k,
        w.sized.few_rules,
        w.sized.few_parts,
      )

  pub cycle-none : (c : ℕ) → c ≡ first_cycle d → k.channels ≤ c → first_cycle d ≡ k.channels
  unfolding first_cycle cyclic
  cycle-none c e h =
      first-whole (reaches_itself (R d) (edge d)) (R d) c e (omega (arith, h, counted-R rules parts k))
      ∙ counted-R rules parts k

  pub acyclic-tables : first_cycle d ≡ k.channels → AcyclicTables rules parts k
  unfolding first_cycle
  acyclic-tables e =
      record {
        rules_long = w.long;
        rules_room = w.sized.long_rules;
        parts_long = w.sized.long_parts;
        few_rules = w.sized.few_rules;
        few_parts = w.sized.few_parts;
        acyclic = (first-acyclic w.known).0 (e ∙ sym (counted-R rules parts k));
        known = w.known;
        noted = w.noted;
      }

-- a memo of zeros for the count of rules in the tables, and one that keeps its length
module _ (rules parts : List ℕ) (k : Counted.Deck) {m₀ : List ℕ} (e : m₀ ≡ replicate (memo_size k.rules) 0) where
  pub memo-zeros : Memo (shape rules parts k) m₀
  memo-zeros =
      subst (Memo (shape rules parts k))
      (ap (λ n. replicate (memo_size n) 0) (counted-M rules parts k) ∙ sym e)
      (memo-new (shape rules parts k))

  pub memo-length : {m : List ℕ} → Memo (shape rules parts k) m → length m ≡ length m₀
  memo-length w =
      let none : ℕ = 0 in
      memo-long rules parts k w ∙ sym (ap length e ∙ length-replicate (memo_size k.rules) none)

-- ---- the deck and the shape of its tables

module _ (s rules parts : List ℕ) (k : Counted.Deck) (t : Tabled s k rules parts) where
  abbrev whole : Deck
  whole = deck_of s

  shape_is : shape rules parts k ≡ shape_of rules parts (R whole) (M whole) (N whole)
  shape_is = rw (t.counts.channels, t.counts.rules, t.counts.parts) refl

  same : SameTests (shape rules parts k) whole
  same = subst (λ x. SameTests x whole) (sym shape_is) (shape-tests t.sets t.ranged)

  pub parts-known : PartsKnown s k parts
  parts-known = record { counts = t.counts; table = t.part_table }

  pub rules-sized : Sized rules parts k.rules k.parts
  rules-sized =
      record {
        long_rules = omega (arith, t.counts.rules, t.rule_table.room);
        long_parts = omega (arith, t.part_table.long);
        few_rules = omega (arith, t.counts.rules, t.counts.formed.rules);
        few_parts = omega (arith, t.counts.parts, t.counts.formed.parts);
      }

  pub rules-known : Noted rules parts k.rules k.parts → RulesKnown rules parts k
  rules-known noted =
      record {
        sized = rules-sized;
        long = t.rule_table.long;
        few = omega (arith, t.counts.channels, t.counts.formed.channels);
        known = same_known same (known-targets whole t.counts.formed);
        noted = noted;
      }

  first-same : first_cycle (shape rules parts k) ≡ first_cycle whole
  first-same = same_first same

  bound-same : bound_of (shape rules parts k) ≡ bound_of whole
  bound-same = ap bound_of shape_is ∙ shape-bound t.sets t.ranged

  module _ (f : Form) (r : read f s ≡ accepted (layout_of s)) where
    pub outside-none : (p : ℕ) → p ≡ first_outside whole → k.parts ≤ p → first_outside whole ≡ N whole
    unfolding first_outside outside
    outside-none p e h =
        first-whole (λ p. not (within whole p (opening_values whole))) (N whole) p e (omega (arith, h, t.counts.parts))

    -- as it is said by a search that gives the bound where it finds none
    pub outside-counted : first_outside whole ≡ k.parts → first_outside whole ≡ N whole
    outside-counted e = e ∙ t.counts.parts

    pub outside-refused : (p : ℕ) → p ≡ first_outside whole → p < k.parts → passing f s ≡ refused opens_outside p
    outside-refused p e h = passing-6 f s (layout_of s) r p (sym e) (omega (arith, t.counts.parts))

    module _ (six : first_outside whole ≡ N whole) (memo : List ℕ) where
      seven : first_cycle (shape rules parts k) ≡ k.channels → first_cycle whole ≡ R whole
      seven e = sym first-same ∙ e ∙ t.counts.channels

      pub rules-refused : (d : Declined) → JudgesRules rules parts memo k (Err d) → passing f s ≡ decline_outcome d
      rules-refused d (inl x) =
          passing-7 f s (layout_of s) r six d.place (sym first-same ∙ x.1) (omega (arith, x.2, t.counts.channels))
          ∙ ap (λ m. refused m d.place) (sym x.0)
      rules-refused d (inr x) =
          passing-8 f s (layout_of s) r six (seven x.1) d.place (sym bound-same ∙ x.2) ∙ ap (λ m. refused m d.place) (sym x.0)

      pub rules-passed : Bytes s → (p : Passing) → JudgesRules rules parts memo k (Ok p)
          → Passed f s rules parts memo p.counts p.charge
      rules-passed b p x =
          let w = passing-whole f s (layout_of s) r six (seven x.1) p.charge (sym bound-same ∙ x.2) in
          subst (λ c. Passed f s rules parts memo c p.charge) (sym x.0)
          (record { passes = w.0; largest = w.1; tabled = t; acyclic = x.3; charges = x.4; bytes = b })

      pub rules-judged : Bytes s → (r : Result Passing Declined) → JudgesRules rules parts memo k r → Judges f s rules parts memo r
      rules-judged b (Ok p) x = rules-passed b p x
      rules-judged b (Err d) x = rules-refused d x

-- numbers that are values of a byte
pub bytes-known : (s : List ℕ) → ((i : ℕ) → Fits w8 (get_or s i 0)) → Bytes s
unfolding lists
bytes-known [] h = refl
bytes-known (b ∷ s) h = and_both (lt-ltb b 256 (h 0).fits) (bytes-known s (λ i. h (suc i)))

-- the search for a part outside its limit
pub outside-found : (d : Deck) (p : ℕ) → p ≡ first_or (N d) (outside d) → p ≡ first_outside d
unfolding first_outside
outside-found d p e = e
