-- The tables that the pass leaves are those of the deck that the bytes hold. Assumes nothing.
use Prim.Native.Nat.{ℕ, zero, suc, ◌+◌, ◌*◌, ◌≤◌, ◌<◌}
use Rattle.std.specs.Prelude.{◌≡◌, refl, Bool, true, ◌&&◌, leb, get_or, drop}
use Rattle.std.proofs.Math.Path.{sym, ap, subst}
use Rattle.std.proofs.Common.{◌∙◌, arith, leb-true, length-append, length-drop}
use mathlib.Core.List.{List, [], ◌∷◌, ◌++◌, flat_map}
use Rattle.std.proofs.Math.ListN.{length, length-map}
use Rattle.lists.specs.Lists.{all_of, lists}
use Rattle.lists.specs.Laws.Booleans.{and_left}
use Rattle.refusals.specs.Outcome.{Outcome, refused, accepted}
use Rattle.refusals.specs.Laws.Outcomes.{refused≢accepted}
use Rattle.expression.specs.Bytes.{Bytes}
use Rattle.deck.specs.declared.Form.{Form}
use Rattle.deck.specs.Deck.{Deck, R, M, N, rule_at}
use Rattle.deck.specs.Reader.{repeats, value}
use Rattle.deck.specs.Layout.{truths, Layout, expression, own_only, task_scope, action, value_of, read}
use Rattle.deck.specs.Encoding.{in_range, good_rule, good_part, well_formed, is_label}
use Rattle.deck.specs.Marks.{rules_at, RulesFit, MarkedTask, Marked, marked_sections, unmarked, rule_of, rule_row, part_row}
use Rattle.deck.specs.declared.Deck as Counted
use Rattle.deck.proofs.Laws.Marks.{map_got, read-marked}
use Rattle.deck.proofs.Laws.Points.{RulePoints, PartPoints}
use Rattle.deck.specs.Facts.{ReadsAt}
use Rattle.deck.proofs.Laws.DeckPoints.{Each, deck-points}
use Rattle.deck.proofs.Laws.TablesRead.{Zeros, zeros-drop, column, no_rule, no_part, rule-width, part-width, rule-read, part-read, tables-read}
use Rattle.deck.proofs.Laws.TablesRead.{counts-read, ranged-marked}
use Rattle.deck.proofs.Laws.RuleCount.{rule-count}
use Rattle.deck.proofs.Laws.Reading.{reads-exactly}
use Rattle.deck.proofs.Laws.Formed.{formed}
use Rattle.deck.proofs.Laws.Forms.{forms-agree}
use Rattle.deck.specs.declared.Form.TheVariants.{Old, New}
use Rattle.deck.proofs.Laws.Scoped.{scoped}
use Rattle.charge.specs.Memo.{OthersKept}
use Rattle.passing.specs.Tabled.{layout_in, first_read, layout_of, PartTable, RuleTable, TablesIn, Tabled}

-- what was read is what the bytes hold
pub layout-read : (f : Form) (s : List ℕ) (l : Layout) → read f s ≡ accepted l → layout_of s ≡ l
unfolding layout_of
layout-read f s l e = go f (read New s) refl e
  where
    go : (f : Form) (o : Outcome Layout) → read New s ≡ o → read f s ≡ accepted l → layout_in (first_read o (read Old s)) ≡ l
    go f (accepted k) i e = forms-agree New f s k l i e
    go Old (refused n p) i e = ap layout_in e
    go New (refused n p) i e = refused≢accepted (sym i ∙ e)

-- one of a list
each_at : {A : Type 0} (P : A → Type 0) (none : A) (l : List A) (i : ℕ) → Each P l → i < length l → P (get_or l i none)
each_at P none [] i h l = absurd (omega arith)
each_at P none (x ∷ xs) zero h l = h.0
each_at P none (x ∷ xs) (suc i) h l = each_at P none xs i h.1 (omega arith)

-- rows of one width
rows-length : {A : Type 0} (row : A → List ℕ) (w : ℕ) → ((x : A) → length (row x) ≡ w) → (l : List A)
    → length (flat_map row l) ≡ w * length l
unfolding lists
rows-length row w h [] = omega arith
rows-length row w h (x ∷ l) =
    let e : length (row x ++ flat_map row l) ≡ length (row x) + length (flat_map row l) = length-append (row x) (flat_map row l) in
    let a = h x in
    let b = rows-length row w h l in
    let k : w * suc (length l) ≡ w + w * length l = omega arith in
    omega arith

-- a deck has a channel
some-channel : (d : Deck) → well_formed d ≡ true → 1 ≤ R d
unfolding well_formed in_range
some-channel d h =
    let t1 : Bool = leb 1 (R d) && leb (R d) 32 in
    let t2 : Bool = t1 && all_of is_label d.labels in
    let t3 : Bool = t2 && leb (M d) 64 in
    let t4 : Bool = t3 && all_of (good_rule (R d)) d.rules in
    let t5 : Bool = t4 && in_range 1 16 (N d) in
    leb-true 1 (R d)
    (and_left (leb 1 (R d)) (leb (R d) 32)
    (and_left t1 (all_of is_label d.labels)
    (and_left t2 (leb (M d) 64)
    (and_left t3 (all_of (good_rule (R d)) d.rules)
    (and_left t4 (in_range 1 16 (N d)) (and_left t5 (all_of (good_part (R d) (M d)) d.parts) h))))))

module _ (f : Form) (s : List ℕ) (m : Marked) (e : marked_sections f s 0 ≡ accepted (record { value = m; rest = []; at = length s })) where
  pub marked-read : read f s ≡ accepted (unmarked m)
  unfolding value_of
  marked-read = read-marked f s ∙ ap (λ o. value_of (map_got unmarked o)) e

  pub marked-layout : layout_of s ≡ unmarked m
  marked-layout = layout-read f s (unmarked m) marked-read

  -- the deck with its offsets forgotten, and the counts before its sections
  abbrev d : Deck
  d = (unmarked m).deck

  counts : (length m.front.rules ≡ m.front.count) × (length m.parts ≡ m.count) × (length m.front.labels ≡ m.front.channels)
  counts = counts-read f s (record { value = m; rest = []; at = length s }) e

  rules-count : M d ≡ m.front.count
  unfolding M unmarked
  rules-count = length-map m.front.rules rule_of ∙ counts.0

  parts-count : N d ≡ m.count
  unfolding N unmarked
  parts-count = length-map m.parts (λ p. p.part) ∙ counts.1

  channels-count : R d ≡ m.front.channels
  unfolding R unmarked
  channels-count = counts.2

  points : Each (RulePoints m.front.channels s) m.front.rules × Each (PartPoints m.front.channels s) m.parts
  points = deck-points f s (record { value = m; rest = []; at = length s }) e

  rule-at : (r : ℕ) → r < M d → RulePoints (R d) s (get_or m.front.rules r no_rule)
  rule-at r h =
      subst (λ c. RulePoints c s (get_or m.front.rules r no_rule)) (sym channels-count)
      (each_at (RulePoints m.front.channels s) no_rule m.front.rules r points.0 (omega (arith, h, rules-count, counts.0)))

  part_at : (p : ℕ) → p < N d → PartPoints (R d) s (get_or m.parts p no_part)
  part_at p h =
      subst (λ c. PartPoints c s (get_or m.parts p no_part)) (sym channels-count)
      (each_at (PartPoints m.front.channels s) no_part m.parts p points.1 (omega (arith, h, parts-count, counts.1)))

  -- the tables, which were all 0 before
  module _ (rules₀ parts₀ : List ℕ) (zr : Zeros rules₀) (zp : Zeros parts₀) where
    abbrev rules : List ℕ
    rules = flat_map rule_row m.front.rules ++ drop (8 * m.front.count) rules₀

    abbrev parts : List ℕ
    parts = flat_map part_row m.parts ++ drop (4 * m.count) parts₀

    rule-column : (j r : ℕ) → j < 8 → get_or (rule_row no_rule) j 0 ≡ 0
        → get_or rules (8 * r + j) 0 ≡ get_or (rule_row (get_or m.front.rules r no_rule)) j 0
    rule-column j r h z =
        column rule_row 8 j rule-width h no_rule z (drop (8 * m.front.count) rules₀) (zeros-drop (8 * m.front.count) rules₀ zr)
        m.front.rules r

    part-column : (j p : ℕ) → j < 4 → get_or (part_row no_part) j 0 ≡ 0
        → get_or parts (4 * p + j) 0 ≡ get_or (part_row (get_or m.parts p no_part)) j 0
    part-column j p h z =
        column part_row 4 j part-width h no_part z (drop (4 * m.count) parts₀) (zeros-drop (4 * m.count) parts₀ zp) m.parts p

    rules_long : 8 * M d ≤ length rules₀ → length rules ≡ length rules₀
    rules_long h =
        omega (
          arith,
          h,
          rules-count,
          counts.0,
          length-append (flat_map rule_row m.front.rules) (drop (8 * m.front.count) rules₀),
          length-drop (8 * m.front.count) rules₀,
          rows-length rule_row 8 rule-width m.front.rules,
        )

    parts_long : length parts₀ ≡ 64 → N d ≤ 16 → length parts ≡ 64
    parts_long h k =
        omega (
          arith,
          h,
          k,
          parts-count,
          counts.1,
          length-append (flat_map part_row m.parts) (drop (4 * m.count) parts₀),
          length-drop (4 * m.count) parts₀,
          rows-length part_row 4 part-width m.parts,
        )

    -- what stands at the offsets
    rule-table : 256 ≤ length rules₀ → 8 * M d ≤ length rules₀ → RuleTable s d rules
    unfolding rule_row rule_of
    rule-table h room =
        record {
          long = omega (arith, h, rules_long room);
          room = omega (arith, room, rules_long room);
          default = λ r k.
              subst (λ a. ReadsAt s (action (own_only (R d))) (get_or rules (8 * r + 4) 0) a.default) (sym (rule-read m r))
              (subst (λ at. ReadsAt s (action (own_only (R d))) at (get_or m.front.rules r no_rule).default)
              (sym (rule-column 4 r (omega arith) refl))
              (rule-at r k).default);
          condition = λ r k.
              subst (λ a. ReadsAt s (expression (truths (task_scope (R d) a.everywhere))) (get_or rules (8 * r + 5) 0) a.condition)
              (sym (rule-read m r))
              (subst
              (λ at. ReadsAt s (expression (truths (task_scope (R d) (task r).everywhere))) at (task r).condition)
              (sym (rule-column 5 r (omega arith) refl))
              (rule-at r k).task.condition);
          action = λ r k.
              subst (λ a. ReadsAt s (action (task_scope (R d) a.everywhere)) (get_or rules (8 * r + 6) 0) a.action) (sym (rule-read m r))
              (subst (λ at. ReadsAt s (action (task_scope (R d) (task r).everywhere)) at (task r).action)
              (sym (rule-column 6 r (omega arith) refl))
              (rule-at r k).task.action);
        }
      where
        task : ℕ → MarkedTask
        task r = (get_or m.front.rules r no_rule).task

    part-table : length parts₀ ≡ 64 → N d ≤ 16 → PartTable s d parts
    unfolding part_row
    part-table h few =
        record {
          long = parts_long h few;
          opening = λ p k.
              subst (λ a. ReadsAt s (repeats (R d) value) (get_or parts (4 * p + 1) 0) a.opening) (sym (part-read m p))
              (subst (λ at. ReadsAt s (repeats (R d) value) at (get_or m.parts p no_part).part.opening)
              (sym (part-column 1 p (omega arith) refl))
              (part_at p k).opening);
          limit = λ p k.
              subst (λ a. ReadsAt s (expression (truths (own_only (R d)))) (get_or parts (4 * p + 2) 0) a.limit) (sym (part-read m p))
              (subst (λ at. ReadsAt s (expression (truths (own_only (R d)))) at (get_or m.parts p no_part).part.limit)
              (sym (part-column 2 p (omega arith) refl))
              (part_at p k).limit);
        }

    -- the numbers that the pass keeps
    abbrev kept : Counted.Deck
    kept =
        record {
          channels = m.front.channels;
          rules = m.front.count;
          parts = m.count;
          rules_at = m.front.rules_at;
          parts_at =
              m.parts_at;
        }

    -- all of it, for numbers that are bytes
    pub tabled : Bytes s → 256 ≤ length rules₀ → RulesFit s (length rules₀) → length parts₀ ≡ 64
        → Tabled s kept rules parts
    unfolding unmarked
    tabled b hr fits hp =
        let well = ((reads-exactly f s b d).reads (unmarked m, marked-read, refl)).0 in
        let sound = formed d well in
        let told : M d ≡ rules_at s = rules-count ∙ (rule-count f s (record { value = m; rest = []; at = length s }) e).1 in
        subst (λ l. TablesIn s l kept rules parts) (sym marked-layout)
        (record {
          counts = record {
            channels = sym channels-count;
            rules = sym rules-count;
            parts = sym parts-count;
            rules_at = refl;
            parts_at = refl;
            some = some-channel d well;
            formed = sound;
            scoped = scoped d well;
          };
          rule_table = rule-table hr (omega (arith, told, fits (omega (arith, told, sound.rules))));
          part_table = part-table hp sound.parts;
          sets = tables-read m rules₀ parts₀ zr zp;
          ranged = ranged-marked f s (record { value = m; rest = []; at = length s }) e;
        })

-- ---- a column that the pass leaves free

-- the tables are the deck's whatever stands in column 7 of the rules
pub tabled-kept : {s rules₀ rules parts : List ℕ} {l : Layout} {k : Counted.Deck} → OthersKept rules₀ rules → TablesIn s l k rules₀ parts
    → TablesIn s l k rules parts
tabled-kept {s} {rules₀} {rules} {parts} {l} o t =
    record {
      counts = t.counts;
      rule_table = record {
        long = omega (arith, o.long, t.rule_table.long);
        room = omega (arith, o.long, t.rule_table.room);
        default = λ r h.
            subst (λ at. ReadsAt s (action (own_only (R l.deck))) at (rule_at l.deck r).default) (kept 4 r (omega arith))
            (t.rule_table.default r h);
        condition = λ r h.
            subst
            (λ at.
            let sc = task_scope (R l.deck) (rule_at l.deck r).everywhere in
            ReadsAt s (expression (truths sc)) at (rule_at l.deck r).condition)
            (kept 5 r (omega arith))
            (t.rule_table.condition r h);
        action = λ r h.
            subst (λ at. ReadsAt s (action (task_scope (R l.deck) (rule_at l.deck r).everywhere)) at (rule_at l.deck r).action)
            (kept 6 r (omega arith))
            (t.rule_table.action r h);
      };
      part_table = t.part_table;
      sets = record {
        events = λ r. first rules r ∙ o.each r 0 (omega arith) ∙ sym (first rules₀ r) ∙ t.sets.events r;
        default = λ r. o.each r 1 (omega arith) ∙ t.sets.default r;
        action = λ r. o.each r 2 (omega arith) ∙ t.sets.action r;
        kind = λ r. o.each r 3 (omega arith) ∙ t.sets.kind r;
        carried = t.sets.carried;
      };
      ranged = t.ranged;
    }
  where
    kept : (j r : ℕ) → j < 7 → get_or rules₀ (8 * r + j) 0 ≡ get_or rules (8 * r + j) 0
    kept j r h = sym (o.each r j h)

    first : (table : List ℕ) (r : ℕ) → get_or table (8 * r) 0 ≡ get_or table (8 * r + 0) 0
    first table r = ap (λ i. get_or table i 0) (let e : 8 * r ≡ 8 * r + 0 = omega arith in e)
