-- The tables that the pass over a deck's bytes leaves behind are the tables of the deck that it read; and that deck is as
-- long as its counts say, and knows every channel and rule that it names. Assumes nothing.
use Prim.Native.Nat.{ℕ, zero, suc, ◌+◌, ◌*◌, ◌<◌, ◌≤◌}
use Rattle.std.specs.Prelude.{◌≡◌, Bool, true, false, not, ◌&&◌, leb, ltb, eqb, length}
use Rattle.std.proofs.Math.Path.{refl, sym, ap}
use Rattle.std.proofs.Common.{◌∙◌, add-zero, zero-add, suc-add, ltb-true}
use mathlib.Core.List.{List, [], ◌∷◌, ◌++◌, append_assoc, flat_map}
use native.Mathlib.Omega.{arith}
use Rattle.std.proofs.Math.ListN.{get_or, drop, get_or-append, get_or-map}
use Rattle.lists.specs.Lists.{all_of, member, lists}
use Rattle.lists.specs.Bits.{mask_of, mask_from}
use Rattle.lists.specs.Laws.Booleans.{and_both, and_left, and_right}
use Rattle.lists.specs.Laws.Alls.{all_of-cons, all_of-get_or}
use Rattle.lists.specs.Laws.Members.{all_of-member}
use Rattle.refusals.specs.Outcome.{Outcome, refused, accepted}
use Rattle.refusals.specs.Numbers.{out_of_range, repeated_target, default_retired}
use Rattle.expression.specs.Syntax.{constant}
use Rattle.expression.specs.Reading.{Scope}
use Rattle.deck.specs.declared.Form.{Form}
use Rattle.deck.specs.Deck.{Rule, Part, Deck, R, M, rule_at, part_at, targets}
use Rattle.deck.specs.Encoding.{kind_byte}
use Rattle.deck.specs.Reader.{Got, Reader, and_then, give, expect, end, number, repeats, rising, value, readers, label}
use Rattle.deck.specs.Layout.{numbers, truths, expression, own_only, task_scope, assignments, action, rule, part, allows, default_action}
use Rattle.deck.specs.Layout.{Layout, sections, value_of, read}
use Rattle.deck.specs.Marks.{
  MarkedRule,
  marked_rule,
  rule_of,
  MarkedPart,
  marked_part,
  MarkedFront,
  marked_front,
  Marked,
  marked_sections,
  unmarked,
  rule_row,
  part_row,
}
use Rattle.deck.specs.Tables.{TablesOf, Ranged}
use Rattle.deck.proofs.Laws.Exact.{Accepts, accepting, refusing, accepts, accepts-map, then-accepts}
use Rattle.deck.proofs.Laws.Formed.{owns-task}
use Rattle.deck.proofs.Laws.Reading.{value-accepts}
use Rattle.deck.proofs.Laws.Marks.{map_got, read-marked}

-- ---- a column of a table

-- behind the first list
past-front : (a b : List ℕ) (n d : ℕ) → get_or (a ++ b) (length a + n) d ≡ get_or b n d
past-front [] b n d = ap (λ k. get_or b k d) (zero-add n)
past-front (x ∷ a) b n d = ap (λ k. get_or (x ∷ (a ++ b)) k d) (suc-add (length a) n) ∙ past-front a b n d

-- no number of a list but 0
abbrev pub Zeros : List ℕ → Type 0
Zeros l = (i : ℕ) → get_or l i 0 ≡ 0

pub zeros-drop : (k : ℕ) (l : List ℕ) → Zeros l → Zeros (drop k l)
zeros-drop zero l h i = h i
zeros-drop (suc k) [] h i = refl
zeros-drop (suc k) (x ∷ l) h i = zeros-drop k l (λ n. h (suc n)) i

-- One thing stands for all that the list does not have: its row has a 0 in this column, as the numbers behind the rows do.
-- So no case needs to know how many rows there are.
module _ {A : Type 0} (row : A → List ℕ) (width j : ℕ) (w : (x : A) → length (row x) ≡ width) (h : j < width) (none : A)
    (e : get_or (row none) j 0 ≡ 0) (z : List ℕ) (zeros : Zeros z) where
  pub column : (l : List A) (i : ℕ) → get_or (flat_map row l ++ z) (width * i + j) 0 ≡ get_or (row (get_or l i none)) j 0
  unfolding lists
  column [] i = zeros (width * i + j) ∙ sym e
  column (y ∷ l) zero =
      let index : width * 0 + j ≡ j = omega arith in
      ap (λ t. get_or t (width * 0 + j) 0) (append_assoc (row y) (flat_map row l) z)
      ∙ ap (λ k. get_or (row y ++ (flat_map row l ++ z)) k 0) index
      ∙ get_or-append (row y) (flat_map row l ++ z) 0 j (omega (arith, w y, h))
  column (y ∷ l) (suc i) =
      let index : width * suc i + j ≡ width + (width * i + j) = omega arith in
      ap (λ t. get_or t (width * suc i + j) 0) (append_assoc (row y) (flat_map row l) z)
      ∙ ap (λ k. get_or (row y ++ (flat_map row l ++ z)) k 0) (index ∙ ap (λ n. n + (width * i + j)) (sym (w y)))
      ∙ past-front (row y) (flat_map row l ++ z) (width * i + j) 0
      ∙ column l i

-- ---- both tables

-- what stands for a rule, or a part, that was not read
abbrev pub no_rule : MarkedRule
no_rule =
    record {
      events = [];
      default = [];
      default_at = 0;
      task = record { everywhere = false; condition = constant false; condition_at = 0; action = []; action_at = 0 };
    }

abbrev pub no_part : MarkedPart
no_part = record { part = record { opening = []; carried = []; limit = constant true }; opening_at = 0; limit_at = 0 }

pub rule-width : (x : MarkedRule) → length (rule_row x) ≡ 8
unfolding rule_row
rule-width x = refl

pub part-width : (x : MarkedPart) → length (part_row x) ≡ 4
unfolding part_row
part-width x = refl

module _ (m : Marked) where
  pub rule-read : (r : ℕ) → rule_at (unmarked m).deck r ≡ rule_of (get_or m.front.rules r no_rule)
  unfolding rule_at unmarked rule_of
  rule-read r = get_or-map rule_of m.front.rules r no_rule

  pub part-read : (p : ℕ) → part_at (unmarked m).deck p ≡ (get_or m.parts p no_part).part
  unfolding part_at unmarked
  part-read p = get_or-map (λ x. x.part) m.parts p no_part

  -- The tables were all 0 before. How many rows there are plays no role, since a missing one reads as 0 too
  pub tables-read : (rules₀ parts₀ : List ℕ) → Zeros rules₀ → Zeros parts₀
      → TablesOf (unmarked m).deck (flat_map rule_row m.front.rules ++ drop (8 * m.front.count) rules₀)
      (flat_map part_row m.parts ++ drop (4 * m.count) parts₀)
  unfolding rule_row part_row rule_of mask_of mask_from targets
  tables-read rules₀ parts₀ zr zp =
      let rules = flat_map rule_row m.front.rules ++ drop (8 * m.front.count) rules₀ in
      let parts = flat_map part_row m.parts ++ drop (4 * m.count) parts₀ in
      let rest = drop (8 * m.front.count) rules₀ in
      let zeros : Zeros rest = zeros-drop (8 * m.front.count) rules₀ zr in
      record {
        events = λ r.
            ap (λ k. get_or rules k 0) (sym (add-zero (8 * r)))
            ∙ column rule_row 8 0 rule-width (omega arith) no_rule refl rest zeros m.front.rules r
            ∙ ap (λ x. mask_of x.events) (sym (rule-read r));
        default = λ r.
            column rule_row 8 1 rule-width (omega arith) no_rule refl rest zeros m.front.rules r
            ∙ ap (λ x. mask_of (targets x.default)) (sym (rule-read r));
        action = λ r.
            column rule_row 8 2 rule-width (omega arith) no_rule refl rest zeros m.front.rules r
            ∙ ap (λ x. mask_of (targets x.action)) (sym (rule-read r));
        kind = λ r.
            column rule_row 8 3 rule-width (omega arith) no_rule refl rest zeros m.front.rules r
            ∙ ap (λ x. kind_byte x.everywhere) (sym (rule-read r));
        carried = λ p.
            ap (λ k. get_or parts k 0) (sym (add-zero (4 * p)))
            ∙ column part_row 4 0 part-width (omega arith) no_part refl (drop (4 * m.count) parts₀)
            (zeros-drop (4 * m.count) parts₀ zp) m.parts p
            ∙ ap (λ x. mask_of x.carried) (sym (part-read p));
      }

-- ---- the counts

-- what is not looked at
anything : {A : Type 0} (o : Outcome A) → Accepts (λ _. Unit {0}) o
anything (refused n p) = refusing
anything (accepted a) = accepting tt

-- n things, each of which passes a test
repeats-each : {A : Type 0} (f : A → Bool) (r : Reader A) → ((s : List ℕ) (at : ℕ) → Accepts (λ g. f g.value ≡ true) (r s at))
    → (n : ℕ) (s : List ℕ) (at : ℕ) → Accepts (λ g. (length g.value ≡ n) × (all_of f g.value ≡ true)) (repeats n r s at)
unfolding readers lists
repeats-each f r h zero s at = accepting (refl, refl)
repeats-each f r h (suc n) s at =
    then-accepts _ (h s at) λ x p.
    then-accepts _ (repeats-each f r h n x.rest x.at) λ xs q.
    accepting (ap suc q.0, all_of-cons f x.value xs.value p q.1)

repeats-long : {A : Type 0} (r : Reader A) (n : ℕ) (s : List ℕ) (at : ℕ) → Accepts (λ g. length g.value ≡ n) (repeats n r s at)
repeats-long r n s at =
    accepts-map (λ g p. p.0) (repeats-each (λ _. true) r (λ s at. accepts-map (λ _ _. refl) (anything (r s at))) n s at)

-- the lists are as long as the counts before them say
abbrev FrontCounted : MarkedFront → Type 0
FrontCounted m = (length m.rules ≡ m.count) × (length m.labels ≡ m.channels)

abbrev Counted : Marked → Type 0
Counted m =
    (length m.front.rules ≡ m.front.count)
    × (length m.parts ≡ m.count)
    × (length m.front.labels ≡ m.front.channels)

front-counts : (f : Form) (s : List ℕ) (at : ℕ) → Accepts (λ g. FrontCounted g.value) (marked_front f s at)
unfolding marked_front readers
front-counts f s at =
    then-accepts _ (anything (number 1 33 s at)) λ R _.
    then-accepts _ (repeats-long label R.value R.rest R.at) λ labels l.
    then-accepts _ (anything (number 0 65 labels.rest labels.at)) λ M _.
    then-accepts _ (repeats-long (marked_rule f R.value) M.value M.rest M.at) λ rules k.
    accepting (k, l)

sections-counts : (f : Form) (s : List ℕ) (at : ℕ) → Accepts (λ g. Counted g.value) (marked_sections f s at)
unfolding marked_sections readers
sections-counts f s at =
    then-accepts _ (front-counts f s at) λ front k.
    then-accepts _ (anything (number 1 17 front.rest front.at)) λ N _.
    let part = marked_part front.value.channels front.value.count in
    then-accepts _ (repeats-long part N.value N.rest N.at) λ parts l.
    then-accepts _ (anything (end parts.rest parts.at)) λ _ _.
    accepting (k.0, l, k.1)

-- a deck that was read has as many channels, rules and parts as its counts say
pub counts-read : (f : Form) (s : List ℕ) (g : Got Marked) → marked_sections f s 0 ≡ accepted g
    → (length g.value.front.rules ≡ g.value.front.count)
    × (length g.value.parts ≡ g.value.count)
    × (length g.value.front.labels ≡ g.value.front.channels)
counts-read f s g e = accepts (sections-counts f s 0) e

-- ---- the ranges

-- every number of a list is below n
abbrev under : ℕ → List ℕ → Bool
under n l = all_of (λ c. ltb c n) l

abbrev known_rule : ℕ → Rule → Bool
known_rule R r = under R r.events && under R (targets r.default) && under R (targets r.action)

abbrev known_part : ℕ → Part → Bool
known_part M p = under M p.carried

under-member : (n : ℕ) (l : List ℕ) → under n l ≡ true → (c : ℕ) → member c l ≡ true → c < n
under-member n l h c m = ltb-true c n ((all_of-member (λ c. ltb c n) l).0 h c m)

ranged : (d : Deck) → R d ≤ 32 → M d ≤ 64 → all_of (known_rule (R d)) d.rules ≡ true → all_of (known_part (M d)) d.parts ≡ true
    → Ranged d
unfolding rule_at part_at lists targets
ranged d channels few rules parts =
    let events : Rule → Bool = λ r. under (R d) r.events in
    let default : Rule → Bool = λ r. under (R d) (targets r.default) in
    let action : Rule → Bool = λ r. under (R d) (targets r.action) in
    let known : (i : ℕ) → known_rule (R d) (rule_at d i) ≡ true = λ i. all_of-get_or (known_rule (R d)) d.rules i _ rules refl in
    let first : (i : ℕ) → (events (rule_at d i) && default (rule_at d i)) ≡ true
    = λ i. and_left (events (rule_at d i) && default (rule_at d i)) (action (rule_at d i)) (known i) in
    record {
      channels = channels;
      rules = few;
      events = λ i. under-member (R d) (rule_at d i).events (and_left (events (rule_at d i)) (default (rule_at d i)) (first i));
      default = λ i. under-member (R d) (targets (rule_at d i).default)
          (and_right (events (rule_at d i)) (default (rule_at d i)) (first i));
      action = λ i. under-member (R d) (targets (rule_at d i).action)
          (and_right (events (rule_at d i) && default (rule_at d i)) (action (rule_at d i)) (known i));
      carried = λ p. under-member (M d) (part_at d p).carried (all_of-get_or (known_part (M d)) d.parts p _ parts refl);
    }

number-under : (lo hi : ℕ) (s : List ℕ) (at : ℕ) → Accepts (λ g. ltb g.value hi ≡ true) (number lo hi s at)
unfolding readers
number-under lo hi [] at = refusing
number-under lo hi (b ∷ s) at = go (leb lo b && ltb b hi) refl
  where
    go : (t : Bool) → (leb lo b && ltb b hi) ≡ t
        → Accepts (λ g. ltb g.value hi ≡ true) (and_then (expect t out_of_range at s (suc at)) (λ _. give b))
    go true e = accepting (and_right (leb lo b) (ltb b hi) e)
    go false e = refusing

rising-under : (n lo hi : ℕ) (s : List ℕ) (at : ℕ) → Accepts (λ g. under hi g.value ≡ true) (rising n lo hi s at)
unfolding readers lists
rising-under zero lo hi s at = accepting refl
rising-under (suc n) lo hi s at =
    then-accepts _ (number-under lo hi s at) λ c p.
    then-accepts _ (rising-under n (suc c.value) hi c.rest c.at) λ cs q.
    accepting (all_of-cons (λ c. ltb c hi) c.value cs.value p q)

assignments-under : (sc : Scope) (n : ℕ) (ts s : List ℕ) (at : ℕ)
    → Accepts (λ g. under sc.owns (targets g.value) ≡ true) (assignments sc n ts s at)
unfolding assignments readers lists targets
assignments-under sc zero ts s at = accepting refl
assignments-under sc (suc n) ts s at =
    then-accepts _ (number-under 0 sc.owns s at) λ t p.
    then-accepts _ (anything (expect (not (member t.value ts)) repeated_target at t.rest t.at)) λ u _.
    then-accepts _ (anything (expression (numbers sc) u.rest u.at)) λ e _.
    then-accepts _ (assignments-under sc n (t.value ∷ ts) e.rest e.at) λ l q.
    accepting (all_of-cons (λ c. ltb c sc.owns) t.value (targets l.value) p q)

action-under : (sc : Scope) (s : List ℕ) (at : ℕ) → Accepts (λ g. under sc.owns (targets g.value) ≡ true) (action sc s at)
unfolding action readers
action-under sc s at =
    then-accepts _ (anything (number 0 5 s at)) λ n _. assignments-under sc n.value [] n.rest n.at

default_under : (f : Form) (R : ℕ) (s : List ℕ) (at : ℕ) → Accepts (λ g. under R (targets g.value) ≡ true) (default_action f R s at)
unfolding default_action readers own_only
default_under f R s at =
    then-accepts _ (anything (number 0 5 s at)) λ n _.
    then-accepts _ (anything (expect (allows f n.value) default_retired at n.rest n.at)) λ u _.
    assignments-under (own_only R) n.value [] u.rest u.at

rule-under : (f : Form) (R : ℕ) (s : List ℕ) (at : ℕ) → Accepts (λ g. known_rule R g.value ≡ true) (rule f R s at)
unfolding rule readers own_only
rule-under f R s at =
    then-accepts _ (anything (number 1 9 s at)) λ n _.
    then-accepts _ (rising-under n.value 0 R n.rest n.at) λ events p.
    then-accepts _ (default_under f R events.rest events.at) λ default q.
    then-accepts _ (anything (number 0 2 default.rest default.at)) λ kind _.
    let scope = task_scope R (eqb kind.value 1) in
    then-accepts _ (anything (expression (truths scope) kind.rest kind.at)) λ condition _.
    then-accepts _ (action-under scope condition.rest condition.at) λ act u.
    accepting (and_both (and_both p q) (ap (λ k. under k (targets act.value)) (sym (owns-task R (eqb kind.value 1))) ∙ u))

part-under : (R M : ℕ) (s : List ℕ) (at : ℕ) → Accepts (λ g. known_part M g.value ≡ true) (part R M s at)
unfolding part readers
part-under R M s at =
    then-accepts _ (anything (repeats R value s at)) λ opening _.
    then-accepts _ (anything (number 0 (suc M) opening.rest opening.at)) λ n _.
    then-accepts _ (rising-under n.value 0 M n.rest n.at) λ carried p.
    then-accepts _ (anything (expression (truths (own_only R)) carried.rest carried.at)) λ limit _.
    accepting p

sections-ranged : (f : Form) (s : List ℕ) (at : ℕ) → Accepts (λ g. Ranged g.value.deck) (sections f s at)
unfolding sections readers R M
sections-ranged f s at =
    then-accepts _ (number-under 1 33 s at) λ r p.
    then-accepts _ (repeats-long label r.value r.rest r.at) λ labels l.
    then-accepts _ (number-under 0 65 labels.rest labels.at) λ m q.
    then-accepts _ (repeats-each (known_rule r.value) (rule f r.value) (rule-under f r.value) m.value m.rest
    m.at) λ rules k.
    then-accepts _ (anything (number 1 17 rules.rest rules.at)) λ n _.
    let one_part = part r.value m.value in
    let known = part-under r.value m.value in
    then-accepts _ (repeats-each (known_part m.value) one_part known n.value n.rest n.at) λ parts h.
    then-accepts _ (anything (end parts.rest parts.at)) λ _ _.
    let d : Deck = record { labels = labels.value; rules = rules.value; parts = parts.value } in
    accepting
    (ranged d
    (omega (arith, l, ltb-true r.value 33 p))
    (omega (arith, k.0, ltb-true m.value 65 q))
    (ap (λ c. all_of (known_rule c) rules.value) l ∙ k.1)
    (ap (λ c. all_of (known_part c) parts.value) k.0 ∙ h.1))

-- whatever the numbers in place of bytes
pub ranged-read : (f : Form) (s : List ℕ) (l : Layout) → read f s ≡ accepted l → Ranged l.deck
unfolding read
ranged-read f s l e = accepts (value-accepts (sections-ranged f s 0)) e

-- the same with the offsets
pub ranged-marked : (f : Form) (s : List ℕ) (g : Got Marked) → marked_sections f s 0 ≡ accepted g → Ranged (unmarked g.value).deck
unfolding value_of
ranged-marked f s g e = ranged-read f s (unmarked g.value) (read-marked f s ∙ ap (λ o. value_of (map_got unmarked o)) e)
