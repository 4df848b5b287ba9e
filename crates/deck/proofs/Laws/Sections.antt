-- The reader of the deck's three sections is exact, with the offsets of the last two. Assumes nothing.
use Rattle.std.specs.Prelude.{ℕ, suc, ◌+◌, ◌≡◌, refl, Bool, true, ◌&&◌, leb, length}
use Rattle.std.proofs.Common.{sym, ◌∙◌, arith}
use mathlib.Core.List.{List, [], ◌∷◌, ◌++◌, append-nil, append_assoc, flat_map}
use Rattle.lists.specs.Lists.{all_of, lists}
use Rattle.lists.specs.Laws.Booleans.{and_both, and_left, and_right, five, from-five}
use Rattle.lists.specs.Laws.Alls.{all_of-weaken}
use Rattle.deck.specs.declared.Form.{Form}
use Rattle.deck.specs.Limits.{limits}
use Rattle.deck.specs.Deck.{Deck, decks}
use Rattle.deck.specs.Reader.{repeats, readers, label}
use Rattle.deck.specs.Layout.{Layout, sections, layouts}
use Rattle.deck.specs.Encoding.{encode_rule, encode_part, encode_channels, encode_rules, encode_parts, encode, is_label}
use Rattle.deck.specs.Encoding.{in_range, good_rule, good_part, well_formed, suits_rule, suits}
use Rattle.deck.proofs.Laws.Exact.{Exact, Any, Nothing, Coded, exact-by, here-exact, end-exact, then-exact}
use Rattle.deck.proofs.Laws.Readers.{number-exact, repeats-exact, bytes-coded}
use Rattle.deck.proofs.Laws.Expressions.{range, zero-range}
use Rattle.deck.proofs.Laws.Rules.{rule-exact, part-exact}

encode-deck : (d : Deck)
    → encode d
    ≡ length d.labels
    ∷ (d.labels ++ (length d.rules ∷ (flat_map encode_rule d.rules ++ (length d.parts ∷ flat_map encode_part d.parts))))
unfolding encode encode_channels encode_rules encode_parts decks
encode-deck d = append_assoc (encode_channels d) (encode_rules d) (encode_parts d)

labels-exact : (n : ℕ)
    → Exact Any (repeats n label) (Coded (λ s. s) (λ s. (length s ≡ n) × (all_of is_label s ≡ true)))
labels-exact n = bytes-coded (repeats-exact one n)
  where
    one : Exact Any label (Coded (λ b. b ∷ []) (λ b. is_label b ≡ true))
    one =
        exact-by (number-exact _ _)
        (λ at b w _ p. (sym (range limits.lowest limits.highest b) ∙ p.0, p.1))
        (λ at b w q. (range limits.lowest limits.highest b ∙ q.0, q.1))

-- two tests of each
both-all : {A : Type 0} (f g : A → Bool) (l : List A) → all_of f l ≡ true → all_of g l ≡ true → all_of (λ x. f x && g x) l ≡ true
unfolding lists
both-all f g [] h k = refl
both-all f g (x ∷ l) h k =
    and_both (and_both (and_left (f x) _ h) (and_left (g x) _ k)) (both-all f g l (and_right (f x) _ h) (and_right (g x) _ k))

-- the word is the encoding of a well-formed deck that suits the form, and the offsets are those of its sections
pub record LayoutWord (f : Form) (at : ℕ) (l : Layout) (w : List ℕ) : Type 0 where
  pub formed : well_formed l.deck ≡ true
  pub suited : suits f l.deck ≡ true
  pub bytes : w ≡ encode l.deck
  pub rules : l.rules_at ≡ at + length (encode_channels l.deck)
  pub parts : l.parts_at ≡ at + length (encode_channels l.deck) + length (encode_rules l.deck)

pub sections-exact : (f : Form) → Exact Nothing (sections f) (LayoutWord f)
unfolding layouts readers well_formed suits encode_channels encode_rules decks
sections-exact f =
    exact-by
    (then-exact (number-exact 1 (suc limits.channels)) λ R.
    then-exact (labels-exact R) λ labels.
    here-exact λ rules_at.
    then-exact (number-exact 0 (suc limits.rules)) λ M.
    then-exact (repeats-exact (rule-exact f R) M) λ rules.
    here-exact λ parts_at.
    then-exact (number-exact 1 (suc limits.parts)) λ N.
    then-exact (repeats-exact (part-exact R M) N) λ parts.
    end-exact (record { deck = record { labels = labels; rules = rules; parts = parts }; rules_at = rules_at; parts_at = parts_at }))
    (λ at l w _ p.
    let labels = p.4 in
    let m = labels.4 in
    let rules = m.4 in
    let n = rules.4 in
    let parts = n.4 in
    let d : Deck = record { labels = labels.0; rules = rules.0; parts = parts.0 } in
    let front : in_range 1 limits.channels p.0 ≡ true = sym (range 1 limits.channels p.0) ∙ p.3 in
    rw parts.4.0
    (record {
      formed =
          rw (labels.3.0, rules.3.0, parts.3.0)
          (from-five (in_range 1 limits.channels p.0 && all_of is_label labels.0) (leb m.0 limits.rules)
          (all_of (good_rule p.0) rules.0) (in_range 1 limits.parts n.0) (all_of (good_part p.0 m.0) parts.0) (
            and_both front labels.3.1,
            sym (zero-range limits.rules m.0) ∙ m.3,
            all_of-weaken (good_rule p.0) _ (λ r h. and_left (good_rule p.0 r) _ h) rules.0 rules.3.1,
            sym (range 1 limits.parts n.0) ∙ n.3,
            parts.3.1,
          ));
      suited = all_of-weaken (suits_rule f) _ (λ r h. and_right (good_rule p.0 r) _ h) rules.0 rules.3.1;
      bytes =
          rw (encode-deck d, labels.3.0, rules.3.0, parts.3.0)
          (rw (p.2, labels.2, m.2, rules.2, n.2, parts.2, parts.4.1, append-nil (flat_map encode_part parts.0)));
      rules = omega arith;
      parts = omega arith;
    }))
    (λ at l w q.
    let d : Deck = l.deck in
    let R : ℕ = length d.labels in
    let M : ℕ = length d.rules in
    let N : ℕ = length d.parts in
    let front : Bool = in_range 1 limits.channels R in
    let good =
    five (front && all_of is_label d.labels) (leb M limits.rules) (all_of (good_rule R) d.rules)
    (in_range 1 limits.parts N) (all_of (good_part R M) d.parts) q.formed in
    let parts : List ℕ = flat_map encode_part d.parts in
    let rules : List ℕ = flat_map encode_rule d.rules in
    let e : l.rules_at ≡ at + 1 + R = q.rules ∙ omega arith in
    let g : l.parts_at ≡ at + 1 + R + 1 + length rules = q.parts ∙ omega arith in
    let same : ◌≡◌ {A = Layout} l (record { deck = d; rules_at = at + 1 + R; parts_at = at + 1 + R + 1 + length rules })
    = λ i. record { deck = d; rules_at = e i; parts_at = g i } in (
      R,
      d.labels ++ (M ∷ (rules ++ (N ∷ parts))),
      q.bytes ∙ encode-deck d,
      range 1 limits.channels R ∙ and_left front _ good.0,
      (
        d.labels,
        M ∷ (rules ++ (N ∷ parts)),
        refl,
        (refl, and_right front _ good.0),
        (
          M,
          rules ++ (N ∷ parts),
          refl,
          zero-range limits.rules M ∙ good.1,
          (
            d.rules,
            N ∷ parts,
            refl,
            (refl, both-all (good_rule R) (suits_rule f) d.rules good.2 q.suited),
            (
              N,
              parts,
              refl,
              range 1 limits.parts N ∙ good.3,
              (d.parts, [], sym (append-nil parts), (refl, good.4), (same, refl)),
            ),
          ),
        ),
      ),
    ))
