-- A deck and the shape of its tables pass the same tests. Assumes nothing.
use Rattle.std.specs.Prelude.{ℕ, ◌<◌, ◌≤◌, ◌≡◌, refl, Bool, true, false, List}
use Rattle.std.proofs.Common.{sym, ◌∙◌, arith}
use Rattle.std.proofs.Math.Path.{ap}
use Rattle.std.proofs.Math.Decide.{dec_lt}
use Rattle.std.proofs.Math.Dec.{eqb}
use Rattle.std.proofs.Math.ListN.{get_or-eq_default}
use Rattle.lists.specs.Lists.{member}
use Rattle.lists.specs.Bits.{bit, mask_of}
use Rattle.lists.specs.Laws.Statements.{same_test}
use Rattle.lists.specs.Laws.Below.{select-below}
use Rattle.lists.specs.Laws.Same.{SameMembers}
use Rattle.lists.specs.Laws.Bits.{mask_of-bit}
use Rattle.deck.specs.Deck.{Rule, Deck, R, M, N, rule_at, part_at, carries, targets}
use Rattle.deck.specs.Encoding.{kind_byte}
use Rattle.deck.specs.Shape.{bits_of, rule_shape, part_shape, shape_of}
use Rattle.deck.specs.Tables.{TablesOf, Ranged}
use Rattle.deck.proofs.Laws.Shape.{setting-targets, shape-R, shape-M, shape-N, shape-rule, shape-part}

-- what the graph and the charge see of two decks is the same
pub record SameTests (d e : Deck) : Type 0 where
  pub channels : R d ≡ R e
  pub rules : M d ≡ M e
  pub parts : N d ≡ N e
  pub carried : (p r : ℕ) → carries d p r ≡ carries e p r
  pub events : (r : ℕ) → SameMembers (rule_at d r).events (rule_at e r).events
  pub default : (r : ℕ) → SameMembers (targets (rule_at d r).default) (targets (rule_at e r).default)
  pub action : (r : ℕ) → SameMembers (targets (rule_at d r).action) (targets (rule_at e r).action)
  pub kind : (r : ℕ) → (rule_at d r).everywhere ≡ (rule_at e r).everywhere

-- a list of numbers below n, as a set and back
pub bits-of-mask : (n : ℕ) (cs : List ℕ) → ((c : ℕ) → member c cs ≡ true → c < n) → SameMembers (bits_of n (mask_of cs)) cs
unfolding bits_of
bits-of-mask n cs h c =
    let passing = select-below (bit (mask_of cs)) n c in
    same_test (member c (bits_of n (mask_of cs))) (member c cs)
    (λ t. sym (mask_of-bit cs c) ∙ (passing.0 t).1)
    (λ t. passing.1 (h c t, mask_of-bit cs c ∙ t))

-- rules and parts that two decks do not have
no-rule : (d e : Deck) (r : ℕ) → M d ≤ r → M e ≤ r → rule_at d r ≡ rule_at e r
unfolding rule_at M
no-rule d e r h k = get_or-eq_default d.rules _ h ∙ sym (get_or-eq_default e.rules _ k)

no_part : (d e : Deck) (p : ℕ) → N d ≤ p → N e ≤ p → part_at d p ≡ part_at e p
unfolding part_at N
no_part d e p h k = get_or-eq_default d.parts _ h ∙ sym (get_or-eq_default e.parts _ k)

kind-test : (b : Bool) → eqb (kind_byte b) 1 ≡ b
unfolding kind_byte
kind-test true = refl
kind-test false = refl

module _ {d : Deck} {rules parts : List ℕ} (t : TablesOf d rules parts) (g : Ranged d) where
  abbrev s : Deck
  s = shape_of rules parts (R d) (M d) (N d)

  -- a rule's row, and a part's
  row : (r : ℕ) → r < M d → rule_at s r ≡ rule_shape rules r
  row r h = shape-rule rules parts (R d) (M d) (N d) r h

  missing : (r : ℕ) → (r < M d → ⊥) → rule_at s r ≡ rule_at d r
  missing r h = no-rule s d r (omega (arith, shape-M rules parts (R d) (M d) (N d))) (omega arith)

  -- a set of channels of rule r: its row has its mask
  same_set : (f : Rule → List ℕ) (m r : ℕ) → (r < M d → f (rule_shape rules r) ≡ bits_of 32 m) → m ≡ mask_of (f (rule_at d r))
      → ((c : ℕ) → member c (f (rule_at d r)) ≡ true → c < R d) → SameMembers (f (rule_at s r)) (f (rule_at d r))
  same_set f m r e k h c = go (dec_lt r (M d))
    where
      go : Dec (r < M d) → member c (f (rule_at s r)) ≡ member c (f (rule_at d r))
      go (yes l) =
          ap (λ x. member c (f x)) (row r l)
          ∙ ap (member c) (e l ∙ ap (bits_of 32) k)
          ∙ bits-of-mask 32 (f (rule_at d r)) (λ b z. omega (arith, h b z, g.channels)) c
      go (no l) = ap (λ x. member c (f x)) (missing r l)

  same-carried : (p r : ℕ) → carries s p r ≡ carries d p r
  unfolding carries part_shape
  same-carried p r = go (dec_lt p (N d))
    where
      go : Dec (p < N d) → member r (part_at s p).carried ≡ member r (part_at d p).carried
      go (yes l) =
          ap (λ x. member r x.carried) (shape-part rules parts (R d) (M d) (N d) p l)
          ∙ ap (λ m. member r (bits_of 64 m)) (t.carried p)
          ∙ bits-of-mask 64 (part_at d p).carried (λ b z. omega (arith, g.carried p b z, g.rules)) r
      go (no l) =
          ap (λ x. member r x.carried)
          (no_part s d p (omega (arith, shape-N rules parts (R d) (M d) (N d))) (omega arith))

  same_kind : (r : ℕ) → (rule_at s r).everywhere ≡ (rule_at d r).everywhere
  unfolding rule_shape
  same_kind r = go (dec_lt r (M d))
    where
      go : Dec (r < M d) → (rule_at s r).everywhere ≡ (rule_at d r).everywhere
      go (yes l) =
          ap (λ x. x.everywhere) (row r l) ∙ ap (λ k. eqb k 1) (t.kind r) ∙ kind-test (rule_at d r).everywhere
      go (no l) = ap (λ x. x.everywhere) (missing r l)

  pub shape-tests : SameTests (shape_of rules parts (R d) (M d) (N d)) d
  unfolding rule_shape
  shape-tests =
      record {
        channels = shape-R rules parts (R d) (M d) (N d);
        rules = shape-M rules parts (R d) (M d) (N d);
        parts = shape-N rules parts (R d) (M d) (N d);
        carried = same-carried;
        events = λ r. same_set (λ x. x.events) _ r (λ _. refl) (t.events r) (g.events r);
        default = λ r. same_set (λ x. targets x.default) _ r (λ _. setting-targets _) (t.default r) (g.default r);
        action = λ r. same_set (λ x. targets x.action) _ r (λ _. setting-targets _) (t.action r) (g.action r);
        kind = same_kind;
      }
