-- A deck passes exactly where it is what document 01 demands. Assumes nothing.
use Rattle.std.specs.Prelude.{ℕ, ◌+◌, ◌≤◌, ◌<◌, ◌≡◌, ◌↔◌, true, not, List, [], length}
use Rattle.std.proofs.Common.{sym, ap, ◌∙◌}
use Rattle.std.proofs.lemmas.Bool.{not-false}
use Rattle.lists.specs.Laws.Below.{none_below}
use Rattle.refusals.specs.Outcome.{accepted}
use Rattle.expression.specs.Bytes.{Bytes}
use Rattle.deck.specs.declared.Form.{Form}
use Rattle.deck.specs.Deck.{Deck, M, N, carries}
use Rattle.deck.specs.Layout.{Layout, read}
use Rattle.deck.specs.Encoding.{encode_channels, encode_rules, encode, well_formed, suits}
use Rattle.deck.proofs.Laws.Formed.{formed}
use Rattle.deck.proofs.Laws.Reading.{read-formed, read-suited, read-encoded, sections-exactly, encoded_layout, read-encode}
use Rattle.graph.specs.Graph.{Reaches, edge}
use Rattle.graph.proofs.Laws.Cycles.{no-cycle}
use Rattle.graph.proofs.Laws.Targets.{known-targets}
use Rattle.charge.specs.Charge.{rule_charge}
use Rattle.charge.proofs.Laws.Bound.{none_above}
use Rattle.charge.proofs.Laws.Equations.{Charges, charge-unique}
use Rattle.passing.specs.Check.{within, opening_values, outside, passing}
use Rattle.passing.proofs.Laws.Passing.{later-clean, passing-judges, passing-clean}

-- what the document demands of bytes that hold the deck of a layout
pub record Passes (f : Form) (bytes : List ℕ) (l : Layout) : Type 0 where
  -- "A deck is bytes: three sections in this order": the deck keeps to its ranges, the bytes are its encoding, and a new deck has no
  -- default actions
  pub layout : (well_formed l.deck ≡ true) × (bytes ≡ encode l.deck) × (suits f l.deck ≡ true)
  -- the last two sections' counts stand behind what comes before them
  pub sections : (l.rules_at ≡ length (encode_channels l.deck))
      × (l.parts_at ≡ length (encode_channels l.deck) + length (encode_rules l.deck))
  -- "The opening state must meet each part's limit"
  pub opens : (p : ℕ) → p < N l.deck → within l.deck p (opening_values l.deck) ≡ true
  -- "The deck is refused if a channel can reach itself by one or more edges": none can
  pub acyclic : (c : ℕ) → Reaches (edge l.deck) c c → ⊥
  -- 8, "A carried rule's charge is above 65,535", does not hold
  pub charged : (p r : ℕ) → p < N l.deck → r < M l.deck → carries l.deck p r ≡ true → rule_charge l.deck p r ≤ 65535

pub none-outside : (d : Deck) → (outside d ≡ []) ↔ ((p : ℕ) → p < N d → within d p (opening_values d) ≡ true)
unfolding outside
none-outside d =
    let none = none_below (λ p. not (within d p (opening_values d))) (N d) in
    (λ h p l. not-false (within d p (opening_values d)) (none.0 h p l), λ h. none.1 (λ p l. ap not (h p l)))

module _ (f : Form) (bytes : List ℕ) (b : Bytes bytes) (l : Layout) where
  passing-passes : passing f bytes ≡ accepted l → Passes f bytes l
  passing-passes e =
      let h = passing-clean f bytes l e in
      let formed-deck = read-formed f bytes b l h.0 in
      record {
        layout = (formed-deck, read-encoded f bytes b l h.0, read-suited f bytes b l h.0);
        sections = sections-exactly f bytes b l h.0;
        opens = (none-outside l.deck).0 h.1;
        acyclic = (no-cycle (known-targets l.deck (formed l.deck formed-deck))).0 h.2;
        charged = (none_above l.deck).0 h.3;
      }

  passes-read : Passes f bytes l → read f bytes ≡ accepted l
  passes-read h =
      let same : ◌≡◌ {A = Layout} (encoded_layout l.deck) l = λ i.
      record { deck = l.deck; rules_at = sym h.sections.0 i; parts_at = sym h.sections.1 i } in
      ap (read f) h.layout.1 ∙ read-encode f l.deck h.layout.0 h.layout.2 ∙ ap accepted same

  passes-passing : Passes f bytes l → passing f bytes ≡ accepted l
  passes-passing h =
      let known = known-targets l.deck (formed l.deck h.layout.0) in
      passing-judges f bytes l (passes-read h)
      ∙ later-clean l ((none-outside l.deck).1 h.opens) ((no-cycle known).1 h.acyclic) ((none_above l.deck).1 h.charged)

  pub passes-exactly : (passing f bytes ≡ accepted l) ↔ Passes f bytes l
  passes-exactly = (passing-passes, passes-passing)

  -- of a deck that passes: the two equations of the charges, and that nothing else satisfies them
  pub passed-charges : passing f bytes ≡ accepted l → Charges l.deck
  passed-charges e =
      let h = passing-passes e in
      charge-unique l.deck (known-targets l.deck (formed l.deck h.layout.0)) h.acyclic
