-- What section hands back: the encodings of channels, rules and parts, which together are the deck. Assumes nothing.
use Rattle.std.specs.Prelude.{ℕ, suc, ◌+◌, ◌-◌, ◌≤◌, ◌<◌, ◌≡◌, take, drop}
use Rattle.std.proofs.Math.Path.{refl, sym, ap, ap₂}
use Rattle.std.proofs.Common.{◌∙◌, arith}
use mathlib.Core.List.{List, [], ◌++◌, append_assoc, append-nil}
use Rattle.std.proofs.Math.ListN.{length, length-append}
use Rattle.std.proofs.Math.Seq.{take-append_seam, drop-append_seam}
use borrow.Author.Tests.{le-leb, lt-leb}
use Rattle.refusals.specs.Outcome.{refused, accepted, outcomes}
use Rattle.refusals.specs.Numbers.{unknown_section}
use Rattle.expression.specs.Bytes.{Bytes}
use Rattle.deck.specs.declared.Form.TheVariants.{New}
use Rattle.deck.specs.Deck.{Deck}
use Rattle.deck.specs.Layout.{Layout}
use Rattle.deck.specs.Sections.{offset_of}
use Rattle.deck.specs.Encoding.{encode_channels, encode_rules, encode_parts, encode}
use Rattle.passing.specs.Check.{passing}
use Rattle.passing.proofs.Laws.Passes.{passes-exactly}
use Rattle.calls.specs.Calls.{section_at, section_ends, section_reply, section, stretch_from, section_from}
use Rattle.calls.specs.Answers.{section_of}

module _ (bytes : List ℕ) (k : ℕ) where
  pub ends-refused : (n p : ℕ) → passing New bytes ≡ refused n p → section_ends bytes k ≡ refused n p
  unfolding section_ends outcomes
  ends-refused n p e = rw e

  module _ (l : Layout) (e : passing New bytes ≡ accepted l) where
    pub ends-unknown : 2 < k → section_ends bytes k ≡ refused unknown_section 0
    unfolding section_ends outcomes
    ends-unknown h = rw (e, lt-leb k 2 h)

    pub ends-known : k ≤ 2 → section_ends bytes k ≡ accepted (record { from = section_at l bytes k; to = section_at l bytes (suc k) })
    unfolding section_ends outcomes
    ends-known h = rw (e, le-leb k 2 h)

-- ---- the encodings

-- the three sections of a deck, and where they begin
pub record SectionsOf (bytes : List ℕ) (d : Deck) : Type 0 where
  pub channels : section bytes 0 ≡ section_of (encode_channels d) 0 0
  pub rules : section bytes 1 ≡ section_of (encode_rules d) 0 0
  pub parts : section bytes 2 ≡ section_of (encode_parts d) 0 0
  pub whole : (section bytes 0).stretch ++ (section bytes 1).stretch ++ (section bytes 2).stretch ≡ bytes
  pub first : section_from bytes 0 ≡ 0
  pub second : section_from bytes 1 ≡ length (encode_channels d)
  pub third : section_from bytes 2 ≡ length (encode_channels d) + length (encode_rules d)

-- the middle of three stretches
middle : (s a b c : List ℕ) (from to : ℕ) → s ≡ a ++ b ++ c → from ≡ length a → to ≡ length a + length b
    → take (to - from) (drop from s) ≡ b
middle s a b c from to whole e f =
    let size : to - from ≡ length b = omega arith in
    ap₂ take size (ap₂ drop e (whole ∙ append_assoc a b c) ∙ drop-append_seam a (b ++ c)) ∙ take-append_seam b c

module _ (bytes : List ℕ) (b : Bytes bytes) (l : Layout) (e : passing New bytes ≡ accepted l) where
  abbrev d : Deck
  d = l.deck

  -- what is handed back between two offsets
  stretched : (k : ℕ) (s : List ℕ) → k ≤ 2 → take (section_at l bytes (suc k) - section_at l bytes k) (drop (section_at l bytes k) bytes) ≡ s
      → section bytes k ≡ section_of s 0 0
  unfolding section section_reply
  stretched k s h same = ap (section_reply bytes) (ends-known bytes k l e h) ∙ ap (λ s. section_of s 0 0) same

  begins : (k : ℕ) → k ≤ 2 → section_from bytes k ≡ section_at l bytes k
  unfolding section_from stretch_from
  begins k h = ap stretch_from (ends-known bytes k l e h)

  pub sections-encoded : SectionsOf bytes d
  unfolding encode section_at offset_of
  sections-encoded =
      let p = (passes-exactly New bytes b l).0 e in
      let A = encode_channels d in
      let B = encode_rules d in
      let C = encode_parts d in
      let whole : bytes ≡ A ++ B ++ C = p.layout.1 in
      let long : length bytes ≡ length (A ++ B) + length C = ap length whole ∙ length-append (A ++ B) C in
      let channels = stretched 0 A (omega arith)
      (middle bytes [] A (B ++ C) 0 l.rules_at (whole ∙ append_assoc A B C) refl (p.sections.0 ∙ omega arith)) in
      let rules = stretched 1 B (omega arith) (middle bytes A B C l.rules_at l.parts_at whole p.sections.0 p.sections.1) in
      let parts = stretched 2 C (omega arith)
      (middle bytes (A ++ B) C [] l.parts_at (length bytes) (whole ∙ sym (append-nil (A ++ B ++ C)))
      (p.sections.1 ∙ sym (length-append A B)) long) in
      record {
        channels = channels;
        rules = rules;
        parts = parts;
        whole = ap₂ (λ x y. x.stretch ++ y.stretch ++ (section bytes 2).stretch) channels rules
            ∙ ap (λ z. A ++ B ++ z.stretch) parts
            ∙ sym whole;
        first = begins 0 (omega arith);
        second = begins 1 (omega arith) ∙ p.sections.0;
        third = begins 2 (omega arith) ∙ p.sections.1;
      }
