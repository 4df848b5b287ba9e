-- Section answers what passing comes to, and a stretch between two offsets of the deck. Assumes nothing.
use Rattle.std.specs.Prelude.{ℕ, suc, ◌+◌, ◌-◌, ◌≤◌, ◌<◌, ◌≡◌, List, [], ◌∷◌, ◌++◌, take, drop}
use Rattle.std.proofs.Common.{sym, ◌∙◌, arith}
use Rattle.std.proofs.Math.Path.{ap, ap₂}
use Rattle.std.proofs.Math.ListN.{length, get_or, length-append}
use Rattle.refusals.specs.Outcome.{refused}
use Rattle.refusals.specs.Numbers.{unknown_section}
use Rattle.deck.specs.declared.Form.TheVariants.{New}
use Rattle.deck.specs.Deck.{Deck}
use Rattle.deck.specs.Encoding.{encode_channels, encode_rules, encode_parts, encode}
use Rattle.deck.specs.Sections.{offset_of, stretch_of}
use Rattle.deck.specs.declared.Deck as Counted
use Rattle.deck.proofs.Laws.Reading.{read-encoded, sections-exactly}
use Rattle.passing.specs.Check.{passing}
use Rattle.passing.specs.Tabled.{layout_of}
use Rattle.passing.specs.Judged.{Passed}
use Rattle.passing.proofs.Laws.Passing.{passing-clean}
use Rattle.calls.specs.Calls.{section_at, section_ends, section_reply, section, stretch_from, section_from, stretches}
use Rattle.calls.specs.Answers.{section_of}
use Rattle.calls.proofs.Laws.Sections.{ends-refused, ends-unknown, ends-known}

-- what is handed back, and where it begins
pub record Handed (s : List ℕ) (k : ℕ) (stretch : List ℕ) (from number place : ℕ) : Type 0 where
  pub is : section s k ≡ section_of stretch number place
  pub begins : section_from s k ≡ from

-- the empty stretch
refused-handed : (s : List ℕ) (k n p : ℕ) → section_ends s k ≡ refused n p → Handed s k [] 0 n p
unfolding stretches
refused-handed s k n p e = record { is = ap (section_reply s) e; begins = ap stretch_from e }

pub section-refused : (s : List ℕ) (k n p : ℕ) → passing New s ≡ refused n p → Handed s k [] 0 n p
section-refused s k n p e = refused-handed s k n p (ends-refused s k n p e)

module _ (s rules parts memo : List ℕ) (c : Counted.Deck) (n : ℕ) (w : Passed New s rules parts memo c n) where
  pub section-unknown : (k : ℕ) → 2 < k → Handed s k [] 0 unknown_section 0
  section-unknown k h = refused-handed s k unknown_section 0 (ends-unknown s k (layout_of s) w.passes h)

  -- the code keeps the offsets of the definition
  offset-kept : (k : ℕ) → section_at (layout_of s) s k ≡ offset_of c.rules_at c.parts_at (length s) k
  unfolding section_at offset_of
  offset-kept k =
      ap₂ (λ a b. get_or (0 ∷ a ∷ b ∷ []) k (length s)) (sym w.tabled.counts.rules_at) (sym w.tabled.counts.parts_at)

  pub section-known : (k : ℕ) → k ≤ 2
      → Handed s k (stretch_of c.rules_at c.parts_at s k) (offset_of c.rules_at c.parts_at (length s) k) 0 0
  unfolding stretches stretch_of
  section-known k h =
      let e = ends-known s k (layout_of s) w.passes h in
      record {
        is = ap (section_reply s) e
            ∙ ap₂ (λ from to. section_of (take (to - from) (drop from s)) 0 0) (offset-kept k) (offset-kept (suc k));
        begins = ap stretch_from e ∙ offset-kept k;
      }

  encode-length : (d : Deck) → length (encode d) ≡ length (encode_channels d) + length (encode_rules d) + length (encode_parts d)
  unfolding encode
  encode-length d =
      length-append (encode_channels d ++ encode_rules d) (encode_parts d)
      ∙ ap (λ n. n + length (encode_parts d)) (length-append (encode_channels d) (encode_rules d))

  -- the sections stand in their order
  pub section-order : (c.rules_at ≤ c.parts_at) × (c.parts_at ≤ length s)
  section-order =
      let counts = w.tabled.counts in
      let d = (layout_of s).deck in
      let r = (passing-clean New s (layout_of s) w.passes).0 in
      let x = sections-exactly New s w.bytes (layout_of s) r in
      let long = ap length (read-encoded New s w.bytes (layout_of s) r) ∙ encode-length d in
      (omega (arith, counts.rules_at, counts.parts_at, x.0, x.1), omega (arith, counts.parts_at, x.1, long))
