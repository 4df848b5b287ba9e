-- Laws of a deck's bytes, and of what becomes of them. Assumes nothing.
use Rattle.std.specs.Prelude.{ℕ, suc, ◌+◌, ◌*◌, ◌-◌, ◌≤◌, ◌<◌, ◌≡◌, length, get_or, drop}
use Rattle.std.proofs.Math.Path.{refl, sym, ap}
use Rattle.std.proofs.Common.{◌∙◌, subst, arith, zero-add, length-append, length-drop, take_all, drop-cons}
use mathlib.Core.List.{List, [], ◌∷◌, ◌++◌, append_assoc, append-nil, flat_map}
use Rattle.std.proofs.lemmas.List.{length-map}
use Rattle.deck.specs.declared.Form.TheVariants.{Old}
use Rattle.deck.specs.Deck.{Deck, M, N, decks}
use Rattle.deck.specs.Encoding.{encode_rule, encode_part, encode_channels, encode_rules, encode_parts, encode}
use Rattle.deck.proofs.Laws.Formed.{formed}
use Rattle.deck.proofs.Laws.Forms.{suits-old}
use Rattle.deck.proofs.Laws.Reading.{encoded_layout, read-encode}
use Rattle.deck.specs.declared.Deck as Counted
use Rattle.conversion.specs.Converted.{split, new_number, renumbered, converted}
use Rattle.conversion.proofs.Laws.Renumbering.{flat_map-map, number-of-rules}
use Rattle.conversion_bytes.specs.Stands.{stretch, Stands, Listed, Walked}
use Rattle.conversion_bytes.specs.Pieces.{PartStands, new_part_bytes}
use Rattle.conversion_bytes.specs.Decks.{Encodes, Numbered, Sums, PartsIn}
use Rattle.conversion_bytes.specs.Laws.Stands.{stands-long, stands-first, stands-second, stretch-is, walked_here}
use Rattle.conversion_bytes.specs.Laws.Parts.{GoodPart, good-part, no_part, opening-size}

-- ---- parts

pub parts-bytes : (d : Deck) → flat_map encode_part (converted d).parts ≡ flat_map (new_part_bytes d) d.parts
unfolding converted
parts-bytes d = flat_map-map encode_part (renumbered d) d.parts

module _ (s : List ℕ) (count opening : ℕ) (d : Deck) (w : PartsIn s count opening d) (i : ℕ) (less : i < count) where
  pub its-good : GoodPart d (get_or d.parts i no_part)
  unfolding N
  its-good = good-part d w.formed i (omega (arith, w.listed.count))

  pub its-stand : (place : ℕ) → Walked encode_part s 0 count d.parts place i → PartStands s place opening (get_or d.parts i no_part)
  its-stand place h =
      record {
        size = w.size ∙ sym (opening-size (get_or d.parts i no_part).opening ∙ ap (λ n. 4 * n) its-good.opening);
        stands = walked_here encode_part s 0 count d.parts place i no_part h less;
      }

-- ---- the sections

pub record Sections (s : List ℕ) (k : Counted.Deck) : Type 0 where
  pub rules_at : k.rules_at + 1 ≤ length s
  pub parts_at : k.parts_at + 1 ≤ length s
  pub channels : k.channels ≤ 32
  pub rules : k.rules ≤ 64

module _ (s : List ℕ) (k : Counted.Deck) (d : Deck) (w : Encodes s k d) where
  whole : Stands s 0 (encode_channels d ++ encode_rules d ++ encode_parts d)
  unfolding encode
  whole = ([], w.bytes ∙ sym (append-nil (encode_channels d ++ encode_rules d ++ encode_parts d)))

  front : Stands s 0 (encode_channels d ++ encode_rules d)
  front = stands-first s 0 (encode_channels d ++ encode_rules d) (encode_parts d) whole

  rules-stand : Stands s k.rules_at (encode_rules d)
  rules-stand =
      subst (λ n. Stands s n (encode_rules d)) (zero-add (length (encode_channels d)) ∙ sym w.rules_at)
      (stands-second s 0 (encode_channels d) (encode_rules d) front)

  parts-stand : Stands s k.parts_at (encode_parts d)
  parts-stand =
      let e : 0 + length (encode_channels d ++ encode_rules d) ≡ k.parts_at
      = zero-add _ ∙ length-append (encode_channels d) (encode_rules d) ∙ sym w.parts_at in
      subst (λ n. Stands s n (encode_parts d)) e (stands-second s 0 (encode_channels d ++ encode_rules d) (encode_parts d) whole)

  pub sections : Sections s k
  unfolding encode_rules encode_parts
  sections =
      record {
        rules_at = omega (arith, stands-long s k.rules_at (encode_rules d) rules-stand);
        parts_at = omega (arith, stands-long s k.parts_at (encode_parts d) parts-stand);
        channels = omega (arith, w.channels, (formed d w.formed).channels);
        rules = omega (arith, w.rules, (formed d w.formed).rules);
      }

  -- what a slice from there on holds
  slice-stands : (at : ℕ) (x : List ℕ) → Stands s at x → Stands (stretch s at (length s)) 0 x
  slice-stands at x p = (p.0, take_all (length s - at) (drop at s) (omega (arith, length-drop at s)) ∙ p.1)

  pub rules-listed : Listed encode_rule (stretch s (k.rules_at + 1) (length s)) 0 k.rules d.rules
  unfolding encode_rules M
  rules-listed =
      record {
        count = w.rules;
        stands = slice-stands (k.rules_at + 1) (flat_map encode_rule d.rules)
            (stands-second s k.rules_at (M d ∷ []) (flat_map encode_rule d.rules) rules-stand);
      }

  pub parts_in : PartsIn (stretch s (k.parts_at + 1) (length s)) k.parts (4 * k.channels) d
  unfolding encode_parts N
  parts_in =
      record {
        formed = w.formed;
        size = ap (λ n. 4 * n) w.channels;
        listed = record {
          count = w.parts;
          stands = slice-stands (k.parts_at + 1) (flat_map encode_part d.parts)
              (stands-second s k.parts_at (N d ∷ []) (flat_map encode_part d.parts) parts-stand);
        };
      }

  pub numbered : (numbers : List ℕ) → Sums d.rules k.rules numbers → Numbered d numbers
  unfolding new_number
  numbered numbers n = record { size = n.size; at = λ r h. n.at r (omega (arith, w.rules)) }

  -- what is copied as it is
  pub channels-copied : stretch s 0 k.rules_at ≡ encode_channels d
  channels-copied =
      stretch-is s 0 0 k.rules_at (encode_channels d) refl (w.rules_at ∙ sym (zero-add (length (encode_channels d))))
      (stands-first s 0 (encode_channels d) (encode_rules d) front)

  pub count-copied : stretch s k.parts_at (k.parts_at + 1) ≡ N d ∷ []
  unfolding encode_parts
  count-copied =
      stretch-is s k.parts_at k.parts_at (k.parts_at + 1) (N d ∷ []) refl refl
      (stands-first s k.parts_at (N d ∷ []) (flat_map encode_part d.parts) parts-stand)

  -- the number of rules
  pub count-new : (numbers : List ℕ) → Numbered d numbers → stretch numbers k.rules (k.rules + 1) ≡ M (converted d) ∷ []
  count-new numbers n =
      let less : k.rules < length numbers = omega (arith, sections.rules, n.size) in
      let cut = drop-cons numbers k.rules 0 less in
      let here : get_or numbers k.rules 0 ≡ M (converted d)
      = ap (λ r. get_or numbers r 0) w.rules ∙ n.at (M d) (omega arith) ∙ sym (number-of-rules d) in
      stretch-is numbers k.rules k.rules (k.rules + 1) (M (converted d) ∷ []) refl refl
      (drop (suc k.rules) numbers, cut ∙ ap (λ x. x ∷ drop (suc k.rules) numbers) here)

-- bytes and counts are of one deck
pub encodes_same : (s : List ℕ) (k : Counted.Deck) (d e : Deck) → Encodes s k d → Encodes s k e → d ≡ e
encodes_same s k d e v w =
    let p = read-encode Old d v.formed (suits-old d) in
    let q = read-encode Old e w.formed (suits-old e) in
    let r : encode d ≡ encode e = sym v.bytes ∙ w.bytes in
    let same : encoded_layout d ≡ encoded_layout e = cc in
    ap (λ l. l.deck) same

-- the sections of the conversion, one after the other
pub encode-converted : (d : Deck)
    → encode (converted d)
    ≡ encode_channels d
    ++ ((M (converted d) ∷ [])
    ++ (flat_map encode_rule (flat_map split d.rules) ++ ((N d ∷ []) ++ flat_map encode_part (converted d).parts)))
unfolding encode encode_channels encode_rules encode_parts converted decks
encode-converted d =
    append_assoc (encode_channels d) (encode_rules (converted d)) (encode_parts (converted d))
    ∙ ap (λ n. encode_channels d ++ (encode_rules (converted d) ++ (n ∷ flat_map encode_part (converted d).parts)))
    (length-map d.parts (renumbered d))
