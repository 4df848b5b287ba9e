-- What the converter answers, step by step. Assumes nothing.
use Rattle.std.specs.Prelude.{ℕ, ◌≤◌, ◌<◌, ◌≡◌, List, ◌++◌, length, drop}
use Rattle.std.proofs.Math.Path.{sym, ap, ap₂}
use Rattle.std.proofs.Common.{◌∙◌}
use Rattle.refusals.specs.Outcome.{Outcome, refused, accepted}
use Rattle.refusals.specs.Numbers.{too_many_rules, buffer_too_short}
use Rattle.deck.specs.declared.Form.TheVariants.{Old, New}
use Rattle.deck.specs.Limits.{limits}
use Rattle.deck.specs.Deck.{Deck, M}
use Rattle.deck.specs.Encoding.{encode}
use Rattle.deck.specs.declared.Deck as Counted
use Rattle.deck.proofs.Laws.Prefix.{encode-length}
use Rattle.passing.specs.Check.{passing}
use Rattle.passing.specs.Judged.{Passed}
use Rattle.passing.proofs.Laws.Passes.{passes-exactly}
use Rattle.passing.specs.Tabled.{layout_of, deck_of}
use Rattle.conversion.specs.Converted.{converted}
use Rattle.conversion.specs.Conversion.{reply, convert, reply_of}
use Rattle.conversion.proofs.Laws.Formed.{converted-formed, converted-suits}
use Rattle.conversion.proofs.Laws.Tests.{conversion-declines, too-many-rules, buffer-too-short, conversion-writes}
use Rattle.conversion_call.specs.Passed.{OldDeck}

-- what the old check found
pub passed-old : (s rules parts memo : List ℕ) (k : Counted.Deck) (n : ℕ) → Passed Old s rules parts memo k n → OldDeck s k
passed-old s rules parts memo k n w =
    let c = w.tabled.counts in
    let p = (passes-exactly Old s w.bytes (layout_of s)).0 w.passes in
    record {
      passes = w.passes;
      encodes = record {
        formed = p.layout.0;
        bytes = p.layout.1;
        channels = c.channels;
        rules = c.rules;
        parts = c.parts;
        rules_at = c.rules_at ∙ p.sections.0;
        parts_at = c.parts_at ∙ p.sections.1;
      };
    }

module _ (s buffer : List ℕ) where
  -- a refusal leaves the buffer
  module _ {o : Outcome ℕ} {n p : ℕ} (e : o ≡ refused n p) where
    pub convert-declined : passing Old s ≡ refused n p → reply_of o buffer ≡ convert s buffer
    unfolding convert reply
    convert-declined h = ap (λ x. reply_of x buffer) e ∙ sym (ap (reply buffer) (conversion-declines s (length buffer) n p h))

  module _ (k : Counted.Deck) (w : OldDeck s k) where
    abbrev new : Deck
    new = converted (deck_of s)

    pub convert-many : {o : Outcome ℕ} → o ≡ refused too_many_rules 0 → limits.rules < M new → reply_of o buffer ≡ convert s buffer
    unfolding convert reply
    convert-many e h =
        ap (λ x. reply_of x buffer) e ∙ sym (ap (reply buffer) (too-many-rules s (length buffer) (layout_of s) w.passes h))

    module _ (few : M new ≤ limits.rules) where
      -- the longest new deck has room for it
      pub new-length : length (encode new) ≤ limits.deck
      new-length = encode-length New new (converted-formed (deck_of s) w.encodes.formed few) (converted-suits (deck_of s))

      pub convert-short : {o : Outcome ℕ} → o ≡ refused buffer_too_short 0 → length buffer < length (encode new)
          → reply_of o buffer ≡ convert s buffer
      unfolding convert reply
      convert-short e h =
          ap (λ x. reply_of x buffer) e ∙ sym (ap (reply buffer) (buffer-too-short s (length buffer) (layout_of s) w.passes few h))

      pub convert-wrote : (n : ℕ) (after : List ℕ) → n ≡ length (encode new) → length (encode new) ≤ length buffer
          → after ≡ encode new ++ drop (length (encode new)) buffer → reply_of (accepted n) after ≡ convert s buffer
      unfolding convert reply
      convert-wrote n after e h f =
          ap₂ (λ n after. reply_of (accepted n) after) e f
          ∙ sym (ap (reply buffer) (conversion-writes s (length buffer) (layout_of s) w.passes few h))
