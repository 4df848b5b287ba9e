-- The tests of a conversion, one after the other. Assumes nothing.
use Rattle.std.specs.Prelude.{ℕ, suc, ◌≤◌, ◌<◌, ◌≡◌, refl, Bool, true, false, List, leb, length, take, Result, Ok, Err}
use Rattle.std.proofs.Common.{sym, ◌∙◌, subst, leb-true, le-leb}
use Rattle.std.proofs.Math.Path.{ap, ap₂}
use Rattle.std.proofs.lemmas.Bool.{lt-leb}
use Rattle.refusals.specs.Outcome.{Outcome, refused, accepted, ◌>>=◌, ◌>>◌, require, outcomes}
use Rattle.refusals.specs.Numbers.{too_many_rules, buffer_too_short}
use Rattle.refusals.specs.Laws.Outcomes.{refused≢accepted, accepted-inj}
use Rattle.refusals.specs.declared.Declined.{Declined}
use Rattle.deck.specs.declared.Form.TheVariants.{Old}
use Rattle.deck.specs.Limits.{limits, longest}
use Rattle.deck.specs.Deck.{Deck, M}
use Rattle.deck.specs.Layout.{Layout}
use Rattle.deck.specs.Encoding.{encode}
use Rattle.passing.specs.Check.{passing}
use Rattle.passing.proofs.Laws.Passing.{passing-prefix}
use Rattle.conversion.specs.Converted.{converted}
use Rattle.conversion.specs.Conversion.{conversion, reply, convert, convert_outcome, reply_of}
use Rattle.conversion.specs.Fits.{Fits}

-- 21 and 22 of a deck that the old check passes, by what they test
abbrev behind : Deck → Bool → Bool → Outcome (List ℕ)
behind d few fits = require few too_many_rules 0 >> (require fits buffer_too_short 0 >> accepted (encode (converted d)))

abbrev tests : ℕ → Layout → Outcome (List ℕ)
tests room l =
    let new = converted l.deck in behind l.deck (leb (M new) limits.rules) (leb (length (encode new)) room)

module _ (bytes : List ℕ) (room : ℕ) where
  -- the old check's number and place
  pub conversion-declines : (n p : ℕ) → passing Old bytes ≡ refused n p → conversion bytes room ≡ refused n p
  unfolding conversion outcomes
  conversion-declines n p e = ap (λ o. o >>= tests room) e

  module _ (l : Layout) (e : passing Old bytes ≡ accepted l) where
    abbrev d : Deck
    d = l.deck

    goes_on : conversion bytes room ≡ tests room l
    unfolding conversion outcomes
    goes_on = ap (λ o. o >>= tests room) e

    pub too-many-rules : limits.rules < M (converted d) → conversion bytes room ≡ refused too_many_rules 0
    unfolding outcomes
    too-many-rules h =
        goes_on ∙ ap (λ b. behind d b (leb (length (encode (converted d))) room)) (lt-leb (M (converted d)) limits.rules h)

    module _ (few : M (converted d) ≤ limits.rules) where
      pub buffer-too-short : room < length (encode (converted d)) → conversion bytes room ≡ refused buffer_too_short 0
      unfolding outcomes
      buffer-too-short h =
          goes_on ∙ ap₂ (behind d) (le-leb (M (converted d)) limits.rules few) (lt-leb (length (encode (converted d))) room h)

      pub conversion-writes : length (encode (converted d)) ≤ room → conversion bytes room ≡ accepted (encode (converted d))
      unfolding outcomes
      conversion-writes h =
          goes_on ∙ ap₂ (behind d) (le-leb (M (converted d)) limits.rules few) (le-leb (length (encode (converted d))) room h)

-- what is written, and what was tested before
pub record Made (bytes new : List ℕ) (room : ℕ) : Type 0 where
  pub layout : Layout
  pub passes : passing Old bytes ≡ accepted layout
  pub few : M (converted layout.deck) ≤ limits.rules
  pub fits : length new ≤ room
  pub is : new ≡ encode (converted layout.deck)

pub conversion-made : (bytes : List ℕ) (room : ℕ) (new : List ℕ) → conversion bytes room ≡ accepted new → Made bytes new room
unfolding conversion outcomes
conversion-made bytes room new e = go (passing Old bytes) refl e
  where
    few_rules : Layout → Bool
    few_rules l = leb (M (converted l.deck)) limits.rules

    has_room : Layout → Bool
    has_room l = leb (length (encode (converted l.deck))) room

    each : (l : Layout) → passing Old bytes ≡ accepted l → (b c : Bool) → few_rules l ≡ b → has_room l ≡ c
        → behind l.deck b c ≡ accepted new
        → Made bytes new room
    each l p false c f g a = refused≢accepted a
    each l p true false f g a = refused≢accepted a
    each l p true true f g a =
        let same = accepted-inj a in
        record {
          layout = l;
          passes = p;
          few = leb-true (M (converted l.deck)) limits.rules f;
          fits = subst (λ w. length w ≤ room) same (leb-true (length (encode (converted l.deck))) room g);
          is = sym same;
        }

    go : (o : Outcome Layout) → passing Old bytes ≡ o → (o >>= λ l. behind l.deck (few_rules l) (has_room l)) ≡ accepted new
        → Made bytes new room
    go (refused n p) i a = refused≢accepted a
    go (accepted l) i a = each l i (few_rules l) (has_room l) refl refl a

-- what the call answers fits into the buffer
pub convert-within : (bytes buffer after : List ℕ) (n : ℕ) → reply_of (accepted n) after ≡ convert bytes buffer → n ≤ length buffer
unfolding convert reply
convert-within bytes buffer after n e = go (conversion bytes (length buffer)) refl (ap (λ r. r.answer) e)
  where
    go : (o : Outcome (List ℕ)) → conversion bytes (length buffer) ≡ o → accepted n ≡ (reply buffer o).answer → n ≤ length buffer
    go (refused k p) i a = refused≢accepted (sym a)
    go (accepted new) i a = subst (λ k. k ≤ length buffer) (sym (accepted-inj a)) (conversion-made bytes (length buffer) new i).fits

pub answer-fits : (bytes buffer after : List ℕ) (n : ℕ) → length buffer ≡ n → (r : Result ℕ Declined)
    → reply_of (convert_outcome r) after ≡ convert bytes buffer → Fits r n
answer-fits bytes buffer after n size (Ok k) e = subst (λ m. k ≤ m) size (convert-within bytes buffer after k e)
answer-fits bytes buffer after n size (Err d) e = tt

-- one byte more than the longest old deck decides
pub conversion-prefix : (bytes : List ℕ) (room : ℕ) → conversion (take (suc (longest Old)) bytes) room ≡ conversion bytes room
unfolding conversion
conversion-prefix bytes room = ap (λ o. o >>= tests room) (passing-prefix Old bytes)
