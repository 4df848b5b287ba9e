-- What the call `convert` keeps: whatever it writes to the front of the buffer is a new deck that gives what the old one gave. Assumes
-- nothing.
use Rattle.std.specs.Prelude.{ℕ, ◌≤◌, ◌≡◌, refl, true, List, ◌++◌, length, take, drop, ℤ}
use Rattle.std.proofs.Common.{sym, ap, ◌∙◌, subst}
use Rattle.std.proofs.Math.Seq.{take-append_seam}
use Rattle.refusals.specs.Outcome.{Outcome, refused, accepted}
use Rattle.refusals.specs.Laws.Outcomes.{refused≢accepted, accepted-inj}
use Rattle.expression.specs.Bytes.{Bytes}
use Rattle.deck.specs.declared.Form.TheVariants.{Old, New}
use Rattle.deck.specs.Limits.{limits}
use Rattle.deck.specs.Deck.{M}
use Rattle.deck.specs.Layout.{Layout}
use Rattle.deck.specs.Encoding.{encode, suits}
use Rattle.deck.proofs.Laws.Reading.{encoded_layout}
use Rattle.deck.proofs.Laws.Formed.{formed}
use Rattle.pool.specs.Updates.{Update, charge}
use Rattle.pool.specs.States.{Memory}
use Rattle.passing.specs.Check.{passing}
use Rattle.passing.proofs.Laws.Passes.{passes-exactly}
use Rattle.calls.specs.Calls.{start_as}
use Rattle.orders.specs.Calling.{Call, made_as, run_as}
use Rattle.orders.specs.Listed.{listed}
use Rattle.conversion.specs.Converted.{converted}
use Rattle.conversion.proofs.Laws.Formed.{unchanged}
use Rattle.conversion.specs.Conversion.{conversion, reply, convert}
use Rattle.conversion.proofs.Laws.Tests.{Made, conversion-made, conversion-writes}
use Rattle.conversion_orders.specs.Keeps.{Keeps}
use Rattle.conversion_orders.proofs.Laws.Same.{same-charge, same-listed}
use Rattle.conversion_orders.proofs.Laws.Passes.{converted-passes, same_bytes}
use Rattle.conversion_orders.proofs.Laws.Runs.{same_start, same-made, same-run}

-- what a conversion writes
made-keeps : (bytes new : List ℕ) (room : ℕ) → Bytes bytes → Made bytes new room → Keeps bytes new
made-keeps bytes new room b m =
    let l = m.layout in
    let d = l.deck in
    record {
      before = l;
      after = encoded_layout (converted d);
      old_passes = m.passes;
      new_passes = ap (passing New) m.is ∙ converted-passes bytes b l m.passes m.few;
      deck = refl;
      lists = same-listed d;
      charges = same-charge d;
      starts = λ pool. ap (λ s. start_as New s pool) m.is ∙ same_start bytes b l m.passes m.few pool;
      calls = λ x c. ap (λ s. made_as New s x c) m.is ∙ same-made bytes b l m.passes m.few x c;
      runs = λ pool cs. ap (λ s. run_as New s pool cs) m.is ∙ same-run bytes b l m.passes m.few pool cs;
    }

-- of the call: where it answers a length, as many bytes at the front of the buffer
pub convert-keeps : (bytes buffer : List ℕ) → Bytes bytes → (n : ℕ) → (convert bytes buffer).answer ≡ accepted n
    → Keeps bytes (take n (convert bytes buffer).buffer)
unfolding convert reply
convert-keeps bytes buffer b n e = go (conversion bytes (length buffer)) refl e
  where
    go : (o : Outcome (List ℕ)) → conversion bytes (length buffer) ≡ o → (reply buffer o).answer ≡ accepted n
        → Keeps bytes (take n (reply buffer o).buffer)
    go (refused k p) i a = refused≢accepted a
    go (accepted new) i a =
        let rest = drop (length new) buffer in
        let written = ap (λ k. take k (new ++ rest)) (sym (accepted-inj a)) ∙ take-append_seam new rest in
        subst (Keeps bytes) (sym written)
        (made-keeps bytes new (length buffer) b (conversion-made bytes (length buffer) new i))

-- a deck without default actions is converted to its own bytes
pub convert-same : (bytes buffer : List ℕ) → Bytes bytes → (l : Layout) → passing Old bytes ≡ accepted l → suits New l.deck ≡ true
    → length bytes ≤ length buffer
    → convert bytes buffer ≡ record { answer = accepted (length bytes); buffer = bytes ++ drop (length bytes) buffer }
unfolding convert reply
convert-same bytes buffer b l e new fits =
    let d = l.deck in
    let formed-deck = ((passes-exactly Old bytes b l).0 e).layout.0 in
    let few : M (converted d) ≤ limits.rules = subst (λ x. M x ≤ 64) (sym (unchanged d new formed-deck)) (formed d formed-deck).rules in
    let same = same_bytes bytes b l e new in
    let room : length (encode (converted d)) ≤ length buffer = subst (λ s. length s ≤ length buffer) (sym same) fits in
    ap (reply buffer) (conversion-writes bytes (length buffer) l e few room ∙ ap accepted same)
