-- `conversion_call::convert_passed` meets its contract: the new numbers, and whether there are too many rules. Assumes nothing.
use Prim.Native.Nat.{ℕ, ◌≤◌}
use mathlib.Core.Path.{◌≡◌, refl, sym, ap, ◌∙◌}
use mathlib.Core.List.{List}
use native.Mathlib.Omega.{arith}
use lib.ListN.{get_or}
use Rattle.std.proofs.Common.{Err}
use Rattle.deck.specs.declared.Deck as Counted
use Rattle.deck.specs.Deck.{M}
use Rattle.deck.proofs.Laws.Formed.{formed}
use Rattle.passing.specs.Tabled.{deck_of}
use Rattle.conversion.specs.Converted.{new_number, converted}
use Rattle.conversion.specs.Conversion.{convert_outcome}
use Rattle.conversion.proofs.Laws.Renumbering.{number-of-rules}
use Rattle.conversion_bytes.specs.Decks.{Numbered}
use Rattle.conversion_call.specs.Passed.{OldDeck}
use Rattle.conversion_call.specs.Laws.Answers.{convert-many}
use Rattle.conversion_call.proofs.convert_passed.Goals as goal

-- a deck that the old check passed, and the numbers that were noted of it
module _ (s : List ℕ) (k : Counted.Deck) (h : OldDeck s k) where
  few : k.rules ≤ 64
  few = omega (arith, h.encodes.rules, (formed (deck_of s) h.encodes.formed).rules)

  last-number : (numbers : List ℕ) → Numbered (deck_of s) numbers → get_or numbers k.rules 0 ≡ M (converted (deck_of s))
  last-number numbers n =
      let d = deck_of s in
      let e = h.encodes.rules in
      n.at k.rules (omega (arith, e)) ∙ ap (new_number d) e ∙ sym (number-of-rules d)

pub number-requires : goal.number-requires
number-requires c = (refl, (deck_of c.args.deck.now, c.requires.encodes))

pub bounds-numbers-counts : goal.bounds-numbers-counts
bounds-numbers-counts c = omega (arith, few _ _ c.requires)

pub returns-then-result-gt-RULES : goal.returns-then-result-gt-RULES
returns-then-result-gt-RULES c =
    let n = c.number.ensures (deck_of c.args.deck.now) c.requires.encodes in
    convert-many c.args.deck.now c.args.buffer.now c.args.counts c.requires (ap (λ d. convert_outcome (Err d)) c.unplaced.ensures)
    (omega (arith, c.if-result-gt-RULES.true, c.from-result.ensures, last-number _ _ c.requires _ n))

pub write-requires : goal.write-requires
write-requires c =
    let n = c.number.ensures (deck_of c.args.deck.now) c.requires.encodes in
    (c.requires, n, omega (arith, c.if-result-gt-RULES.false, c.from-result.ensures, last-number _ _ c.requires _ n))
