-- `passing_tests::first_outside` meets its contract. The loop's invariant: the parts before p open within their limits. Assumes nothing.
use Prim.Native.Nat.{ℕ}
use mathlib.Core.Path.{sym, ap, ◌∙◌}
use mathlib.Core.Bool.{Bool, not}
use native.Mathlib.Omega.{arith}
use Rattle.deck.specs.Deck.{Deck, N}
use Rattle.lists.specs.Laws.First.{first-is}
use Rattle.passing.specs.Check.{within, opening_values, outside}
use Rattle.passing.specs.Tabled.{deck_of}
use Rattle.passing_tests.proofs.first_outside.Goals as goal

abbrev opens : Deck → ℕ → Bool
opens d p = within d p (opening_values d)

pub returns-then-not-opens_within : goal.returns-then-not-opens_within
unfolding outside
returns-then-not-opens_within c =
    let d = deck_of c.args.rig.now.deck.now in
    let first = first-is (λ p. not (opens d p)) (N d) c.loop-p.p (omega (arith, c.requires.counts.parts))
    (λ _. ap not (sym c.opens_within.ensures ∙ c.if-not-opens_within.true))
    c.loop-p.invariant in
    (sym first, omega arith)

pub returns : goal.returns
unfolding outside
returns c =
    let d = deck_of c.args.rig.now.deck.now in
    let n = c.requires.counts.parts in
    sym
    (first-is (λ p. not (opens d p)) (N d) c.args.rig.now.counts.parts (omega (arith, n)) (λ h. absurd (omega (arith, n)))
    (λ k h. c.loop-p.invariant k (omega (arith, c.loop-p-test.false))))
