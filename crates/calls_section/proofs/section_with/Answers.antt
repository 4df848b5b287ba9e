-- `calls_section::section_with` meets its contract. Assumes nothing.
use Prim.Native.Nat.{ℕ}
use mathlib.Core.Path.{◌≡◌, refl, sym, ap, ◌∙◌}
use mathlib.Core.List.{List, []}
use native.Mathlib.Omega.{arith}
use Rattle.deck.specs.Stretch.{LiesAt}
use Rattle.calls.specs.Calls.{section, section_from}
use Rattle.calls.specs.Answers.{section_of}
use Rattle.calls_section.specs.Laws.SectionAnswers.{Handed, section-refused, section-unknown, section-known, section-order}
use Rattle.calls_section.proofs.section_with.Goals as goal

-- the empty stretch begins with the deck
empty : (s : List ℕ) (k n m p : ℕ) (deck r : ℕ × ℕ) → r.0 ≡ deck.0 → r.1 ≡ deck.1 → m ≡ n → Handed s k [] 0 n p
    → (section_of [] m p ≡ section s k) × LiesAt deck r (section_from s k)
empty s k n m p deck r e f i h =
    (ap (λ x. section_of [] x p) i ∙ sym h.is, record { block = e; offset = omega (arith, f, h.begins) })

-- a stretch that lies where the section begins
lent : (s : List ℕ) (k : ℕ) (r t : List ℕ) (from : ℕ) (places : (ℕ × ℕ) × (ℕ × ℕ)) → Handed s k t from 0 0
    → (r ≡ t) × LiesAt places.0 places.1 from → (section_of r 0 0 ≡ section s k) × LiesAt places.0 places.1 (section_from s k)
lent s k r t from places h (e, at) =
    (ap (λ l. section_of l 0 0) e ∙ sym h.is, record { block = at.block; offset = omega (arith, at.offset, h.begins) })

pub returns-in-Err : goal.returns-in-Err
returns-in-Err c = empty _ _ _ _ _ _ _ refl (omega arith) c.number.ensures (section-refused _ _ _ _ c.in-Err.ensures)

pub returns-then-number-gt2 : goal.returns-then-number-gt2
returns-then-number-gt2 c =
    empty _ _ _ _ _ _ _ refl (omega arith) c.number-then-number-gt2.ensures
    (section-unknown _ _ _ _ _ _ c.in-Ok.ensures _ c.if-number-gt2.true)

pub stretch-requires : goal.stretch-requires
stretch-requires c =
    let o = section-order _ _ _ _ _ _ c.in-Ok.ensures in
    (o.0, o.1, omega (arith, c.if-number-gt2.false))

pub returns-else-number-gt2 : goal.returns-else-number-gt2
returns-else-number-gt2 c =
    lent _ _ _ _ _ _ (section-known _ _ _ _ _ _ c.in-Ok.ensures _ (omega (arith, c.if-number-gt2.false))) c.stretch.ensures
