-- A deck that was read is refused exactly where document 01 says so: with 6, 7 or 8, each at its place. Assumes nothing.
use Rattle.std.specs.Prelude.{ℕ, ◌+◌, ◌*◌, ◌<◌, ◌≡◌, refl, ◌↔◌, ◌⊎◌, true, false, List, [], ◌∷◌}
use Rattle.std.proofs.Common.{sym, ap₂, ◌∙◌, subst₂, inl, inr, ⊎_elim, arith}
use Rattle.std.proofs.Math.Bool.{not}
use borrow.Author.Tests.{not-true, not-false}
use Rattle.lists.specs.Laws.Booleans.{contradiction}
use Rattle.lists.specs.Laws.Below.{select-first}
use Rattle.refusals.specs.Outcome.{refused, accepted}
use Rattle.refusals.specs.Laws.Outcomes.{refused≢accepted, number-inj, place-inj}
use Rattle.refusals.specs.Numbers.{opens_outside, cyclic_graph, overcharged}
use Rattle.expression.specs.Bytes.{Bytes}
use Rattle.deck.specs.declared.Form.{Form}
use Rattle.deck.specs.Deck.{Deck, R, N}
use Rattle.deck.specs.Layout.{Layout, read}
use Rattle.deck.proofs.Laws.Formed.{formed}
use Rattle.deck.specs.Facts.{Formed}
use Rattle.deck.proofs.Laws.Reading.{read-formed}
use Rattle.graph.specs.Graph.{Reaches, edge, cyclic}
use Rattle.graph.proofs.Laws.Cycles.{reaches-inside, no-cycle, lowest-cycle}
use Rattle.graph.specs.Acyclic.{Acyclic}
use Rattle.graph.proofs.Laws.Targets.{known-targets}
use Rattle.charge.specs.Charge.{carried_charges, above_bound}
use Rattle.charge.proofs.Laws.Bound.{FirstAbove, first_above}
use Rattle.passing.specs.Check.{within, opening_values, outside, passing}
use Rattle.passing.proofs.Laws.Passing.{later_tests, TestsFind, clean, found-6, found-7, found-8, later-find, passing-judges}
use Rattle.passing.proofs.Laws.Passes.{Passes, none-outside, passes-exactly}

-- every part opens within its limit
abbrev pub OpensWithin : Deck → Type 0
OpensWithin d = (p : ℕ) → p < N d → within d p (opening_values d) ≡ true

-- 6: "A part opens outside its limit", "for 6 the lowest such part"
pub record OpensOutside (d : Deck) (p : ℕ) : Type 0 where
  pub known : p < N d
  pub outside : within d p (opening_values d) ≡ false
  pub lowest : (q : ℕ) → q < p → within d q (opening_values d) ≡ true

-- 7: "The graph has a cycle"; "the place is the lowest channel that can reach itself"
pub record LowestCycle (d : Deck) (p : ℕ) : Type 0 where
  pub opens : OpensWithin d
  pub known : p < R d
  pub itself : Reaches (edge d) p p
  pub lowest : (c : ℕ) → c < p → Reaches (edge d) c c → ⊥

-- 8: "A carried rule's charge is above 65,535"; "for 8 the lowest 64 times part + rule"
pub record Overcharged (d : Deck) (p : ℕ) : Type 0 where
  pub opens : OpensWithin d
  pub acyclic : Acyclic d
  pub first : FirstAbove d p

-- a deck that was read is refused with number n and place p
pub data RefusedFor (d : Deck) (n p : ℕ) : Type 0 where
  for-6 : n ≡ opens_outside → OpensOutside d p → RefusedFor d n p
  for-7 : n ≡ cyclic_graph → LowestCycle d p → RefusedFor d n p
  for-8 : n ≡ overcharged → Overcharged d p → RefusedFor d n p

module _ (d : Deck) where
  first-outside : (p : ℕ) (ps : List ℕ) → outside d ≡ p ∷ ps → OpensOutside d p
  unfolding outside
  first-outside p ps e =
      let first = select-first (λ p. not (within d p (opening_values d))) (N d) p ps e in
      record {
        known = first.1;
        outside = not-true (within d p (opening_values d)) first.0;
        lowest = λ q l. not-false (within d q (opening_values d)) (first.2 q l);
      }

  module _ (f : Formed d) where
    first-cyclic : (p : ℕ) (ps : List ℕ) → outside d ≡ [] → cyclic d ≡ p ∷ ps → LowestCycle d p
    first-cyclic p ps a b =
        let h = lowest-cycle (known-targets d f) b in
        record { opens = (none-outside d).0 a; known = reaches-inside (known-targets d f) h.0; itself = h.0; lowest = h.1 }

    first-over : (p : ℕ) (ps : List ℕ) → outside d ≡ [] → cyclic d ≡ [] → above_bound (carried_charges d) ≡ p ∷ ps → Overcharged d p
    first-over p ps a b c =
        record {
          opens = (none-outside d).0 a;
          acyclic = (no-cycle (known-targets d f)).0 b;
          first = first_above d f.rules p ps c;
        }

-- ---- each of the three says which place it is, and where one holds no other does

module _ (d : Deck) where
  outside-not-within : {p : ℕ} → OpensOutside d p → OpensWithin d → ⊥
  outside-not-within {p} x h = contradiction (h p x.known) x.outside

  same-6 : {p q : ℕ} → OpensOutside d p → OpensOutside d q → p ≡ q
  same-6 {p} {q} x y =
      let above : ¬ (p < q) = λ h. contradiction (y.lowest p h) x.outside in
      let below : ¬ (q < p) = λ h. contradiction (x.lowest q h) y.outside in
      omega arith

  same-7 : {p q : ℕ} → LowestCycle d p → LowestCycle d q → p ≡ q
  same-7 {p} {q} x y =
      let above : ¬ (p < q) = λ h. y.lowest p h x.itself in
      let below : ¬ (q < p) = λ h. x.lowest q h y.itself in
      omega arith

  not_lower : {p q : ℕ} → FirstAbove d p → FirstAbove d q → ¬ (p < q)
  not_lower {p} {q} x y h =
      let place : 64 * x.part + x.rule < q = omega (arith, x.place) in
      omega (arith, y.lowest x.part x.rule x.part_known x.rule_known x.carried place, x.above)

  same-8 : {p q : ℕ} → Overcharged d p → Overcharged d q → p ≡ q
  same-8 x y = omega (arith, not_lower x.first y.first, not_lower y.first x.first)

  same : {n m p q : ℕ} → RefusedFor d n p → RefusedFor d m q → (n ≡ m) × (p ≡ q)
  same (for-6 a x) (for-6 b y) = (a ∙ sym b, same-6 x y)
  same (for-6 a x) (for-7 b y) = absurd (outside-not-within x y.opens)
  same (for-6 a x) (for-8 b y) = absurd (outside-not-within x y.opens)
  same (for-7 a x) (for-6 b y) = absurd (outside-not-within y x.opens)
  same (for-7 a x) (for-7 b y) = (a ∙ sym b, same-7 x y)
  same {p} (for-7 a x) (for-8 b y) = absurd (y.acyclic p x.itself)
  same (for-8 a x) (for-6 b y) = absurd (outside-not-within y x.opens)
  same {q} (for-8 a x) (for-7 b y) = absurd (x.acyclic q y.itself)
  same (for-8 a x) (for-8 b y) = (a ∙ sym b, same-8 x y)

-- bytes that were read
module _ (f : Form) (bytes : List ℕ) (b : Bytes bytes) (l : Layout) (e : read f bytes ≡ accepted l) where
  -- what the tests come to, in the document's words
  found : TestsFind l (later_tests l) → Passes f bytes l ⊎ ((n : ℕ) × (p : ℕ) × (later_tests l ≡ refused n p) × RefusedFor l.deck n p)
  found (clean _ _ _ q) = inl ((passes-exactly f bytes b l).0 (passing-judges f bytes l e ∙ q))
  found (found-6 p ps x q) = inr (opens_outside, p, q, for-6 refl (first-outside l.deck p ps x))
  found (found-7 p ps x y q) =
      inr (cyclic_graph, p, q, for-7 refl (first-cyclic l.deck (formed l.deck (read-formed f bytes b l e)) p ps x y))
  found (found-8 p ps x y z q) =
      inr (overcharged, p, q, for-8 refl (first-over l.deck (formed l.deck (read-formed f bytes b l e)) p ps x y z))

  passes-not : {n p : ℕ} → Passes f bytes l → RefusedFor l.deck n p → ⊥
  passes-not h (for-6 _ x) = outside-not-within l.deck x h.opens
  passes-not {p} h (for-7 _ x) = h.acyclic p x.itself
  passes-not h (for-8 _ x) =
      let f = x.first in
      omega (arith, f.above, h.charged f.part f.rule f.part_known f.rule_known f.carried)

  -- refused with a number and place exactly where the document says so
  pub refused-exactly : (n p : ℕ) → (passing f bytes ≡ refused n p) ↔ RefusedFor l.deck n p
  refused-exactly n p = (
    λ h.
        ⊎_elim (λ x. refused≢accepted (sym h ∙ (passes-exactly f bytes b l).1 x))
        (λ x.
        let q = sym x.2 ∙ sym (passing-judges f bytes l e) ∙ h in
        subst₂ (RefusedFor l.deck) (number-inj q) (place-inj q) x.3)
        (found (later-find l)),
    λ r.
        ⊎_elim (λ x. absurd (passes-not x r))
        (λ x.
        let q = same l.deck x.3 r in
        passing-judges f bytes l e ∙ x.2 ∙ ap₂ refused q.0 q.1)
        (found (later-find l)),
  )

  pub place-of-6 : (p : ℕ) → passing f bytes ≡ refused opens_outside p → OpensOutside l.deck p
  place-of-6 p h = of ((refused-exactly opens_outside p).0 h)
    where
      of : RefusedFor l.deck opens_outside p → OpensOutside l.deck p
      of (for-6 _ x) = x
      of (for-7 n _) = absurd (omega arith)
      of (for-8 n _) = absurd (omega arith)

  pub place-of-7 : (p : ℕ) → passing f bytes ≡ refused cyclic_graph p → LowestCycle l.deck p
  place-of-7 p h = of ((refused-exactly cyclic_graph p).0 h)
    where
      of : RefusedFor l.deck cyclic_graph p → LowestCycle l.deck p
      of (for-6 n _) = absurd (omega arith)
      of (for-7 _ x) = x
      of (for-8 n _) = absurd (omega arith)

  pub place-of-8 : (p : ℕ) → passing f bytes ≡ refused overcharged p → Overcharged l.deck p
  place-of-8 p h = of ((refused-exactly overcharged p).0 h)
    where
      of : RefusedFor l.deck overcharged p → Overcharged l.deck p
      of (for-6 n _) = absurd (omega arith)
      of (for-7 n _) = absurd (omega arith)
      of (for-8 _ x) = x
