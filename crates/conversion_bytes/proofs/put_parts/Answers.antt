-- `conversion_bytes::put_parts` meets its contract. The loop's invariant: so many parts end at the place, and what becomes of them is
-- written. Assumes nothing.
use Prim.Native.Nat.{ℕ, ◌+◌, ◌≤◌, ◌<◌}
use mathlib.Core.Path.{refl, sym, ◌∙◌, subst}
use mathlib.Core.List.{List, flat_map}
use native.Mathlib.Omega.{arith}
use lib.ListN.{length, get_or}
use Rattle.deck.specs.Deck.{Part, Deck}
use Rattle.deck.specs.Encoding.{encode_part}
use Rattle.deck.proofs.Laws.Formed.{formed}
use Rattle.conversion.specs.Converted.{converted}
use Rattle.conversion_bytes.specs.Stands.{Walked}
use Rattle.conversion_bytes.specs.Pieces.{PartStands, PartEndings, new_part_bytes}
use Rattle.conversion_bytes.specs.Decks.{Numbered, PartsIn}
use Rattle.conversion_bytes.specs.declared.PartEnds.{PartEnds}
use Rattle.conversion_bytes.specs.Laws.Written.{written-length, written_is, written-first, written_next, written_all, room_next}
use Rattle.conversion_bytes.specs.Laws.Stands.{walked_none, walked_next}
use Rattle.conversion_bytes.specs.Laws.Parts.{PartStretches, part-stretches, no_part, stretches-part, puts-part}
use Rattle.conversion_bytes.specs.Laws.Decks.{parts-bytes, its-good, its-stand}
use Rattle.conversion_bytes.proofs.put_parts.Goals as goal

-- what becomes of the parts has room
room : (d : Deck) (at : ℕ) (out : List ℕ) → at + length (flat_map encode_part (converted d).parts) ≤ length out
    → at + length (flat_map (new_part_bytes d) d.parts) ≤ length out
room d at out h = subst (λ l. at + length l ≤ length out) (parts-bytes d) h

module _ {s numbers : List ℕ} {count opening place i : ℕ} {d : Deck} {A : Type 0} {B : Deck → Type 0}
    (k : A × ((d : Deck) → PartsIn s count opening d → Numbered d numbers → Walked encode_part s 0 count d.parts place i × B d))
    (w : PartsIn s count opening d) (n : Numbered d numbers) (h : i < count) where
  -- the part at the place
  there : PartStands s place opening (get_or d.parts i no_part)
  there = its-stand s count opening d w i h place (k.1 d w n).0

  -- and its stretches
  own : {e : PartEnds} → ((p : Part) → PartStands s place opening p → PartEndings place p e)
      → PartStretches s place e (get_or d.parts i no_part)
  own {e} r = part-stretches s place opening (get_or d.parts i no_part) e there (r (get_or d.parts i no_part) there)

pub loop-init : goal.loop-init
loop-init c =
    let a = c.args in (
      refl,
      λ d w n. (
        walked_none encode_part a.parts.now 0 a.count d.parts w.listed,
        written-first (new_part_bytes d) d.parts a.out.now a.at (omega (arith, room c.requires.0 a.at a.out.now c.requires.3)),
      ),
    )

pub part_ends-carried-requires : goal.part_ends-carried-requires
part_ends-carried-requires c =
    (get_or c.requires.0.parts c.loop.counter no_part, there c.loop.invariant c.requires.1 c.requires.2 c.loop-test.true)

pub overflow_add-first : goal.overflow_add-first
overflow_add-first c =
    omega (arith, (own c.loop.invariant c.requires.1 c.requires.2 c.loop-test.true c.part_ends-carried.ensures).order)

pub slice_bounds-put_part-count : goal.slice_bounds-put_part-count
slice_bounds-put_part-count c =
    omega (arith, (own c.loop.invariant c.requires.1 c.requires.2 c.loop-test.true c.part_ends-carried.ensures).order)

pub slice_bounds-put_part-start : goal.slice_bounds-put_part-start
slice_bounds-put_part-start c =
    omega (arith, (own c.loop.invariant c.requires.1 c.requires.2 c.loop-test.true c.part_ends-carried.ensures).order)

pub slice_bounds-put_part-end : goal.slice_bounds-put_part-end
slice_bounds-put_part-end c =
    omega (arith, (own c.loop.invariant c.requires.1 c.requires.2 c.loop-test.true c.part_ends-carried.ensures).order)

pub slice_bounds-put_part-count-in-loop : goal.slice_bounds-put_part-count-in-loop
slice_bounds-put_part-count-in-loop c =
    omega (arith, (own c.loop.invariant c.requires.1 c.requires.2 c.loop-test.true c.part_ends-carried.ensures).order)

pub slice_bounds-put_part-start-in-loop : goal.slice_bounds-put_part-start-in-loop
slice_bounds-put_part-start-in-loop c =
    omega (arith, (own c.loop.invariant c.requires.1 c.requires.2 c.loop-test.true c.part_ends-carried.ensures).order)

pub slice_bounds-put_part-end-in-loop : goal.slice_bounds-put_part-end-in-loop
slice_bounds-put_part-end-in-loop c =
    omega (arith, (own c.loop.invariant c.requires.1 c.requires.2 c.loop-test.true c.part_ends-carried.ensures).order)

pub slice_bounds-put_part-count-in-loop-2 : goal.slice_bounds-put_part-count-in-loop-2
slice_bounds-put_part-count-in-loop-2 c =
    omega (arith, (own c.loop.invariant c.requires.1 c.requires.2 c.loop-test.true c.part_ends-carried.ensures).order)

pub slice_bounds-put_part-start-in-loop-2 : goal.slice_bounds-put_part-start-in-loop-2
slice_bounds-put_part-start-in-loop-2 c =
    omega (arith, (own c.loop.invariant c.requires.1 c.requires.2 c.loop-test.true c.part_ends-carried.ensures).order)

pub slice_bounds-put_part-end-in-loop-2 : goal.slice_bounds-put_part-end-in-loop-2
slice_bounds-put_part-end-in-loop-2 c =
    omega (arith, (own c.loop.invariant c.requires.1 c.requires.2 c.loop-test.true c.part_ends-carried.ensures).order)

pub put_part-to-requires : goal.put_part-to-requires
put_part-to-requires c =
    let l = c.loop in
    let a = c.args in
    let d = c.requires.0 in
    let i = l.counter in
    let less : i < length d.parts = omega (arith, c.loop-test.true, c.requires.1.listed.count) in
    let good = its-good a.parts.now a.count a.opening d c.requires.1 i c.loop-test.true in
    puts-part d a.numbers.now c.requires.2 (get_or d.parts i no_part) good a.parts.now l.place c.part_ends-carried.result
    (own l.invariant c.requires.1 c.requires.2 c.loop-test.true c.part_ends-carried.ensures)
    (formed d c.requires.1.formed).rules
    l.out
    l.to
    (room_next (new_part_bytes d) d.parts i no_part less (l.invariant.1 d c.requires.1 c.requires.2).1 (room d a.at a.out.now c.requires.3))

pub loop-preserved : goal.loop-preserved
loop-preserved c =
    let l = c.loop in
    let a = c.args in
    let i = l.counter in (
      written-length c.put_part-to.ensures ∙ l.invariant.0,
      λ d w n.
          let known = l.invariant.1 d w n in
          let less : i < length d.parts = omega (arith, c.loop-test.true, w.listed.count) in
          let p : Part = get_or d.parts i no_part in
          let good = its-good a.parts.now a.count a.opening d w i c.loop-test.true in
          let here = own l.invariant w n c.loop-test.true c.part_ends-carried.ensures in
          let bytes = stretches-part d a.numbers.now n p good a.parts.now l.place c.part_ends-carried.result here in (
            walked_next encode_part a.parts.now 0 a.count d.parts l.place i no_part known.0 c.part_ends-carried.result.end
                (c.part_ends-carried.ensures p (there l.invariant w n c.loop-test.true)).end
                c.loop-test.true,
            written_next (new_part_bytes d) d.parts i no_part less known.1 (written_is bytes c.put_part-to.ensures),
          ),
    )

pub returns : goal.returns
returns c d w n =
    let l = c.loop in
    written_is (sym (parts-bytes d))
    (written_all (new_part_bytes d) d.parts l.counter (omega (arith, c.loop-test.false, w.listed.count)) (l.invariant.1 d w n).1)
