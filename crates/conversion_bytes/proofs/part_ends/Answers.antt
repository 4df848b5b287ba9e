-- `conversion_bytes::part_ends` meets its contract: opening values, carried rules and limit, one after the other. Assumes nothing.
use Prim.Native.Nat.{ℕ, ◌+◌, ◌<◌}
use mathlib.Core.Path.{◌≡◌, ap}
use mathlib.Core.List.{List}
use native.Mathlib.Omega.{arith}
use lib.ListN.{length, get_or}
use Rattle.conversion_bytes.specs.Pieces.{HasPart}
use Rattle.conversion_bytes.specs.Laws.Parts.{PartInside, part-inside, limit_is, end_is}
use Rattle.conversion_bytes.proofs.part_ends.Goals as goal

module _ (s : List ℕ) (at opening : ℕ) (h : HasPart s at opening) where
  inside : PartInside s at opening h.0
  inside = part-inside s at opening h.0 h.1

  -- the limit's length byte, behind the carried rules
  limit-inside : (n : ℕ) → n ≡ get_or s (at + opening) 0 → at + opening + 1 + n < length s
  limit-inside n e = omega (arith, limit_is s at opening h.0 h.1 n e, inside.limit)

pub overflow_add-carried : goal.overflow_add-carried
overflow_add-carried c = omega (arith, (inside _ _ _ c.requires).carried)

pub overflow_add-limit : goal.overflow_add-limit
overflow_add-limit c = omega (arith, (inside _ _ _ c.requires).carried)

pub bounds-deck-carried : goal.bounds-deck-carried
bounds-deck-carried c = (inside _ _ _ c.requires).carried

pub overflow_add-limit-2 : goal.overflow_add-limit-2
overflow_add-limit-2 c = omega (arith, limit-inside _ _ _ c.requires _ c.from.ensures)

pub overflow_add-end : goal.overflow_add-end
overflow_add-end c = omega (arith, limit-inside _ _ _ c.requires _ c.from.ensures)

pub bounds-deck-limit : goal.bounds-deck-limit
bounds-deck-limit c = limit-inside _ _ _ c.requires _ c.from.ensures

pub overflow_add-end-2 : goal.overflow_add-end-2
overflow_add-end-2 c =
    let h = c.requires in
    let limit = limit_is _ _ _ h.0 h.1 _ c.from.ensures in
    omega (arith, end_is _ _ _ h.0 h.1 _ _ limit c.from-2.ensures, (inside _ _ _ h).end)

pub returns : goal.returns
returns c p h =
    let limit = limit_is _ _ _ p h _ c.from.ensures in
    record { carried = ap (λ n. c.args.at + n) h.size; limit = limit; end = end_is _ _ _ p h _ _ limit c.from-2.ensures }
