-- `conversion_bytes::put_part` meets its contract: opening values, new numbers behind their count, and limit. Assumes nothing.
use Prim.Native.Nat.{ℕ, ◌+◌, ◌-◌, ◌≤◌}
use mathlib.Core.Path.{◌≡◌, ap}
use mathlib.Core.List.{List, ◌∷◌, ◌++◌, flat_map}
use native.Mathlib.Omega.{arith}
use lib.ListN.{length, set, length-append}
use Rattle.conversion_bytes.specs.Written.{Written}
use Rattle.conversion_bytes.specs.Pieces.{renewed, part_bytes}
use Rattle.conversion_bytes.specs.Laws.Written.{written-length, written_is, written-more, written_count, room-first, room-behind}
use Rattle.conversion_bytes.proofs.put_part.Goals as goal

-- the new numbers, and what stands behind the opening values
abbrev new : goal.After-put-arg-1 → List ℕ
new s = flat_map (renewed s.args.numbers.now) s.args.carried.now

-- the new numbers, and what stands behind the opening values
abbrev new-2 : goal.After-put-arg-2-1 → List ℕ
new-2 s = flat_map (renewed s.args.numbers.now) s.args.carried.now

-- the new numbers, and what stands behind the opening values
abbrev new-3 : goal.After-put_carried-arg-1 → List ℕ
new-3 s = flat_map (renewed s.args.numbers.now) s.args.carried.now

-- the new numbers, and what stands behind the opening values
abbrev new-4 : goal.After-slice_known-4-1 → List ℕ
new-4 s = flat_map (renewed s.args.numbers.now) s.args.carried.now

abbrev rest : goal.After-put-arg-1 → List ℕ
rest s = (length (new s) ∷ new s) ++ s.args.limit.now

abbrev rest-2 : goal.After-put-arg-2-1 → List ℕ
rest-2 s = (length (new-2 s) ∷ new-2 s) ++ s.args.limit.now

abbrev rest-3 : goal.After-put_carried-arg-1 → List ℕ
rest-3 s = (length (new-3 s) ∷ new-3 s) ++ s.args.limit.now

room : (s : goal.After-put-arg-1) → s.args.at + length (s.args.opening.now ++ rest s) ≤ length s.args.out.now
unfolding part_bytes
room s = s.requires.room

room-2 : (s : goal.After-put-arg-2-1) → s.args.at + length (s.args.opening.now ++ rest-2 s) ≤ length s.args.out.now
unfolding part_bytes
room-2 s = s.requires.room

room-3 : (s : goal.After-put_carried-arg-1) → s.args.at + length (s.args.opening.now ++ rest-3 s) ≤ length s.args.out.now
unfolding part_bytes
room-3 s = s.requires.room

pub put-count-requires : goal.put-count-requires
put-count-requires c =
    room-first (length c.args.out.now) c.args.at c.args.opening.now (rest c) (room c)

pub put_carried-end-requires : goal.put_carried-end-requires
put_carried-end-requires c =
    let behind = room-behind c.args.opening.now (rest-3 c) c.put-count.ensures (room-3 c) in
    (c.requires.known, omega (arith, behind, length-append (new-3 c) c.args.limit.now))

-- the new numbers behind their count
counted : (q : goal.After-put-arg-2-1)
    → let count = q.put-count.result in
    let end = q.put_carried-end.result in
    Written q.put-count.new.out count (length (new-2 q) ∷ new-2 q) (set q.put_carried-end.new.out count (end - (count + 1))) end
counted q =
    let count = q.put-count.result in
    let end = q.put_carried-end.result in
    let e : end - (count + 1) ≡ length (new-2 q) = omega (arith, q.put_carried-end.ensures.ends) in
    written_is (ap (λ n. n ∷ new-2 q) e) (written_count count (end - (count + 1)) q.put_carried-end.ensures)

-- the new numbers behind their count
counted-2 : (q : goal.After-slice_known-4-1)
    → let count = q.put-count.result in
    let end = q.put_carried-end.result in
    Written q.put-count.new.out count (length (new-4 q) ∷ new-4 q) (set q.put_carried-end.new.out count (end - (count + 1))) end
counted-2 q =
    let count = q.put-count.result in
    let end = q.put_carried-end.result in
    let e : end - (count + 1) ≡ length (new-4 q) = omega (arith, q.put_carried-end.ensures.ends) in
    written_is (ap (λ n. n ∷ new-4 q) e) (written_count count (end - (count + 1)) q.put_carried-end.ensures)

pub put-requires : goal.put-requires
put-requires c =
    room-behind (length (new-2 c) ∷ new-2 c) c.args.limit.now (counted c)
    (room-behind c.args.opening.now (rest-2 c) c.put-count.ensures (room-2 c))

pub returns : goal.returns
unfolding part_bytes
returns c =
    written-more c.put-count.ensures (written-more (counted-2 c) c.put.ensures)

pub shape_of-out : goal.shape_of-out
shape_of-out c = written-length (returns c)
