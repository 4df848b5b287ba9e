-- `conversion_bytes::write` meets its contract: one section after the other, each behind its count. Assumes nothing.
use Prim.Native.Nat.{ℕ, ◌+◌, ◌≤◌}
use mathlib.Core.Path.{sym, ap, ◌∙◌}
use mathlib.Core.List.{List, [], ◌∷◌, ◌++◌, flat_map}
use native.Mathlib.Omega.{arith}
use lib.ListN.{length}
use Rattle.deck.specs.Deck.{M, N}
use Rattle.deck.specs.Encoding.{encode_rule, encode_part, encode_channels, encode}
use Rattle.conversion.specs.Converted.{split, converted}
use Rattle.conversion_bytes.specs.Written.{Written}
use Rattle.conversion_bytes.specs.Laws.Written.{written-length, written_is, written-more, room-first, room-behind}
use Rattle.conversion_bytes.specs.Laws.Decks.{Sections, sections, rules-listed, parts_in, encodes_same}
use Rattle.conversion_bytes.specs.Laws.Decks.{channels-copied, count-copied, count-new, encode-converted}
use Rattle.conversion_bytes.proofs.write.Goals as goal

places : (s : goal.After-copy-arg-1) → Sections s.args.deck.now s.args.counts
places s = sections s.args.deck.now s.args.counts s.requires.0 s.requires.1

places-2 : (s : goal.After-copy-arg-2-1) → Sections s.args.deck.now s.args.counts
places-2 s = sections s.args.deck.now s.args.counts s.requires.0 s.requires.1

places-3 : (s : goal.After-copy-arg-3-1) → Sections s.args.deck.now s.args.counts
places-3 s = sections s.args.deck.now s.args.counts s.requires.0 s.requires.1

places-4 : (s : goal.After-slice_known-1) → Sections s.args.deck.now s.args.counts
places-4 s = sections s.args.deck.now s.args.counts s.requires.0 s.requires.1

places-5 : (s : goal.After-slice_known-2-1) → Sections s.args.deck.now s.args.counts
places-5 s = sections s.args.deck.now s.args.counts s.requires.0 s.requires.1

places-6 : (s : goal.After-slice_known-3-1) → Sections s.args.deck.now s.args.counts
places-6 s = sections s.args.deck.now s.args.counts s.requires.0 s.requires.1

places-7 : (s : goal.After-slice_known-5-1) → Sections s.args.deck.now s.args.counts
places-7 s = sections s.args.deck.now s.args.counts s.requires.0 s.requires.1

places-8 : (s : goal.After-struct_known-1) → Sections s.args.deck.now s.args.counts
places-8 s = sections s.args.deck.now s.args.counts s.requires.0 s.requires.1

-- what is written, from each section on
abbrev part_bytes : goal.After-copy-arg-1 → List ℕ
part_bytes s = flat_map encode_part (converted s.requires.0).parts

-- what is written, from each section on
abbrev part_bytes-2 : goal.After-copy-arg-2-1 → List ℕ
part_bytes-2 s = flat_map encode_part (converted s.requires.0).parts

-- what is written, from each section on
abbrev part_bytes-3 : goal.After-copy-arg-3-1 → List ℕ
part_bytes-3 s = flat_map encode_part (converted s.requires.0).parts

-- what is written, from each section on
abbrev part_bytes-4 : goal.After-put_parts-arg-2-1 → List ℕ
part_bytes-4 s = flat_map encode_part (converted s.requires.0).parts

-- what is written, from each section on
abbrev part_bytes-5 : goal.After-put_rules-arg-2-1 → List ℕ
part_bytes-5 s = flat_map encode_part (converted s.requires.0).parts

abbrev third : goal.After-copy-arg-1 → List ℕ
third s = (N s.requires.0 ∷ []) ++ part_bytes s

abbrev third-2 : goal.After-copy-arg-2-1 → List ℕ
third-2 s = (N s.requires.0 ∷ []) ++ part_bytes-2 s

abbrev third-3 : goal.After-copy-arg-3-1 → List ℕ
third-3 s = (N s.requires.0 ∷ []) ++ part_bytes-3 s

abbrev third-4 : goal.After-put_parts-arg-2-1 → List ℕ
third-4 s = (N s.requires.0 ∷ []) ++ part_bytes-4 s

abbrev third-5 : goal.After-put_rules-arg-2-1 → List ℕ
third-5 s = (N s.requires.0 ∷ []) ++ part_bytes-5 s

abbrev rule_bytes : goal.After-copy-arg-1 → List ℕ
rule_bytes s = flat_map encode_rule (flat_map split s.requires.0.rules)

abbrev rule_bytes-2 : goal.After-copy-arg-2-1 → List ℕ
rule_bytes-2 s = flat_map encode_rule (flat_map split s.requires.0.rules)

abbrev rule_bytes-3 : goal.After-copy-arg-3-1 → List ℕ
rule_bytes-3 s = flat_map encode_rule (flat_map split s.requires.0.rules)

abbrev rule_bytes-4 : goal.After-put_parts-arg-2-1 → List ℕ
rule_bytes-4 s = flat_map encode_rule (flat_map split s.requires.0.rules)

abbrev rule_bytes-5 : goal.After-put_rules-arg-2-1 → List ℕ
rule_bytes-5 s = flat_map encode_rule (flat_map split s.requires.0.rules)

abbrev rule_bytes-6 : goal.After-slice_known-6-1 → List ℕ
rule_bytes-6 s = flat_map encode_rule (flat_map split s.requires.0.rules)

abbrev second : goal.After-copy-arg-1 → List ℕ
second s = (M (converted s.requires.0) ∷ []) ++ (rule_bytes s ++ third s)

abbrev second-2 : goal.After-copy-arg-2-1 → List ℕ
second-2 s = (M (converted s.requires.0) ∷ []) ++ (rule_bytes-2 s ++ third-2 s)

abbrev second-3 : goal.After-copy-arg-3-1 → List ℕ
second-3 s = (M (converted s.requires.0) ∷ []) ++ (rule_bytes-3 s ++ third-3 s)

abbrev second-4 : goal.After-put_parts-arg-2-1 → List ℕ
second-4 s = (M (converted s.requires.0) ∷ []) ++ (rule_bytes-4 s ++ third-4 s)

abbrev second-5 : goal.After-put_rules-arg-2-1 → List ℕ
second-5 s = (M (converted s.requires.0) ∷ []) ++ (rule_bytes-5 s ++ third-5 s)

room : (s : goal.After-copy-arg-1) → 0 + length (encode_channels s.requires.0 ++ second s) ≤ length s.args.out.now
room s = omega (arith, s.requires.3, ap length (encode-converted s.requires.0))

room-2 : (s : goal.After-copy-arg-2-1) → 0 + length (encode_channels s.requires.0 ++ second-2 s) ≤ length s.args.out.now
room-2 s = omega (arith, s.requires.3, ap length (encode-converted s.requires.0))

room-3 : (s : goal.After-copy-arg-3-1) → 0 + length (encode_channels s.requires.0 ++ second-3 s) ≤ length s.args.out.now
room-3 s = omega (arith, s.requires.3, ap length (encode-converted s.requires.0))

room-4 : (s : goal.After-put_parts-arg-2-1) → 0 + length (encode_channels s.requires.0 ++ second-4 s) ≤ length s.args.out.now
room-4 s = omega (arith, s.requires.3, ap length (encode-converted s.requires.0))

room-5 : (s : goal.After-put_rules-arg-2-1) → 0 + length (encode_channels s.requires.0 ++ second-5 s) ≤ length s.args.out.now
room-5 s = omega (arith, s.requires.3, ap length (encode-converted s.requires.0))

pub copy-channels-requires : goal.copy-channels-requires
copy-channels-requires c =
    let front = room-first (length c.args.out.now) 0 (encode_channels c.requires.0) (second c) (room c) in
    (omega arith, omega (arith, (places c).rules_at), omega (arith, front, c.requires.1.rules_at))

-- the channels
channels : (k : goal.After-copy-arg-2-1)
    → Written k.args.out.now 0 (encode_channels k.requires.0) k.copy-channels.new.out k.copy-channels.result
channels k =
    written_is (channels-copied k.args.deck.now k.args.counts k.requires.0 k.requires.1) k.copy-channels.ensures

-- the channels
channels-2 : (k : goal.After-copy-arg-3-1)
    → Written k.args.out.now 0 (encode_channels k.requires.0) k.copy-channels.new.out k.copy-channels.result
channels-2 k =
    written_is (channels-copied k.args.deck.now k.args.counts k.requires.0 k.requires.1) k.copy-channels.ensures

-- the channels
channels-3 : (k : goal.After-put_parts-arg-2-1)
    → Written k.args.out.now 0 (encode_channels k.requires.0) k.copy-channels.new.out k.copy-channels.result
channels-3 k =
    written_is (channels-copied k.args.deck.now k.args.counts k.requires.0 k.requires.1) k.copy-channels.ensures

-- the channels
channels-4 : (k : goal.After-put_rules-arg-2-1)
    → Written k.args.out.now 0 (encode_channels k.requires.0) k.copy-channels.new.out k.copy-channels.result
channels-4 k =
    written_is (channels-copied k.args.deck.now k.args.counts k.requires.0 k.requires.1) k.copy-channels.ensures

-- the channels
channels-5 : (k : goal.After-slice_known-6-1)
    → Written k.args.out.now 0 (encode_channels k.requires.0) k.copy-channels.new.out k.copy-channels.result
channels-5 k =
    written_is (channels-copied k.args.deck.now k.args.counts k.requires.0 k.requires.1) k.copy-channels.ensures

room-second : (k : goal.After-copy-arg-2-1)
    → k.copy-channels.result + length (second-2 k) ≤ length k.copy-channels.new.out
room-second k =
    room-behind (encode_channels k.requires.0) (second-2 k) (channels k) (room-2 k)

room-second-2 : (k : goal.After-copy-arg-3-1)
    → k.copy-channels.result + length (second-3 k) ≤ length k.copy-channels.new.out
room-second-2 k =
    room-behind (encode_channels k.requires.0) (second-3 k) (channels-2 k) (room-3 k)

room-second-3 : (k : goal.After-put_parts-arg-2-1)
    → k.copy-channels.result + length (second-4 k) ≤ length k.copy-channels.new.out
room-second-3 k =
    room-behind (encode_channels k.requires.0) (second-4 k) (channels-3 k) (room-4 k)

room-second-4 : (k : goal.After-put_rules-arg-2-1)
    → k.copy-channels.result + length (second-5 k) ≤ length k.copy-channels.new.out
room-second-4 k =
    room-behind (encode_channels k.requires.0) (second-5 k) (channels-4 k) (room-5 k)

pub copy-counted-requires : goal.copy-counted-requires
copy-counted-requires c =
    (omega arith, omega (arith, (places-2 c).rules, c.requires.2.size), omega (arith, room-second c))

-- the number of rules
counted : (k : goal.After-copy-arg-3-1)
    → Written k.copy-channels.new.out k.copy-channels.result (M (converted k.requires.0) ∷ []) k.copy-counted.new.out k.copy-counted.result
counted k =
    written_is (count-new k.args.deck.now k.args.counts k.requires.0 k.requires.1 k.args.numbers.now k.requires.2)
    k.copy-counted.ensures

-- the number of rules
counted-2 : (k : goal.After-put_parts-arg-2-1)
    → Written k.copy-channels.new.out k.copy-channels.result (M (converted k.requires.0) ∷ []) k.copy-counted.new.out k.copy-counted.result
counted-2 k =
    written_is (count-new k.args.deck.now k.args.counts k.requires.0 k.requires.1 k.args.numbers.now k.requires.2)
    k.copy-counted.ensures

-- the number of rules
counted-3 : (k : goal.After-put_rules-arg-2-1)
    → Written k.copy-channels.new.out k.copy-channels.result (M (converted k.requires.0) ∷ []) k.copy-counted.new.out k.copy-counted.result
counted-3 k =
    written_is (count-new k.args.deck.now k.args.counts k.requires.0 k.requires.1 k.args.numbers.now k.requires.2)
    k.copy-counted.ensures

-- the number of rules
counted-4 : (k : goal.After-slice_known-6-1)
    → Written k.copy-channels.new.out k.copy-channels.result (M (converted k.requires.0) ∷ []) k.copy-counted.new.out k.copy-counted.result
counted-4 k =
    written_is (count-new k.args.deck.now k.args.counts k.requires.0 k.requires.1 k.args.numbers.now k.requires.2)
    k.copy-counted.ensures

room-rules : (k : goal.After-copy-arg-3-1)
    → k.copy-counted.result + length (rule_bytes-3 k ++ third-3 k) ≤ length k.copy-counted.new.out
room-rules k =
    room-behind (M (converted k.requires.0) ∷ []) (rule_bytes-3 k ++ third-3 k) (counted k) (room-second-2 k)

room-rules-2 : (k : goal.After-put_parts-arg-2-1)
    → k.copy-counted.result + length (rule_bytes-4 k ++ third-4 k) ≤ length k.copy-counted.new.out
room-rules-2 k =
    room-behind (M (converted k.requires.0) ∷ []) (rule_bytes-4 k ++ third-4 k) (counted-2 k) (room-second-3 k)

room-rules-3 : (k : goal.After-put_rules-arg-2-1)
    → k.copy-counted.result + length (rule_bytes-5 k ++ third-5 k) ≤ length k.copy-counted.new.out
room-rules-3 k =
    room-behind (M (converted k.requires.0) ∷ []) (rule_bytes-5 k ++ third-5 k) (counted-3 k) (room-second-4 k)

pub put_rules-ruled-requires : goal.put_rules-ruled-requires
put_rules-ruled-requires c =
    let d = c.requires.0 in (
      d.rules,
      rules-listed c.args.deck.now c.args.counts d c.requires.1,
      room-first (length c.copy-counted.new.out) c.copy-counted.result (rule_bytes-5 c) (third-5 c) (room-rules-3 c),
    )

-- the rules
ruled : (k : goal.After-copy-arg-3-1)
    → Written k.copy-counted.new.out k.copy-counted.result (rule_bytes-3 k) k.put_rules-ruled.new.out k.put_rules-ruled.result
ruled k =
    k.put_rules-ruled.ensures k.requires.0.rules (rules-listed k.args.deck.now k.args.counts k.requires.0 k.requires.1)

-- the rules
ruled-2 : (k : goal.After-put_parts-arg-2-1)
    → Written k.copy-counted.new.out k.copy-counted.result (rule_bytes-4 k) k.put_rules-ruled.new.out k.put_rules-ruled.result
ruled-2 k =
    k.put_rules-ruled.ensures k.requires.0.rules (rules-listed k.args.deck.now k.args.counts k.requires.0 k.requires.1)

-- the rules
ruled-3 : (k : goal.After-slice_known-6-1)
    → Written k.copy-counted.new.out k.copy-counted.result (rule_bytes-6 k) k.put_rules-ruled.new.out k.put_rules-ruled.result
ruled-3 k =
    k.put_rules-ruled.ensures k.requires.0.rules (rules-listed k.args.deck.now k.args.counts k.requires.0 k.requires.1)

room-third : (k : goal.After-copy-arg-3-1)
    → k.put_rules-ruled.result + length (third-3 k) ≤ length k.put_rules-ruled.new.out
room-third k =
    room-behind (rule_bytes-3 k) (third-3 k) (ruled k) (room-rules k)

room-third-2 : (k : goal.After-put_parts-arg-2-1)
    → k.put_rules-ruled.result + length (third-4 k) ≤ length k.put_rules-ruled.new.out
room-third-2 k =
    room-behind (rule_bytes-4 k) (third-4 k) (ruled-2 k) (room-rules-2 k)

pub copy-to-requires : goal.copy-to-requires
copy-to-requires c =
    (omega arith, (places-3 c).parts_at, omega (arith, room-third c))

-- the number of parts
parted : (k : goal.After-put_parts-arg-2-1)
    → Written k.put_rules-ruled.new.out k.put_rules-ruled.result (N k.requires.0 ∷ []) k.copy-to.new.out k.copy-to.result
parted k =
    written_is (count-copied k.args.deck.now k.args.counts k.requires.0 k.requires.1) k.copy-to.ensures

-- the number of parts
parted-2 : (k : goal.After-slice_known-6-1)
    → Written k.put_rules-ruled.new.out k.put_rules-ruled.result (N k.requires.0 ∷ []) k.copy-to.new.out k.copy-to.result
parted-2 k =
    written_is (count-copied k.args.deck.now k.args.counts k.requires.0 k.requires.1) k.copy-to.ensures

pub put_parts-requires : goal.put_parts-requires
put_parts-requires c = (
  c.requires.0,
  parts_in c.args.deck.now c.args.counts c.requires.0 c.requires.1,
  c.requires.2,
  room-behind (N c.requires.0 ∷ []) (part_bytes-4 c) (parted c) (room-third-2 c),
)

pub returns : goal.returns
returns c d w =
    let e = c.requires.0 in
    let parts = c.put_parts.ensures e (parts_in c.args.deck.now c.args.counts e c.requires.1) c.requires.2 in
    let same = encodes_same c.args.deck.now c.args.counts e d c.requires.1 w in
    written_is (sym (encode-converted e) ∙ ap (λ x. encode (converted x)) same)
    (written-more (channels-5 c) (written-more (counted-4 c) (written-more (ruled-3 c) (written-more (parted-2 c) parts))))

pub shape_of-out : goal.shape_of-out
shape_of-out c =
    written-length (returns c c.requires.0 c.requires.1)

pub overflow_add-first_rule : goal.overflow_add-first_rule
overflow_add-first_rule c = omega (arith, (places-4 c).rules_at)

pub overflow_add-first_part : goal.overflow_add-first_part
overflow_add-first_part c = omega (arith, (places-4 c).parts_at)

pub overflow_mul-opening : goal.overflow_mul-opening
overflow_mul-opening c = omega (arith, (places-8 c).channels)

pub overflow_add-rules : goal.overflow_add-rules
overflow_add-rules c = omega (arith, (places-5 c).rules)

pub slice_bounds-put_rules-count : goal.slice_bounds-put_rules-count
slice_bounds-put_rules-count c = (places-6 c).rules_at

pub slice_bounds-put_rules-start : goal.slice_bounds-put_rules-start
slice_bounds-put_rules-start c = omega (arith, (places-6 c).rules_at)

pub slice_bounds-put_parts-count : goal.slice_bounds-put_parts-count
slice_bounds-put_parts-count c = (places-7 c).parts_at

pub slice_bounds-put_parts-start : goal.slice_bounds-put_parts-start
slice_bounds-put_parts-start c = omega (arith, (places-7 c).parts_at)
