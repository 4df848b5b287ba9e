-- `conversion_bytes::number` meets its contract: the rules stand behind their count. Assumes nothing.
use native.Mathlib.Omega.{arith}
use Rattle.conversion_bytes.specs.Laws.Decks.{Sections, sections, rules-listed, numbered}
use Rattle.conversion_bytes.proofs.number.Goals as goal

places : (s : goal.After-number_rules-arg-2-1) → Sections s.args.deck.now s.args.counts
places s = sections s.args.deck.now s.args.counts s.requires.1.0 s.requires.1.1

places-2 : (s : goal.After-struct_known-1) → Sections s.args.deck.now s.args.counts
places-2 s = sections s.args.deck.now s.args.counts s.requires.1.0 s.requires.1.1

pub number_rules-requires : goal.number_rules-requires
number_rules-requires c =
    let d = c.requires.1.0 in
    (c.requires.0, (places c).rules, (d.rules, rules-listed c.args.deck.now c.args.counts d c.requires.1.1))

pub returns : goal.returns
returns c d w =
    numbered c.args.deck.now c.args.counts d w _
    (c.number_rules.ensures d.rules (rules-listed c.args.deck.now c.args.counts d w))

pub overflow_add-first : goal.overflow_add-first
overflow_add-first c = omega (arith, (places-2 c).rules_at)

pub slice_bounds-number_rules-count : goal.slice_bounds-number_rules-count
slice_bounds-number_rules-count c = (places-2 c).rules_at

pub slice_bounds-number_rules-start : goal.slice_bounds-number_rules-start
slice_bounds-number_rules-start c = omega (arith, (places-2 c).rules_at)
