-- `passing_tests::judge_whole` meets its contract: 6, and then 7 and 8. Assumes nothing.
use mathlib.Core.Path.{sym}
use Rattle.passing.specs.Tabled.{deck_of}
use Rattle.passing.proofs.Laws.Tabled.{tabled-kept}
use Rattle.passing.proofs.Laws.Judged.{rules-known, outside-found, outside-counted, outside-refused, rules-judged}
use Rattle.passing_tests.proofs.judge_whole.Goals as goal

pub returns-in-Some : goal.returns-in-Some
returns-in-Some c form read =
    let a = c.args in
    let p = outside-found (deck_of a.deck.now) _ (sym c.in-Some.ensures.0) in
    rw (c.declined.ensures.0, c.declined.ensures.1)
    (outside-refused a.deck.now a.rules.now a.parts.now a.counts c.requires.0.tabled form read _ p c.in-Some.ensures.1)

pub judge_rules-requires : goal.judge_rules-requires
judge_rules-requires c =
    (rules-known _ _ _ _ (tabled-kept c.note_listeners.ensures.0 c.requires.0.tabled) c.note_listeners.ensures.1, c.requires.1)

pub returns : goal.returns
returns c form read =
    let a = c.args in
    let t = tabled-kept c.note_listeners.ensures.0 c.requires.0.tabled in
    let none = outside-found (deck_of a.deck.now) _ (sym c.in_default.ensures) in
    let six = outside-counted a.deck.now _ a.parts.now a.counts t form read (sym none) in
    rules-judged a.deck.now _ a.parts.now a.counts t form read six _ c.requires.0.bytes c.judge_rules.result
    c.judge_rules.ensures
