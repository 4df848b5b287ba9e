-- `deck_reading::front_at` meets its contract: count of channels, labels, count of rules and rules, one after the other. Assumes nothing.
use mathlib.Core.Path.{refl}
use native.Mathlib.Omega.{arith}
use Rattle.std.proofs.Common.{Ok, Err}
use Rattle.deck.proofs.Laws.Turns.{got-value, number-below, kept-below, hands_on_kept}
use Rattle.deck.proofs.Laws.RuleCount.{count-read}
use Rattle.deck.proofs.Laws.DeckSteps.{no-channels, no-labels, no-rules, front_read}
use Rattle.deck_reading.proofs.front_at.Goals as goal

pub returns-in_err-channels : goal.returns-in_err-channels
returns-in_err-channels c =
    hands_on_kept _ _ _ _ _ c.from_residual.ensures.1 (no-channels c.args.form c.args.s.now c.in_err-channels.ensures)

pub returns-in_err-rules_at : goal.returns-in_err-rules_at
returns-in_err-rules_at c =
    let a = c.args in
    let channels = c.in_ok-channels.field-0 in
    hands_on_kept _ _ _ _ _ c.from_residual-in_err-rules_at.ensures.1
    (no-labels a.form a.s.now channels.value channels.next
    (got-value a.s.now channels.next channels.value c.in_ok-channels.ensures)
    c.in_err-rules_at.ensures)

pub returns-in_err-rules : goal.returns-in_err-rules
returns-in_err-rules c =
    let a = c.args in
    let channels = c.in_ok-channels.field-0 in
    let labels = c.in_ok-rules_at.ensures in
    hands_on_kept _ _ _ _ _ c.from_residual-in_err-rules.ensures.1
    (no-rules a.form a.s.now channels.value channels.next
    (got-value a.s.now channels.next channels.value c.in_ok-channels.ensures)
    labels.0 c.in_ok-rules_at.rules_at labels.1
    c.in_err-rules.ensures)

pub rules_at-requires : goal.rules_at-requires
rules_at-requires c =
    let s = c.args.s.now in
    let channels = c.in_ok-channels.field-0 in
    let got = got-value s channels.next channels.value c.in_ok-channels.ensures in
    let rules = c.in_ok-rules.field-0 in
    let got_rules = got-value s rules.next rules.value c.in_ok-rules.ensures in
    let told = (count-read s _ got _ c.in_ok-rules_at.ensures.1 _ got_rules).1 in
    let few = kept-below 0 65 s c.in_ok-rules_at.rules_at rules.next rules.value c.in_ok-rules.ensures in (
      c.in_ok-rules.ensures.2,
      omega (arith, number-below 1 33 s 0 _ got),
      omega (arith, told, c.requires (omega (arith, told, few))),
    )

pub returns-in_err-next : goal.returns-in_err-next
returns-in_err-next c =
    let a = c.args in
    let channels = c.in_ok-channels.field-0 in
    let labels = c.in_ok-rules_at.ensures in
    let rules = c.in_ok-rules.field-0 in
    hands_on_kept _ _ _ _ _ c.from_residual-in_err-next.ensures.1
    (front_read a.form a.s.now channels.value channels.next
    (got-value a.s.now channels.next channels.value c.in_ok-channels.ensures)
    labels.0 c.in_ok-rules_at.rules_at labels.1
    rules.value rules.next
    (got-value a.s.now rules.next rules.value c.in_ok-rules.ensures)
    (λ _. Unit {0}) (λ _. Unit {0}) (Err c.in_err-next.field-0.0)
    (λ ms p. tt)
    c.in_err-next.ensures)

pub returns : goal.returns
returns c =
    let a = c.args in
    let channels = c.in_ok-channels.field-0 in
    let labels = c.in_ok-rules_at.ensures in
    let rules = c.in_ok-rules.field-0 in
    let got = got-value a.s.now channels.next channels.value c.in_ok-channels.ensures in
    let below = number-below 1 33 a.s.now 0 _ got in
    let few = kept-below 0 65 a.s.now c.in_ok-rules_at.rules_at rules.next rules.value c.in_ok-rules.ensures in
    front_read a.form a.s.now channels.value channels.next got
    labels.0 c.in_ok-rules_at.rules_at labels.1
    rules.value rules.next
    (got-value a.s.now rules.next rules.value c.in_ok-rules.ensures)
    _ _ (Ok c.in_ok-next.next)
    (λ ms p. (refl, refl, refl, omega (arith, below), omega (arith, few), p))
    c.in_ok-next.ensures
