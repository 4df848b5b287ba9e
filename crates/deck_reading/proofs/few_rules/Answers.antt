-- `deck_reading::few_rules` meets its contract: the byte behind the labels. Assumes nothing.
use Prim.Native.Nat.{ℕ, ◌+◌}
use mathlib.Core.Path.{◌≡◌, sym, ap, ◌∙◌}
use mathlib.Core.Bool.{false, false≢true}
use mathlib.Core.List.{List}
use native.Mathlib.Omega.{arith}
use lib.Dec.{leb}
use lib.ListN.{get_or}
use borrow.Author.Tests.{leb-true}
use Rattle.refusals.specs.Outcome.{accepted}
use Rattle.deck.specs.declared.Form.{Form}
use Rattle.deck.specs.Reader.{Got}
use Rattle.deck.specs.Marks.{Marked, marked_sections, rules_at, FewRules}
use Rattle.deck.proofs.Laws.RuleCount.{rule-count}
use Rattle.deck_reading.proofs.few_rules.Goals as goal

-- no deck: the answer is no
none : {s : List ℕ} → ((f : Form) (g : Got Marked) → marked_sections f s 0 ≡ accepted g → ⊥) → FewRules s false
none h = record { right = λ f g e. absurd (h f g e); low = λ e. absurd (false≢true e) }

pub returns-in_default : goal.returns-in_default
returns-in_default c = none (λ f g e. omega (arith, c.in_default.ensures.item.3, (rule-count f _ g e).0))

pub returns-in-Some-get : goal.returns-in-Some-get
returns-in-Some-get c =
    let s = c.args.deck.now in
    let channels : c.from.result ≡ get_or s 0 0 = c.from.ensures ∙ c.in-Some.ensures.item.3.1 0 in
    let told : c.from-in-Some-get.result ≡ rules_at s
    = c.from-in-Some-get.ensures ∙ c.in-Some-get.ensures.lookup.3.1 0 ∙ ap (λ k. get_or s (1 + k) 0) channels in
    record {
      right = λ f g e. ap (λ n. leb n 16) (told ∙ sym (rule-count f s g e).1);
      low = λ e. omega (arith, told, leb-true c.from-in-Some-get.result 16 e);
    }

pub returns-in-None : goal.returns-in-None
returns-in-None c =
    let s = c.args.deck.now in
    let channels : c.from.result ≡ get_or s 0 0 = c.from.ensures ∙ c.in-Some.ensures.item.3.1 0 in
    none (λ f g e. omega (arith, channels, c.in-None.ensures.lookup.3, (rule-count f s g e).0))
