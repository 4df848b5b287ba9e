-- `passing_tests::judge` meets its contract: the pass, and then the other tests. Assumes nothing.
use Rattle.std.specs.Prelude.{Result, Ok}
use Prim.Native.Nat.{ℕ}
use mathlib.Core.List.{List}
use mathlib.Core.Path.{◌≡◌, subst}
use lib.ListN.{replicate}
use Rattle.refusals.specs.declared.Fault.{Fault}
use Rattle.deck.specs.declared.Deck as Counted
use Rattle.deck.specs.declared.Form.{Form}
use Rattle.deck.specs.Marks.{Loads}
use Rattle.passing.proofs.Laws.Passing.{passing-reads}
use Rattle.passing.proofs.Laws.Judged.{loaded-tabled, loaded-read, loaded-memo, loaded-wrong, wrong-place, bytes-known}
use Rattle.passing_tests.proofs.judge.Goals as goal

-- what the pass answered: the table of the parts began as zeros
told : (f : Form) (s rules rules₀ parts : List ℕ) {parts₀ : List ℕ} (r : Result Counted.Deck Fault) → parts₀ ≡ replicate 64 0
    → Loads f s rules rules₀ parts parts₀ r → Loads f s rules rules₀ parts (replicate 64 0) r
told f s rules rules₀ parts r e w = subst (λ ps. Loads f s rules rules₀ parts ps r) e w

pub judge_whole-requires : goal.judge_whole-requires
judge_whole-requires c =
    let a = c.args in
    let w = told a.form a.deck.now _ _ _ (Ok c.in-Ok.counts) c.requires.1 c.in-Ok.ensures in (
      loaded-tabled a.form a.deck.now _ _ _ _ c.requires.0 w (bytes-known a.deck.now c.type_inv.deck),
      loaded-memo a.form a.deck.now _ _ _ _ w c.requires.2,
    )

pub declined-requires : goal.declined-requires
declined-requires c =
    let a = c.args in wrong-place a.form a.deck.now _ _ (loaded-wrong a.form a.deck.now _ _ c.in-Err.ensures)

pub returns-in-Ok : goal.returns-in-Ok
returns-in-Ok c =
    let a = c.args in
    let w = told a.form a.deck.now _ _ _ (Ok c.in-Ok.counts) c.requires.1 c.in-Ok.ensures in
    c.judge_whole.ensures a.form (loaded-read a.form a.deck.now _ _ _ _ w)

pub returns-in-Err : goal.returns-in-Err
returns-in-Err c =
    let a = c.args in
    rw (c.declined.ensures.0, c.declined.ensures.1)
    (passing-reads a.form a.deck.now _ _ (loaded-wrong a.form a.deck.now _ _ c.in-Err.ensures))
