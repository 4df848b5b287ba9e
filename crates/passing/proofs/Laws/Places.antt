-- Where reading finds a fault: at most as far as the bytes go, and so at most one byte behind the longest deck. Assumes nothing.
use Rattle.std.specs.Prelude.{ℕ, suc, ◌≤◌, ◌≡◌, List, take}
use Rattle.std.proofs.Common.{◌∙◌, arith, length-take}
use Rattle.refusals.specs.Outcome.{refused}
use Rattle.deck.specs.declared.Form.{Form}
use Rattle.deck.specs.Limits.{longest}
use Rattle.deck.specs.Layout.{read}
use Rattle.deck.proofs.Laws.Prefix.{read-prefix}
use Rattle.deck.proofs.Laws.Faults.{read-fault}

pub read-place : (f : Form) (s : List ℕ) (n p : ℕ) → read f s ≡ refused n p → p ≤ suc (longest f)
read-place f s n p e =
    omega (arith, (read-fault f (take (suc (longest f)) s) n p (read-prefix f s ∙ e)).within, length-take (suc (longest f)) s)
