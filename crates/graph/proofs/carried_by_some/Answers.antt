-- `graph::carried_by_some` meets its contract: the rules that a part below `p` carries are in the set. Assumes nothing.
use Prim.Native.Nat.{◌*◌}
use mathlib.Core.Path.{sym, ap, ◌∙◌}
use mathlib.Core.Bool.{◌||◌}
use lib.ListN.{get_or}
use Rattle.lists.specs.Lists.{lists}
use Rattle.lists.specs.Bits.{bit}
use Rattle.lists.specs.Laws.Bits.{bit-or, bit-zero}
use Rattle.lists.specs.Laws.Agreement.{any_of-more}
use Rattle.graph.specs.Masks.{carried_at}
use Rattle.graph.proofs.carried_by_some.Goals as goal

pub loop-p-init : goal.loop-p-init
unfolding carried_at lists
loop-p-init c = record { each = λ r. bit-zero r }

pub loop-p-preserved : goal.loop-p-preserved
unfolding carried_at
loop-p-preserved c =
    let parts = c.args.parts.now in
    let i = c.loop-p in
    record {
      each = λ r.
          bit-or i.set (get_or parts (4 * i.p) 0) r
          ∙ ap (λ b. b || bit (get_or parts (4 * i.p) 0) r) (i.invariant.each r)
          ∙ sym (any_of-more (λ p. bit (get_or parts (4 * p) 0) r) i.p);
    }
