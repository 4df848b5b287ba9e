-- `firing_rules::sends` meets its contract: own and far channels are stretches of the values, as long as the rule's kind has them. Assumes
-- nothing.
use mathlib.Core.Path.{sym, ◌∙◌}
use lib.Dec.{lit<}
use Rattle.firing_rules.specs.Laws.Sent.{adds_none, adds-some, field, fars-fit, own-stretch, far-stretch, condition-known}
use Rattle.firing_rules.specs.Laws.Sent.{condition-value, action-inside, action-length}
use Rattle.firing_rules.proofs.sends.Goals as goal

pub overflow_mul-action : goal.overflow_mul-action
overflow_mul-action c = (field c.requires 6 (lit< tt)).row

pub overflow_add-action : goal.overflow_add-action
overflow_add-action c = (field c.requires 6 (lit< tt)).place

pub offset_bounds-rules-r : goal.offset_bounds-rules-r
offset_bounds-rules-r c = (field c.requires 6 (lit< tt)).bytes

pub bounds-rules-r : goal.bounds-rules-r
bounds-rules-r c = (field c.requires 6 (lit< tt)).inside

pub bounds-rig-action : goal.bounds-rig-action
bounds-rig-action c = action-inside c.requires

pub returns-then-rig-action-eq0 : goal.returns-then-rig-action-eq0
returns-then-rig-action-eq0 c = adds_none _ _ _ _ (sym (action-length c.requires) ∙ c.if-rig-action-eq0.true)

pub overflow_mul-condition : goal.overflow_mul-condition
overflow_mul-condition c = (field c.requires 5 (lit< tt)).row

pub overflow_add-condition : goal.overflow_add-condition
overflow_add-condition c = (field c.requires 5 (lit< tt)).place

pub offset_bounds-rules-r-2 : goal.offset_bounds-rules-r-2
offset_bounds-rules-r-2 c = (field c.requires 5 (lit< tt)).bytes

pub bounds-rules-r-2 : goal.bounds-rules-r-2
bounds-rules-r-2 c = (field c.requires 5 (lit< tt)).inside

pub overflow_mul-kind : goal.overflow_mul-kind
overflow_mul-kind c = (field c.requires 3 (lit< tt)).row

pub overflow_add-kind : goal.overflow_add-kind
overflow_add-kind c = (field c.requires 3 (lit< tt)).place

pub offset_bounds-rules-r-3 : goal.offset_bounds-rules-r-3
offset_bounds-rules-r-3 c = (field c.requires 3 (lit< tt)).bytes

pub bounds-rules-r-3 : goal.bounds-rules-r-3
bounds-rules-r-3 c = (field c.requires 3 (lit< tt)).inside

pub overflow_mul-fars : goal.overflow_mul-fars
overflow_mul-fars c = fars-fit c.requires

pub overflow_mul-own : goal.overflow_mul-own
overflow_mul-own c = (own-stretch c.requires).start

pub overflow_mul-far : goal.overflow_mul-far
overflow_mul-far c = (far-stretch c.requires).start

pub truth_from-requires : goal.truth_from-requires
truth_from-requires c = let w = c.requires in
    ((own-stretch w).inside, (far-stretch w).inside, condition-known w)

pub returns : goal.returns
returns c = let w = c.requires in
    condition-value w c.truth_from.ensures ∙ adds-some _ _ _ _ (λ z. c.if-rig-action-eq0.false (action-length w ∙ z))
