-- `firing_rules::made` meets its contract: own and far channels are lent as the condition had them. Assumes nothing.
use native.Mathlib.Nat.{le-add_right}
use lib.Dec.{lit<}
use Rattle.firing_rules.specs.Laws.Sent.{field, fars-fit, own-stretch, far-stretch, to_low, action-known, made_so}
use Rattle.firing_rules.proofs.made.Goals as goal

pub overflow_mul-action : goal.overflow_mul-action
overflow_mul-action c = (field c.requires.0 6 (lit< tt)).row

pub overflow_add-action : goal.overflow_add-action
overflow_add-action c = (field c.requires.0 6 (lit< tt)).place

pub offset_bounds-rules-r : goal.offset_bounds-rules-r
offset_bounds-rules-r c = (field c.requires.0 6 (lit< tt)).bytes

pub bounds-rules-r : goal.bounds-rules-r
bounds-rules-r c = (field c.requires.0 6 (lit< tt)).inside

pub overflow_mul-kind : goal.overflow_mul-kind
overflow_mul-kind c = (field c.requires.0 3 (lit< tt)).row

pub overflow_add-kind : goal.overflow_add-kind
overflow_add-kind c = (field c.requires.0 3 (lit< tt)).place

pub offset_bounds-rules-r-2 : goal.offset_bounds-rules-r-2
offset_bounds-rules-r-2 c = (field c.requires.0 3 (lit< tt)).bytes

pub bounds-rules-r-2 : goal.bounds-rules-r-2
bounds-rules-r-2 c = (field c.requires.0 3 (lit< tt)).inside

pub overflow_mul-fars : goal.overflow_mul-fars
overflow_mul-fars c = fars-fit c.requires.0

pub overflow_mul-from : goal.overflow_mul-from
overflow_mul-from c = (own-stretch c.requires.0).start

pub overflow_add-end : goal.overflow_add-end
overflow_add-end c = (own-stretch c.requires.0).end

pub offset_bounds-values-from : goal.offset_bounds-values-from
offset_bounds-values-from c = (own-stretch c.requires.0).bytes

pub slice_bounds-own-count : goal.slice_bounds-own-count
slice_bounds-own-count c = le-add_right _ _

pub slice_bounds-own-start : goal.slice_bounds-own-start
slice_bounds-own-start c = le-add_right _ _

pub slice_bounds-own-end : goal.slice_bounds-own-end
slice_bounds-own-end c = (own-stretch c.requires.0).inside

pub overflow_mul-far_from : goal.overflow_mul-far_from
overflow_mul-far_from c = (far-stretch c.requires.0).start

pub overflow_add-far_end : goal.overflow_add-far_end
overflow_add-far_end c = (far-stretch c.requires.0).end

pub offset_bounds-values-far_from : goal.offset_bounds-values-far_from
offset_bounds-values-far_from c = (far-stretch c.requires.0).bytes

pub slice_bounds-far-count : goal.slice_bounds-far-count
slice_bounds-far-count c = le-add_right _ _

pub slice_bounds-far-start : goal.slice_bounds-far-start
slice_bounds-far-start c = le-add_right _ _

pub slice_bounds-far-end : goal.slice_bounds-far-end
slice_bounds-far-end c = (far-stretch c.requires.0).inside

pub evaluate-requires : goal.evaluate-requires
evaluate-requires c = let w = c.requires.0 in (action-known w, to_low w)

pub returns : goal.returns
returns c = made_so c.requires.0 c.requires.1 c.evaluate.result c.evaluate.ensures
