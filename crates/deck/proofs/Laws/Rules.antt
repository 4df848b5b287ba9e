-- The readers of a rule and of a part are exact. Assumes nothing.
use Rattle.std.specs.Prelude.{ℕ, zero, suc, ◌<◌, ◌≡◌, refl, Bool, true, false, ◌&&◌, leb, ltb, eqb, length}
use Rattle.std.proofs.Common.{sym, ◌∙◌, arith, ltb-true, eqb-true, eq-eqb}
use mathlib.Core.List.{[], ◌∷◌, ◌++◌, append-nil, append_assoc, flat_map}
use Rattle.lists.specs.Lists.{all_of}
use Rattle.lists.specs.Laws.Booleans.{and_both, and_left, and_right, five, from-five}
use Rattle.expression.specs.Encoding.{encode_value, encode_truth, fits, good_truth}
use Rattle.expression.proofs.Laws.Whole.{whole-truth}
use Rattle.deck.specs.declared.Form.{Form}
use Rattle.deck.specs.Limits.{limits}
use Rattle.deck.specs.Deck.{Rule, Part}
use Rattle.deck.specs.Reader.{readers}
use Rattle.deck.specs.Layout.{truths, own_only, task_scope, rule, part, layouts}
use Rattle.deck.specs.Encoding.{encode_expression, encode_action, kind_byte, encode_rule, encode_part}
use Rattle.deck.specs.Encoding.{in_range, is_rising, good_action, good_condition, good_rule, good_part, suits_rule}
use Rattle.deck.proofs.Laws.Exact.{Exact, Any, Coded, exact-by, give-exact, then-exact}
use Rattle.deck.proofs.Laws.Readers.{number-exact, repeats-exact, rising-exact, value-exact}
use Rattle.deck.proofs.Laws.Expressions.{range, below-range, zero-range, expression-exact}
use Rattle.deck.proofs.Laws.Actions.{action-exact, default-exact}

-- ---- the encodings, one thing after the other

encode-rule : (r : Rule)
    → encode_rule r
    ≡ length r.events
    ∷ (r.events
    ++ (encode_action r.default
    ++ (kind_byte r.everywhere ∷ (encode_expression (encode_truth r.condition) ++ encode_action r.action))))
unfolding encode_rule
encode-rule r =
    let k = kind_byte r.everywhere ∷ encode_expression (encode_truth r.condition) in
    append_assoc ((length r.events ∷ r.events) ++ encode_action r.default) k (encode_action r.action)
    ∙ append_assoc (length r.events ∷ r.events) (encode_action r.default) (k ++ encode_action r.action)

pub encode-part : (p : Part)
    → encode_part p ≡ flat_map encode_value p.opening ++ (length p.carried ∷ (p.carried ++ encode_expression (encode_truth p.limit)))
unfolding encode_part
encode-part p =
    append_assoc (flat_map encode_value p.opening) (length p.carried ∷ p.carried) (encode_expression (encode_truth p.limit))

-- the kind byte is 0 or 1
kind-byte : (k : ℕ) → k < 2 → kind_byte (eqb k 1) ≡ k
kind-byte zero h = refl
kind-byte (suc zero) h = refl
kind-byte (suc (suc k)) h = absurd (omega arith)

byte-kind : (e : Bool) → eqb (kind_byte e) 1 ≡ e
byte-kind true = refl
byte-kind false = refl

kind-below : (e : Bool) → ltb (kind_byte e) 2 ≡ true
kind-below true = refl
kind-below false = refl

-- ---- the readers

pub rule-exact : (f : Form) (R : ℕ) → Exact Any (rule f R) (Coded encode_rule (λ r. (good_rule R r && suits_rule f r) ≡ true))
unfolding layouts readers good_rule good_condition suits_rule
rule-exact f R =
    exact-by
    (then-exact (number-exact 1 (suc limits.events)) λ n.
    then-exact (rising-exact n 0 R) λ events.
    then-exact (default-exact f R) λ default.
    then-exact (number-exact 0 2) λ kind.
    then-exact (expression-exact (truths (task_scope R (eqb kind 1))) (whole-truth (task_scope R (eqb kind 1)))) λ condition.
    then-exact (action-exact (task_scope R (eqb kind 1))) λ act.
    give-exact (record { events = events; default = default; everywhere = eqb kind 1; condition = condition; action = act }))
    (λ at r w _ p.
    let events = p.4 in
    let default = events.4 in
    let kind = default.4 in
    let condition = kind.4 in
    let act = condition.4 in
    let scope = task_scope R (eqb kind.0 1) in
    let is : kind_byte (eqb kind.0 1) ≡ kind.0 = kind-byte kind.0 (ltb-true kind.0 2 (sym (below-range 2 kind.0) ∙ kind.3)) in
    let few : in_range 1 limits.events (length events.0) ≡ true
    = rw events.3.0 (sym (range 1 limits.events p.0) ∙ p.3) in
    let sound = good_action (own_only R) default.0 in
    rw act.4.0 (
      and_both
          (from-five (in_range 1 limits.events (length events.0)) (is_rising 0 R events.0) sound
          (good_condition scope condition.0) (good_action scope act.0)
          (few, events.3.1, and_left sound _ default.3, and_both condition.3.0 condition.3.1, act.3))
          (and_right sound _ default.3),
      rw (
        encode-rule
            (record { events = events.0; default = default.0; everywhere = eqb kind.0 1; condition = condition.0; action = act.0 }),
        is,
        events.3.0,
      )
          (rw (p.2, events.2, default.2, kind.2, condition.2, act.2, act.4.1, append-nil (encode_action act.0))),
    ))
    (λ at r w q.
    let scope = task_scope R r.everywhere in
    let few = in_range 1 limits.events (length r.events) in
    let good = five few (is_rising 0 R r.events) (good_action (own_only R) r.default) (good_condition scope r.condition)
    (good_action scope r.action) (and_left (good_rule R r) _ q.0) in
    let act = encode_action r.action in
    let condition = encode_expression (encode_truth r.condition) ++ act in
    let kind = kind_byte r.everywhere ∷ condition in
    let default = encode_action r.default ++ kind in (
      length r.events,
      r.events ++ default,
      q.1 ∙ encode-rule r,
      range 1 limits.events (length r.events) ∙ good.0,
      (
        r.events,
        default,
        refl,
        (refl, good.1),
        (
          r.default,
          kind,
          refl,
          and_both good.2 (and_right (good_rule R r) _ q.0),
          (
            kind_byte r.everywhere,
            condition,
            refl,
            below-range 2 (kind_byte r.everywhere) ∙ kind-below r.everywhere,
            rw (byte-kind r.everywhere) (
              r.condition,
              act,
              refl,
              (and_left (good_truth scope r.condition) _ good.3, and_right (good_truth scope r.condition) _ good.3),
              (r.action, [], sym (append-nil act), good.4, (refl, refl)),
            ),
          ),
        ),
      ),
    ))

pub part-exact : (R M : ℕ) → Exact Any (part R M) (Coded encode_part (λ p. good_part R M p ≡ true))
unfolding layouts readers good_part good_condition
part-exact R M =
    exact-by
    (then-exact (repeats-exact value-exact R) λ opening.
    then-exact (number-exact 0 (suc M)) λ n.
    then-exact (rising-exact n 0 M) λ carried.
    then-exact (expression-exact (truths (own_only R)) (whole-truth (own_only R))) λ limit.
    give-exact (record { opening = opening; carried = carried; limit = limit }))
    (λ at r w _ p.
    let count = p.4 in
    let carried = count.4 in
    let limit = carried.4 in
    rw limit.4.0 (
      from-five (eqb (length p.0) R) (all_of fits p.0) (leb (length carried.0) M) (is_rising 0 M carried.0)
          (good_condition (own_only R) limit.0) (
            eq-eqb (length p.0) R p.3.0,
            p.3.1,
            rw carried.3.0 (sym (zero-range M count.0) ∙ count.3),
            carried.3.1,
            and_both limit.3.0 limit.3.1,
          ),
      rw (encode-part (record { opening = p.0; carried = carried.0; limit = limit.0 }), carried.3.0)
          (rw (p.2, count.2, carried.2, limit.2, limit.4.1, append-nil (encode_expression (encode_truth limit.0)))),
    ))
    (λ at r w q.
    let good =
    five (eqb (length r.opening) R) (all_of fits r.opening) (leb (length r.carried) M) (is_rising 0 M r.carried)
    (good_condition (own_only R) r.limit) q.0 in
    let limit = encode_expression (encode_truth r.limit) in (
      r.opening,
      length r.carried ∷ (r.carried ++ limit),
      q.1 ∙ encode-part r,
      (eqb-true (length r.opening) R good.0, good.1),
      (
        length r.carried,
        r.carried ++ limit,
        refl,
        zero-range M (length r.carried) ∙ good.2,
        (
          r.carried,
          limit,
          refl,
          (refl, good.3),
          (
            r.limit,
            [],
            sym (append-nil limit),
            (and_left (good_truth (own_only R) r.limit) _ good.4, and_right (good_truth (own_only R) r.limit) _ good.4),
            (refl, refl),
          ),
        ),
      ),
    ))
