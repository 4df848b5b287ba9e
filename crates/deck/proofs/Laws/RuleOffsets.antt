-- Laws of reading a rule's task, and a rule, at an offset of the whole deck, with what the code keeps of them. Assumes nothing.
use Rattle.std.specs.Prelude.{ℕ, zero, suc, ◌*◌, ◌<◌, ◌≡◌, true, List, [], ◌∷◌, drop, Result}
use Rattle.std.proofs.Math.Path.{refl, subst}
use Rattle.std.proofs.Common.{sym, ap, ◌∙◌, arith, mul-zero, mul-one}
use Rattle.std.proofs.Math.Dec.{eqb}
use Rattle.lists.specs.Bits.{mask_of}
use Rattle.refusals.specs.Outcome.{refused, accepted}
use Rattle.refusals.specs.declared.Fault.{Fault}
use Rattle.expression.specs.Syntax.{Truth}
use Rattle.expression.specs.Reading.{Scope}
use Rattle.deck.specs.declared.Form.{Form}
use Rattle.deck.specs.Deck.{Action, targets}
use Rattle.deck.specs.Reader.{number, rising, readers}
use Rattle.deck.specs.Layout.{truths, expression, own_only, own_and_far, task_scope, action, default_action}
use Rattle.deck.specs.Encoding.{kind_byte}
use Rattle.deck.specs.Marks.{Reads, scope_of, expression_for, MarkedTask, marked_task, MarkedRule, marked_rule, rule_row}
use Rattle.deck.proofs.Laws.Turns.{number-below}
use Rattle.deck.proofs.Laws.Offsets.{got_to, then_next, then-fault, reads-last}

-- ---- the kind, the condition and the action

-- what the code keeps of a task: its kind, its offsets, and its targets as a set
abbrev pub KeepsTask : ℕ → ℕ → ℕ → ℕ → MarkedTask → Type 0
KeepsTask kind condition action mask m =
    (kind ≡ kind_byte m.everywhere) × (condition ≡ m.condition_at) × (action ≡ m.action_at) × (mask ≡ mask_of (targets m.action))

kind-byte : (kind : ℕ) → kind < 2 → kind ≡ kind_byte (eqb kind 1)
kind-byte zero h = refl
kind-byte (suc zero) h = refl
kind-byte (suc (suc k)) h = absurd (omega arith)

-- own channels, and as many far ones as the kind says
scope-by-kind : (R kind : ℕ) → kind < 2 → scope_of R (R * kind) ≡ task_scope R (eqb kind 1)
unfolding scope_of task_scope own_only own_and_far
scope-by-kind R zero h = ap (scope_of R) (mul-zero R)
scope-by-kind R (suc zero) h = ap (scope_of R) (mul-one R)
scope-by-kind R (suc (suc k)) h = absurd (omega arith)

pub task-fault : (R : ℕ) (s : List ℕ) (at : ℕ) {n p : ℕ} → number 0 2 s at ≡ refused n p → marked_task R s at ≡ refused n p
unfolding marked_task readers
task-fault R s at e = then-fault _ e

-- the kind was read, and the condition stands at `from`
module _ (R : ℕ) (s : List ℕ) (at kind from : ℕ) (e : number 0 2 (drop at s) at ≡ accepted (got_to s kind from)) where
  small : kind < 2
  small = number-below 0 2 (drop at s) at (got_to s kind from) e

  pub condition-fault : {n p : ℕ} → expression_for true (scope_of R (R * kind)) (drop from s) from ≡ refused n p
      → marked_task R (drop at s) at ≡ refused n p
  unfolding marked_task expression_for readers
  condition-fault {n} {p} f =
      then_next _ e
      ∙ then-fault _ (subst (λ sc. expression (truths sc) (drop from s) from ≡ refused n p) (scope-by-kind R kind small) f)

  pub task-reads : (condition : Truth) (to mask : ℕ) (step : Result ℕ Fault)
      → expression_for true (scope_of R (R * kind)) (drop from s) from ≡ accepted (got_to s condition to)
      → Reads s (action (scope_of R (R * kind)) (drop to s) to) (λ a. mask ≡ mask_of (targets a)) step
      → Reads s (marked_task R (drop at s) at) (KeepsTask kind from to mask) step
  unfolding marked_task expression_for readers
  task-reads condition to mask step f r =
      let same = scope-by-kind R kind small in
      let sc : Scope = task_scope R (eqb kind 1) in
      let c : expression (truths sc) (drop from s) from ≡ accepted (got_to s condition to)
      = subst (λ sc. expression (truths sc) (drop from s) from ≡ accepted (got_to s condition to)) same f in
      let a : Reads s (action sc (drop to s) to) (λ a. mask ≡ mask_of (targets a)) step
      = subst (λ sc. Reads s (action sc (drop to s) to) (λ a. mask ≡ mask_of (targets a)) step) same r in
      let task : Action → MarkedTask
      = λ a. record { everywhere = eqb kind 1; condition = condition; condition_at = from; action = a; action_at = to } in
      subst (λ o. Reads s o (KeepsTask kind from to mask) step) (sym (then_next _ e ∙ then_next _ c))
      (reads-last s (action sc (drop to s) to) (λ a. mask ≡ mask_of (targets a)) task (KeepsTask kind from to mask) step
      (λ a m. (kind-byte kind small, refl, refl, m))
      a)

-- ---- a rule

pub rule-fault : (form : Form) (R : ℕ) (s : List ℕ) (at : ℕ) {n p : ℕ} → number 1 9 s at ≡ refused n p
    → marked_rule form R s at ≡ refused n p
unfolding marked_rule readers
rule-fault form R s at e = then-fault _ e

-- the count was read, and the events stand at `from`
module _ (form : Form) (R : ℕ) (s : List ℕ) (at count from : ℕ) (e : number 1 9 (drop at s) at ≡ accepted (got_to s count from)) where
  pub events-fault : {n p : ℕ} → rising count 0 R (drop from s) from ≡ refused n p → marked_rule form R (drop at s) at ≡ refused n p
  unfolding marked_rule readers
  events-fault f = then_next _ e ∙ then-fault _ f

  -- the events were read, and the default action stands at `to`
  module _ (events : List ℕ) (to : ℕ) (f : rising count 0 R (drop from s) from ≡ accepted (got_to s events to)) where
    pub default-fault : {n p : ℕ} → default_action form R (drop to s) to ≡ refused n p → marked_rule form R (drop at s) at ≡ refused n p
    unfolding marked_rule readers
    default-fault g = then_next _ e ∙ then_next _ f ∙ then-fault _ g

    -- the row that the code makes, with the sets of the events and of the default action's targets
    pub rule-reads : (default : Action) (next es ds kind condition act mask : ℕ) (step : Result ℕ Fault)
        → es ≡ mask_of events → ds ≡ mask_of (targets default)
        → default_action form R (drop to s) to ≡ accepted (got_to s default next)
        → Reads s (marked_task R (drop next s) next) (KeepsTask kind condition act mask) step
        → Reads s (marked_rule form R (drop at s) at) (λ m. (es ∷ ds ∷ mask ∷ kind ∷ to ∷ condition ∷ act ∷ 0 ∷ []) ≡ rule_row m) step
    unfolding marked_rule rule_row readers
    rule-reads default next es ds kind condition act mask step x y g r =
        let Row : MarkedRule → Type 0 = λ m. (es ∷ ds ∷ mask ∷ kind ∷ to ∷ condition ∷ act ∷ 0 ∷ []) ≡ rule_row m in
        subst (λ o. Reads s o Row step) (sym (then_next _ e ∙ then_next _ f ∙ then_next _ g))
        (reads-last s (marked_task R (drop next s) next) (KeepsTask kind condition act mask)
        (λ t. record { events = events; default = default; default_at = to; task = t }) Row step
        (λ t k. rw (x, y, k.0, k.1, k.2, k.3) refl)
        r)
