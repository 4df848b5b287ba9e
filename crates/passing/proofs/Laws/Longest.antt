-- The longest deck that can pass has 25,987 bytes, and the longest old one 42,883: one of each length passes. Assumes nothing.
use Rattle.std.specs.Prelude.{ℕ, zero, suc, ◌+◌, ◌<◌, ◌≤◌, ◌≡◌, Bool, true, false, ◌&&◌, cond, List, [], ◌∷◌, map, length, replicate, pos}
use Rattle.std.proofs.Math.Path.{refl, ap}
use Rattle.std.proofs.Common.{◌∙◌}
use native.Mathlib.Omega.{arith}
use Rattle.std.proofs.Math.ListN.{get_or-replicate}
use Rattle.lists.specs.Lists.{lists, below, any_of, member, sum_of}
use Rattle.lists.specs.Laws.Below.{none_below}
use Rattle.refusals.specs.Outcome.{accepted}
use Rattle.expression.specs.Syntax.{Num, own, negation, Truth, constant, opposite}
use Rattle.expression.specs.Encoding.{encoding_expressions}
use Rattle.expression.specs.Values.{evaluation}
use Rattle.deck.specs.declared.Form.{Form}
use Rattle.deck.specs.declared.Form.TheVariants.{Old, New}
use Rattle.deck.specs.Limits.{longest}
use Rattle.deck.specs.Deck.{Action, Rule, Part, Deck, M, N, rule_at, targets, carries, active, decks}
use Rattle.deck.specs.Layout.{layouts}
use Rattle.deck.specs.Encoding.{encode, well_formed, suits, encodings}
use Rattle.deck.proofs.Laws.Formed.{formed}
use Rattle.deck.proofs.Laws.Reading.{encoded_layout, read-encode}
use Rattle.graph.specs.Graph.{cyclic, graphs}
use Rattle.graph.proofs.Laws.Cycles.{no-cycle}
use Rattle.graph.specs.Acyclic.{KnownTargets, Acyclic}
use Rattle.graph.proofs.Laws.Targets.{known-targets}
use Rattle.charge.specs.Charge.{rule_charge, update_charge, unless_empty, others, receivers}
use Rattle.charge.proofs.Laws.Equations.{charge-of-update, charge-of-rule}
use Rattle.charge.proofs.Laws.Bound.{none_above}
use Rattle.pool.specs.Updates.{updates}
use Rattle.pool.specs.Places.{pools}
use Rattle.passing.specs.Check.{outside, passing, checks}
use Rattle.passing.proofs.Laws.Passing.{later-clean, passing-judges}

-- channel 0 negated n times, and n times not: an operator is one byte
unfoldable pub negated : ℕ → Num
negated zero = own 0
negated (suc n) = negation (negated n)

unfoldable pub opposed : ℕ → Truth
opposed zero = constant false
opposed (suc n) = opposite (opposed n)

-- four assignments, each of 64 bytes
unfoldable pub full_action : Action
full_action = map (λ t. record { target = t; value = negated 62 }) (28 ∷ 29 ∷ 30 ∷ 31 ∷ [])

-- a new deck has no default action
unfoldable pub full_default : Form → Action
full_default Old = full_action
full_default New = []

unfoldable pub full_rule : Form → Rule
full_rule f = record { events = below 8; default = full_default f; everywhere = false; condition = opposed 63; action = full_action }

unfoldable pub full_part : Part
full_part = record { opening = replicate 32 (pos 0); carried = below 64; limit = opposed 63 }

unfoldable pub longest_deck : Form → Deck
longest_deck f = record { labels = replicate 32 33; rules = replicate 64 (full_rule f); parts = replicate 16 full_part }

-- to open the definitions above, on an `unfolding` line
unfoldable full : Unit {0}
unfolding negated opposed full_action full_default full_rule full_part longest_deck
full = tt

-- ---- 1 to 7 and 20, by computing

longest-formed : (f : Form) → well_formed (longest_deck f) ≡ true
unfolding full lists decks layouts encodings encoding_expressions
longest-formed Old = refl
longest-formed New = refl

longest-suits : (f : Form) → suits f (longest_deck f) ≡ true
unfolding full lists decks layouts encodings encoding_expressions
longest-suits Old = refl
longest-suits New = refl

pub longest-length : (f : Form) → length (encode (longest_deck f)) ≡ longest f
unfolding full lists decks layouts encodings encoding_expressions
longest-length Old = refl
longest-length New = refl

longest-opens : (f : Form) → outside (longest_deck f) ≡ []
unfolding full lists decks pools updates checks evaluation
longest-opens Old = refl
longest-opens New = refl

longest-acyclic : (f : Form) → cyclic (longest_deck f) ≡ []
unfolding full lists decks graphs
longest-acyclic Old = refl
longest-acyclic New = refl

-- ---- 8: nothing listens to what a rule sets

-- what a rule sets
abbrev set : List ℕ
set = targets full_action

-- it is not empty
set-adds : (x : ℕ) → unless_empty set x ≡ x
unfolding full_action lists decks unless_empty
set-adds x = refl

and-false : (b : Bool) → (b && false) ≡ false
and-false true = refl
and-false false = refl

module _ (f : Form) where
  abbrev d : Deck
  d = longest_deck f

  known : KnownTargets d
  known = known-targets d (formed d (longest-formed f))

  acyclic : Acyclic d
  acyclic = (no-cycle known).0 (longest-acyclic f)

  every-rule : (r : ℕ) → r < M d → rule_at d r ≡ full_rule f
  unfolding longest_deck decks
  every-rule r h = get_or-replicate 64 r (full_rule f) _ h

  no-listener : any_of (λ c. member c (full_rule f).events) set ≡ false
  unfolding full_action full_rule lists decks
  no-listener = refl

  none-active : (p : ℕ) → active d p set ≡ []
  unfolding active
  none-active p =
      (none_below (λ r. carries d p r && any_of (λ c. member c (rule_at d r).events) set) (M d)).1
      (λ r h.
      ap (λ (x : Rule). carries d p r && any_of (λ c. member c x.events) set) (every-rule r h)
      ∙ ap (λ b. carries d p r && b) no-listener
      ∙ and-false (carries d p r))

  set-charge : (p : ℕ) → p < N d → update_charge d p set ≡ 1
  unfolding lists
  set-charge p l = charge-of-update known acyclic p set l ∙ ap (λ rs. 1 + sum_of (rule_charge d p) rs) (none-active p)

  -- an action and its update's charge
  adds : (p : ℕ) → Action → ℕ
  adds p a = unless_empty (targets a) (update_charge d p (targets a))

  -- a default action and an action, both here
  two-updates : (p : ℕ) (x : Rule) → ℕ
  two-updates p x = adds p x.default + sum_of (λ q. adds q x.action) (cond x.everywhere (others d p) (p ∷ []))

  one-added : (p : ℕ) → p < N d → adds p full_action ≡ 1
  unfolding adds
  one-added p l = set-adds (update_charge d p set) ∙ set-charge p l

  at_most_one : (p : ℕ) → p < N d → (g : Form) → adds p (full_default g) ≤ 1
  unfolding adds full_default targets unless_empty lists
  at_most_one p l Old = omega (arith, one-added p l)
  at_most_one p l New = omega arith

  full-updates : (p : ℕ) → p < N d → two-updates p (full_rule f) ≤ 2
  unfolding two-updates full_rule lists
  full-updates p l = omega (arith, at_most_one p l f, one-added p l)

  full-charge : (p r : ℕ) → p < N d → r < M d → rule_charge d p r ≤ 2
  unfolding two-updates adds receivers
  full-charge p r l m =
      let e = charge-of-rule known acyclic p r l ∙ ap (two-updates p) (every-rule r m) in
      omega (arith, e, full-updates p l)

  pub longest-passes : passing f (encode d) ≡ accepted (encoded_layout d)
  longest-passes =
      passing-judges f (encode d) (encoded_layout d) (read-encode f d (longest-formed f) (longest-suits f))
      ∙ later-clean (encoded_layout d) (longest-opens f) (longest-acyclic f)
      ((none_above d).1 (λ p r l m c. omega (arith, full-charge p r l m)))
