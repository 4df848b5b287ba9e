-- What is known of a deck that is well formed, and of what stands at an offset of its bytes. Assumes nothing.
use Rattle.std.specs.Prelude.{ℕ, ◌≤◌, ◌≡◌, true, Bool, List, [], eqb, ltb, length, drop}
use Rattle.lists.specs.Lists.{all_of, distinct}
use Rattle.refusals.specs.Outcome.{accepted}
use Rattle.expression.specs.Reading.{Scope}
use Rattle.expression.specs.Encoding.{good_num, good_truth}
use Rattle.deck.specs.Deck.{Action, Deck, R, M, N, rule_at, part_at, targets}
use Rattle.deck.specs.Reader.{Reader}
use Rattle.deck.specs.Layout.{own_only, task_scope}

-- an action that can be carried out: at most four assignments, to different known channels
pub record Sound (R : ℕ) (a : Action) : Type 0 where
  pub few : length a ≤ 4
  pub known : all_of (λ t. ltb t R) (targets a) ≡ true
  pub different : distinct (targets a) ≡ true

pub record Formed (d : Deck) : Type 0 where
  pub channels : R d ≤ 32
  pub rules : M d ≤ 64
  pub parts : N d ≤ 16
  pub openings : all_of (λ p. eqb (length p.opening) (R d)) d.parts ≡ true
  pub default : (r : ℕ) → Sound (R d) (rule_at d r).default
  pub action : (r : ℕ) → Sound (R d) (rule_at d r).action

-- every assigned expression is in the scope
abbrev pub all_in : Scope → Action → Bool
all_in sc a = all_of (λ s. good_num sc s.value) a

pub record Scoped (d : Deck) : Type 0 where
  pub default : (r : ℕ) → all_in (own_only (R d)) (rule_at d r).default ≡ true
  pub condition : (r : ℕ) → good_truth (task_scope (R d) (rule_at d r).everywhere) (rule_at d r).condition ≡ true
  pub action : (r : ℕ) → all_in (task_scope (R d) (rule_at d r).everywhere) (rule_at d r).action ≡ true
  pub limit : (p : ℕ) → good_truth (own_only (R d)) (part_at d p).limit ≡ true

-- no rule has a default action
abbrev pub NoDefaults : Deck → Type 0
NoDefaults d = (r : ℕ) → (rule_at d r).default ≡ []

-- reading with r at offset k of s gives a
abbrev pub ReadsAt : {A : Type 0} → List ℕ → Reader A → ℕ → A → Type 0
ReadsAt s r k a = (n : ℕ) × (r (drop k s) k ≡ accepted (record { value = a; rest = drop n s; at = n }))
