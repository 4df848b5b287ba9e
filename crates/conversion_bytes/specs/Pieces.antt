-- The stretches of a rule and of a part, and what becomes of them. Assumes nothing.
use Rattle.std.specs.Prelude.{ℕ, zero, suc, ◌+◌, ◌-◌, ◌≤◌, ◌<◌, ◌≡◌, true, false, length, get_or}
use mathlib.Core.List.{List, [], ◌∷◌, ◌++◌, flat_map}
use Rattle.lists.specs.Lists.{from}
use Rattle.expression.specs.Encoding.{encode_value, constant_byte, encode_truth}
use Rattle.deck.specs.Deck.{Action, Rule, Part, Deck}
use Rattle.deck.specs.Encoding.{encode_expression, encode_action, kind_byte, encode_rule, encode_part}
use Rattle.conversion.specs.Converted.{split, renumbered}
use Rattle.conversion_bytes.specs.Stands.{Stands}
use Rattle.conversion_bytes.specs.declared.Ends.{Ends}
use Rattle.conversion_bytes.specs.declared.PartEnds.{PartEnds}

-- ---- actions and rules

abbrev pub HasAction : List ℕ → ℕ → Type 0
HasAction s at = (a : Action) × Stands s at (encode_action a)

abbrev pub HasRule : List ℕ → ℕ → Type 0
HasRule s at = (r : Rule) × Stands s at (encode_rule r)

-- a rule's bytes before its default action, and behind it
abbrev pub event_bytes : Rule → List ℕ
event_bytes r = length r.events ∷ r.events

abbrev pub task_bytes : Rule → List ℕ
task_bytes r = kind_byte r.everywhere ∷ (encode_expression (encode_truth r.condition) ++ encode_action r.action)

-- where these three end
abbrev pub RuleEnds : List ℕ → ℕ → Ends → Type 0
RuleEnds s at e =
    (r : Rule) → Stands s at (encode_rule r)
    → (e.default ≡ at + length (event_bytes r))
    × (e.task ≡ at + length (event_bytes r) + length (encode_action r.default))
    × (e.end ≡ at + length (encode_rule r))

-- how many rules become of one with n default assignments
unfoldable pub becomes : ℕ → ℕ
becomes zero = 1
becomes (suc n) = 2

-- what stands between a new rule's events and its task: no default action; and between them and its action, where it is carried out here
-- under the condition true
abbrev pub none_bytes : List ℕ
none_bytes = 0 ∷ []

abbrev pub here_bytes : List ℕ
here_bytes = 0 ∷ kind_byte false ∷ 1 ∷ constant_byte true ∷ []

-- what becomes of a rule with n default assignments, by the bytes of its events, its default action and its task
unfoldable pub split_bytes : ℕ → List ℕ → List ℕ → List ℕ → List ℕ
split_bytes zero events default task = events ++ (none_bytes ++ task)
split_bytes (suc n) events default task = (events ++ (here_bytes ++ default)) ++ (events ++ (none_bytes ++ task))

-- what becomes of a rule
abbrev pub new_rule_bytes : Rule → List ℕ
new_rule_bytes r = flat_map encode_rule (split r)

-- ---- parts

-- a part's bytes before its carried rules, and behind them
abbrev pub opening_bytes : Part → List ℕ
opening_bytes p = flat_map encode_value p.opening

abbrev pub limit_bytes : Part → List ℕ
limit_bytes p = encode_expression (encode_truth p.limit)

-- a part, by the bytes of its opening values
pub record PartStands (s : List ℕ) (at opening : ℕ) (p : Part) : Type 0 where
  pub size : opening ≡ length (opening_bytes p)
  pub stands : Stands s at (encode_part p)

abbrev pub HasPart : List ℕ → ℕ → ℕ → Type 0
HasPart s at opening = (p : Part) × PartStands s at opening p

-- where its opening values, its carried rules and its limit end
pub record PartEndings (at : ℕ) (p : Part) (e : PartEnds) : Type 0 where
  pub carried : e.carried ≡ at + length (opening_bytes p)
  pub limit : e.limit ≡ at + length (opening_bytes p) + length (length p.carried ∷ p.carried)
  pub end : e.end ≡ at + length (encode_part p)

-- the new numbers of rule r, by the numbers that the rules begin at
unfoldable pub renewed : List ℕ → ℕ → List ℕ
renewed numbers r = from (get_or numbers r 0) (get_or numbers (r + 1) 0 - get_or numbers r 0)

-- these numbers have the rules and the rules after them
abbrev pub Known : List ℕ → List ℕ → Type 0
Known numbers rules = (i : ℕ) → i < length rules → get_or rules i 0 + 1 < length numbers

-- what becomes of a part, by the bytes of its opening values, its carried rules and its limit
unfoldable pub part_bytes : List ℕ → List ℕ → List ℕ → List ℕ → List ℕ
part_bytes numbers opening carried limit =
    let new = flat_map (renewed numbers) carried in
    opening ++ ((length new ∷ new) ++ limit)

abbrev pub new_part_bytes : Deck → Part → List ℕ
new_part_bytes d p = encode_part (renumbered d p)

-- what `put_part` asks for: known rules, a count that fits a byte, and room
pub record PutsPart (opening carried limit numbers out : List ℕ) (at : ℕ) : Type 0 where
  pub known : Known numbers carried
  pub few : length (flat_map (renewed numbers) carried) < 256
  pub room : at + length (part_bytes numbers opening carried limit) ≤ length out
