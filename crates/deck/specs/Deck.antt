-- Document 01, "The deck": the deck as it is after reading. Assumes nothing.
use Rattle.std.specs.Prelude.{ℕ, Bool, true, false, ◌&&◌, List, [], map, length, get_or, ℤ}
use Rattle.lists.specs.Lists.{any_of, below, select, member}
use Rattle.expression.specs.Syntax.{Num, Truth, constant}

pub record Assignment : Type 0 where
  pub target : ℕ
  pub value : Num

abbrev pub Action : Type 0
Action = List Assignment

-- `everywhere` says that the kind byte is 1; it is 0, "here", otherwise
pub record Rule : Type 0 where
  pub events : List ℕ
  pub default : Action
  pub everywhere : Bool
  pub condition : Truth
  pub action : Action

-- `carried` has the numbers of the carried rules
pub record Part : Type 0 where
  pub opening : List ℤ
  pub carried : List ℕ
  pub limit : Truth

pub record Deck : Type 0 where
  pub labels : List ℕ
  pub rules : List Rule
  pub parts : List Part

-- "R, M and N are the counts"
unfoldable pub R : Deck → ℕ
R d = length d.labels

unfoldable pub M : Deck → ℕ
M d = length d.rules

unfoldable pub N : Deck → ℕ
N d = length d.parts

-- Rules and parts by number. A number that the deck does not have stands for an empty one
unfoldable pub rule_at : Deck → ℕ → Rule
rule_at d r =
    get_or d.rules r (record { events = []; default = []; everywhere = false; condition = constant false; action = [] })

unfoldable pub part_at : Deck → ℕ → Part
part_at d p = get_or d.parts p (record { opening = []; carried = []; limit = constant true })

-- part p carries rule r
unfoldable pub carries : Deck → ℕ → ℕ → Bool
carries d p r = member r (part_at d p).carried

unfoldable pub targets : Action → List ℕ
targets a = map (λ s. s.target) a

-- the rules that part p carries and that have one of the channels cs among their events, in rule order
unfoldable pub active : Deck → ℕ → List ℕ → List ℕ
active d p cs = select (λ r. carries d p r && any_of (λ c. member c (rule_at d r).events) cs) (below (M d))

-- to open all definitions of this file, on an `unfolding` line
unfoldable pub decks : Unit {0}
unfolding R M N rule_at part_at carries targets active
decks = tt
