-- What the graph and the charge see of a deck, from the tables that the pass fills: sets of events and targets, kinds and
-- carried rules. Values and conditions play no role there. Assumes nothing.
use Rattle.std.specs.Prelude.{ℕ, ◌+◌, ◌*◌, true, List, [], map, eqb, get_or, replicate, pos}
use Rattle.lists.specs.Lists.{select, below}
use Rattle.lists.specs.Bits.{bit}
use Rattle.expression.specs.Syntax.{literal, constant}
use Rattle.deck.specs.Deck.{Action, Rule, Part, Deck}
use Rattle.deck.specs.declared.Deck as Counted

-- the numbers below n in a set
unfoldable pub bits_of : ℕ → ℕ → List ℕ
bits_of n m = select (bit m) (below n)

-- an action with these targets
unfoldable pub setting : List ℕ → Action
setting ts = map (λ t. record { target = t; value = literal (pos 0) }) ts

-- row r of the table of rules, and row p of the table of parts
unfoldable pub rule_shape : List ℕ → ℕ → Rule
rule_shape rules r =
    record {
      events = bits_of 32 (get_or rules (8 * r) 0);
      default = setting (bits_of 32 (get_or rules (8 * r + 1) 0));
      everywhere = eqb (get_or rules (8 * r + 3) 0) 1;
      condition = constant true;
      action = setting (bits_of 32 (get_or rules (8 * r + 2) 0));
    }

unfoldable pub part_shape : List ℕ → ℕ → Part
part_shape parts p =
    record { opening = []; carried = bits_of 64 (get_or parts (4 * p) 0); limit = constant true }

-- a deck with R channels, M rules and N parts
unfoldable pub shape_of : List ℕ → List ℕ → ℕ → ℕ → ℕ → Deck
shape_of rules parts R M N =
    record {
      labels = replicate R 0;
      rules = map (rule_shape rules) (below M);
      parts = map (part_shape parts) (below N);
    }

-- the same, with the three counts of a deck that was read
abbrev pub shape : List ℕ → List ℕ → Counted.Deck → Deck
shape rules parts k = shape_of rules parts k.channels k.rules k.parts

-- to open all definitions of this file, on an `unfolding` line
unfoldable pub shapes : Unit {0}
unfolding bits_of setting rule_shape part_shape shape_of
shapes = tt
