-- Document 01, "The deck": "These limits belong to the deck and are written down once". Assumes nothing.
use Rattle.std.specs.Prelude.{ℕ}
use Rattle.deck.specs.declared.Limits.{Limits}
use Rattle.deck.specs.declared.Form.{Form}
use Rattle.deck.specs.declared.Form.TheVariants.{Old, New}

-- R, M and N are at most these; so are a rule's events, an action's assignments and an expression's bytes. A value table has
-- 16 times 32 numbers, a place 2 and two for each assignment, and the longest decks that can pass, new and old, 25,987 and
-- 42,883 bytes. 65,535 is the largest charge of a carried rule, the number of places of the longest pool and the largest budget.
-- A label is a byte 33 to 126.
abbrev pub limits : Limits
limits =
    record {
      channels = 32;
      rules = 64;
      parts = 16;
      events = 8;
      assignments = 4;
      expression = 64;
      values = 512;
      place = 10;
      deck = 25987;
      old = 42883;
      charge = 65535;
      lowest = 33;
      highest = 126;
    }

-- the bytes of the longest deck of a form
abbrev pub longest : Form → ℕ
longest Old = limits.old
longest New = limits.deck
