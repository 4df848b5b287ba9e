-- Document 01, "Deck D and its cases": P1 to P11 as one list with one theorem over it, proved by computing; then document 02's Req 01
-- and Req 02 on the same deck. Assumes nothing.
use Rattle.std.specs.Prelude.{ℕ, ◌+◌, ◌*◌, ◌-◌, cond, ◌≡◌, refl, ltb, take, drop, set, replicate, ℤ, pos}
use Prim.Native.String.{String}
use mathlib.Core.List.{List, [], ◌∷◌, ◌++◌, flat_map}
use Rattle.lists.specs.Lists.{lists}
use Rattle.refusals.specs.Outcome.{Outcome, refused, accepted, outcomes}
use Rattle.expression.specs.Values.{evaluation}
use Rattle.expression.specs.Reading.{reading_expressions}
use Rattle.expression.specs.Faults.{faults}
use Rattle.deck.specs.declared.Form.TheVariants.{New}
use Rattle.deck.specs.Deck.{Deck, decks}
use Rattle.deck.specs.Reader.{readers}
use Rattle.deck.specs.Layout.{Layout, layouts}
use Rattle.graph.specs.Graph.{graphs}
use Rattle.charge.specs.Charge.{charges}
use Rattle.pool.specs.Updates.{value_at, updates}
use Rattle.pool.specs.Places.{zeros, pools}
use Rattle.pool.specs.States.{Memory, load, store, states}
use Rattle.passing.specs.Check.{passing, checks}
use Rattle.firing.specs.Firing.{firing}
use Rattle.calls.specs.Calls.{Answer, passed, added, applied, discarded, check, calls}
use Rattle.calls.specs.Line.{ascii, line, lines}
use Rattle.orders.specs.Calling.{Call, input, commit, run_from, run, running}
use Rattle.orders.specs.Listed.{Listed, list_from, listed, listing}

-- bytes in hexadecimal, each followed by a space or a bar
unfoldable pub nibble : ℕ → ℕ
nibble c = cond (ltb c 65) (c - 48) (c - 55)

unfoldable pub unhex : List ℕ → List ℕ
unhex [] = []
unhex (a ∷ []) = []
unhex (a ∷ b ∷ []) = []
unhex (a ∷ b ∷ space ∷ s) = (16 * nibble a + nibble b) ∷ unhex s

-- deck D: channels, rules and parts
unfoldable pub D : List ℕ
D =
    unhex (ascii "03 61 62 63|02|01 00 00 01 01 11 01 01 02 01 00|01 01 00 00 01 11 01 02 08 03 01 01 00 01 00 00 00|")
    ++ unhex (ascii "02|00 00 00 00 00 00 00 00 00 00 00 00 02 00 01 01 11|")
    ++ unhex (ascii "00 00 00 00 00 00 00 00 00 00 00 00 02 00 01 08 15 01 02 00 0A 00 00 00|")

-- P5's deck: rule 1's target made 0; P6's: rule 0's target made 0; P7's: P6's with both parts carrying rule 1 alone
unfoldable pub D5 : List ℕ
D5 = set D 23 0

unfoldable pub D6 : List ℕ
D6 = set D 12 0

unfoldable pub D7 : List ℕ
D7 = take 46 D6 ++ 1 ∷ 1 ∷ take 14 (drop 49 D6) ++ 1 ∷ 1 ∷ drop 66 D6

-- what a case shows: the answers; the line that the program prints; the values of channel a of part 0 and of b and c of part 1,
-- and the pool's first place
pub record Seen : Type 0 where
  pub answers : List (Outcome Answer)
  pub printed : List ℕ
  pub values : List ℤ

-- what the calls come to, what the definition of a list comes to, and what both should
pub record Case : Type 0 where
  pub called : Seen
  pub listed : Seen
  pub wanted : Seen

unfoldable pub checked : Outcome Answer → List ℕ → Seen
checked o text = record { answers = o ∷ []; printed = text; values = [] }

-- a deck is checked
unfoldable pub checking : List ℕ → Outcome Answer → String → Case
checking bytes o text =
    let found = checked (check bytes) (line (check bytes)) in
    record { called = found; listed = found; wanted = checked o (ascii text) }

unfoldable pub seen : List (Outcome Answer) → Memory → Seen
seen answers m =
    let t = m.state.values in
    record { answers = answers; printed = []; values = value_at t 0 0 ∷ value_at t 1 1 ∷ value_at t 1 2 ∷ take 10 m.pool }

-- what a definition of a list comes to, for bytes that pass and a pool of n numbers
unfoldable pub listed_for : Outcome Layout → ℕ → (Deck → Listed) → Seen
listed_for (refused number place) n list = record { answers = refused number place ∷ []; printed = []; values = [] }
listed_for (accepted l) n list =
    let r = list l.deck in
    seen r.answers (store n r.machine)

-- calls on D from a fresh start with C places: the answers, then the values
unfoldable pub calling : ℕ → List Call → List (Outcome Answer) → List ℤ → Case
calling C cs answers values =
    let r = run D (replicate (10 * C) (pos 7)) cs in
    record {
      called = seen r.answers r.memory;
      listed = listed_for (passing New D) (10 * C) (λ d. listed d (10 * C) cs);
      wanted = record { answers = answers; printed = []; values = values };
    }

-- channel a of part 0 is set
unfoldable pub set_a : ℕ → Call
set_a v = input 0 (pos 0 ∷ pos v ∷ [])

-- a, b and c, and an empty first place
unfoldable pub settled_at : ℕ → ℕ → ℕ → List ℤ
settled_at a b c = pos a ∷ pos b ∷ pos c ∷ zeros 10

unfoldable pub cases : List Case
cases =
    checking D (accepted (passed 3 2 2 2)) "passed 3 2 2 2\n"  -- P1
    ∷ checking [] (refused 1 0) "refused 1 0\n"  -- P2
    ∷ checking (take 74 D) (refused 1 74) "refused 1 74\n"  -- P3
    ∷ checking (D ++ 0 ∷ []) (refused 5 75) "refused 5 75\n"  -- P4
    ∷ checking D5 (refused 7 0) "refused 7 0\n"  -- P5
    ∷ checking D6 (refused 7 0) "refused 7 0\n"  -- P6
    ∷ checking D7 (accepted (passed 3 2 2 1)) "passed 3 2 2 1\n"  -- P7
    ∷ calling 2 (set_a 4 ∷ commit 0 ∷ commit 0 ∷ [])  -- P8
    (accepted (added 2) ∷ accepted (applied 1) ∷ accepted (applied 0) ∷ [])
    (settled_at 4 4 5)
    ∷ calling 1 (set_a 4 ∷ []) (refused 13 0 ∷ []) (settled_at 0 0 0)  -- P8 with C = 1: a stays as well
    ∷ calling 2 (set_a 9 ∷ commit 0 ∷ commit 0 ∷ [])  -- P9
    (accepted (added 2) ∷ accepted (applied 1) ∷ accepted (discarded 0) ∷ [])
    (settled_at 9 9 0)
    ∷ calling 2 (set_a 4 ∷ commit 0 ∷ commit 0 ∷ set_a 4 ∷ [])  -- P10
    (accepted (added 2) ∷ accepted (applied 1) ∷ accepted (applied 0) ∷ accepted (added 0) ∷ [])
    (settled_at 4 4 5)
    ∷ calling 2 (set_a 2147483647 ∷ commit 0 ∷ [])  -- P11: the sum clamps, so that c = 2147483647 is pending
    (accepted (added 2) ∷ accepted (applied 1) ∷ [])
    (pos 2147483647 ∷ pos 2147483647 ∷ pos 0 ∷ pos 1 ∷ pos 1 ∷ pos 2 ∷ pos 2147483647 ∷ zeros 6)
    ∷ calling 2 (set_a 2147483647 ∷ commit 0 ∷ commit 0 ∷ [])  -- P11: and is discarded
    (accepted (added 2) ∷ accepted (applied 1) ∷ accepted (discarded 0) ∷ [])
    (settled_at 2147483647 2147483647 0)
    ∷ []

-- to open all that the calls are made of, on an `unfolding` line: what reads a deck, and what works on one
unfoldable pub reading_decks : Unit {0}
unfolding lists outcomes evaluation reading_expressions faults decks readers layouts
reading_decks = tt

unfoldable pub making_calls : Unit {0}
unfolding graphs charges updates pools states checks firing calls lines running listing
making_calls = tt

pub cases-hold : flat_map (λ c. c.called ∷ c.listed ∷ []) cases ≡ flat_map (λ c. c.wanted ∷ c.wanted ∷ []) cases
unfolding nibble unhex D D5 D6 D7 checked checking seen listed_for calling set_a settled_at cases reading_decks making_calls
cases-hold = refl

-- ---- document 02, Req 01: hand input respects the stops. Part 1 of D is within its limit while c is below 10

-- c of part 1 is set
unfoldable pub set_c : ℕ → Call
set_c v = input 1 (pos 2 ∷ pos v ∷ [])

-- a and c of part 1 are set
unfoldable pub set_ac : ℕ → ℕ → Call
set_ac a c = input 1 (pos 0 ∷ pos a ∷ pos 2 ∷ pos c ∷ [])

-- a good state with two places that no list of calls leaves: c of part 1 is written by hand, past the limit
unfoldable pub by_hand : Memory
by_hand = record { state = record { values = set (zeros 512) 34 (pos 12); pending = 0 }; pool = zeros 20 }

-- calls on D from there
unfoldable pub calling_by_hand : List Call → List (Outcome Answer) → List ℤ → Case
calling_by_hand cs answers values =
    let r = run_from D by_hand cs in
    record {
      called = seen r.answers r.memory;
      listed = listed_for (passing New D) 20 (λ d. list_from d 2 (load by_hand) cs);
      wanted = record { answers = answers; printed = []; values = values };
    }

unfoldable pub limit_cases : List Case
limit_cases =
    calling 2 (set_c 9 ∷ []) (accepted (added 0) ∷ []) (settled_at 0 0 9)  -- just inside
    ∷ calling 2 (set_c 10 ∷ []) (refused 17 0 ∷ []) (settled_at 0 0 0)  -- just outside: c stays
    ∷ calling 1 (set_ac 4 10 ∷ []) (refused 17 0 ∷ []) (settled_at 0 0 0)  -- 17 before 13
    ∷ calling 1 (set_ac 4 9 ∷ []) (refused 13 0 ∷ []) (settled_at 0 0 0)
    ∷ calling 2 (input 2 (pos 2 ∷ pos 10 ∷ []) ∷ []) (refused 11 0 ∷ []) (settled_at 0 0 0)  -- 11 before 17
    ∷ calling 2 (input 1 (pos 2 ∷ pos 10 ∷ pos 2 ∷ pos 10 ∷ []) ∷ []) (refused 12 0 ∷ []) (settled_at 0 0 0)  -- 12 before 17
    ∷ calling 2 (set_c 9 ∷ set_c 10 ∷ set_c 10 ∷ set_c 8 ∷ [])  -- a refusal is no stop for what follows
    (accepted (added 0) ∷ refused 17 0 ∷ refused 17 0 ∷ accepted (added 0) ∷ [])
    (settled_at 0 0 8)
    ∷ calling_by_hand (input 1 (pos 0 ∷ pos 1 ∷ []) ∷ []) (refused 17 0 ∷ []) (settled_at 0 0 12)  -- the whole part is tested
    ∷ calling_by_hand (set_c 12 ∷ []) (refused 17 0 ∷ []) (settled_at 0 0 12)  -- also where no value changes
    ∷ calling_by_hand (set_c 3 ∷ []) (accepted (added 0) ∷ []) (settled_at 0 0 3)  -- an input that brings the part within
    ∷ calling_by_hand (set_a 4 ∷ commit 0 ∷ [])  -- an input at another part is taken, and a commit at this one is discarded
    (accepted (added 2) ∷ accepted (discarded 0) ∷ [])
    (settled_at 4 0 12)
    ∷ []

pub limit-cases-hold : flat_map (λ c. c.called ∷ c.listed ∷ []) limit_cases ≡ flat_map (λ c. c.wanted ∷ c.wanted ∷ []) limit_cases
unfolding nibble unhex D seen listed_for calling set_a set_c set_ac by_hand calling_by_hand settled_at limit_cases reading_decks making_calls
limit-cases-hold = refl

-- ---- document 02, Req 02: what is wrong in a formula. Part 1's limit has its length byte at 66 and is D's last field

unfoldable pub fault_cases : List Case
fault_cases =
    checking (set D 68 2) (refused 18 68) "refused 18 68\n"  -- a far channel in a limit
    ∷ checking (set D 68 17) (refused 18 68) "refused 18 68\n"  -- a truth as an operand of "less"
    ∷ checking (set D 69 3) (refused 3 69) "refused 3 69\n"  -- channel 3 of three
    ∷ checking (take 74 (set D 66 7)) (refused 19 74) "refused 19 74\n"  -- the literal ends early, where the deck ends
    ∷ checking (set D 66 9 ++ 0 ∷ []) (refused 19 75) "refused 19 75\n"  -- a byte left over, and none that follows
    ∷ checking (take 74 (set D 69 3)) (refused 1 74) "refused 1 74\n"  -- 1 before 3: a byte of the expression is missing
    ∷ checking (set D6 69 3) (refused 3 69) "refused 3 69\n"  -- 3 before 7
    ∷ []

pub fault-cases-hold : flat_map (λ c. c.called ∷ c.listed ∷ []) fault_cases ≡ flat_map (λ c. c.wanted ∷ c.wanted ∷ []) fault_cases
unfolding nibble unhex D D6 checked checking fault_cases reading_decks making_calls
fault-cases-hold = refl
