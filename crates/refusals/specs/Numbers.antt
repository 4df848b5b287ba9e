-- Documents 01 and 02, "When a call declines" and what each request refuses: the numbers, by name. No other file writes one down.
-- Assumes nothing.
use Rattle.std.specs.Prelude.{ℕ}

-- 1. The deck ends inside a field or expression
abbrev pub deck_ends : ℕ
deck_ends = 1

-- 2. A count, label, kind, length, or channel or rule number outside an expression is outside its range, or a list doesn't rise
abbrev pub out_of_range : ℕ
out_of_range = 2

-- 3. An expression has an unknown operator or channel
abbrev pub unknown_byte : ℕ
unknown_byte = 3

-- 4. A target stands twice in an action
abbrev pub repeated_target : ℕ
repeated_target = 4

-- 5. Bytes follow the last section
abbrev pub bytes_follow : ℕ
bytes_follow = 5

-- 6. A part opens outside its limit
abbrev pub opens_outside : ℕ
opens_outside = 6

-- 7. The graph has a cycle
abbrev pub cyclic_graph : ℕ
cyclic_graph = 7

-- 8. A carried rule's charge is above 65,535
abbrev pub overcharged : ℕ
overcharged = 8

-- 9. The pool's length isn't a multiple of 10 from 10 to 655,350
abbrev pub bad_pool : ℕ
bad_pool = 9

-- 10. The state isn't a good one
abbrev pub bad_state : ℕ
bad_state = 10

-- 11. The part is N or above
abbrev pub unknown_part : ℕ
unknown_part = 11

-- 12. The input list isn't 1 to 32 pairs of known, different channels
abbrev pub bad_input : ℕ
bad_input = 12

-- 13. The charge after the input would exceed C
abbrev pub over_capacity : ℕ
over_capacity = 13

-- 14. The place is the pending number or above
abbrev pub place_not_pending : ℕ
place_not_pending = 14

-- 15. The section number is above 2
abbrev pub unknown_section : ℕ
unknown_section = 15

-- 16. The settle budget is above 65,535
abbrev pub budget_too_large : ℕ
budget_too_large = 16

-- 17. The input would leave its part outside its limit
abbrev pub input_outside : ℕ
input_outside = 17

-- 18. An expression has a value of the wrong type or a far channel that isn't allowed there
abbrev pub wrong_type : ℕ
wrong_type = 18

-- 19. An expression ends early or has bytes left over
abbrev pub wrong_end : ℕ
wrong_end = 19

-- 20. A rule of a new deck has a default action
abbrev pub default_retired : ℕ
default_retired = 20

-- 21. More than 64 rules would result from a conversion
abbrev pub too_many_rules : ℕ
too_many_rules = 21

-- 22. The buffer is too short for the converted deck
abbrev pub buffer_too_short : ℕ
buffer_too_short = 22

-- the last of them
abbrev pub last_number : ℕ
last_number = buffer_too_short
