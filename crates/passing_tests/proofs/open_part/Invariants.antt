-- `passing_tests::open_part` meets its contract. The loop's invariant: the first c numbers are the values, and the others are as they
-- were. Assumes nothing.
use mathlib.Core.Path.{◌≡◌}
use mathlib.Core.List.{◌++◌}
use lib.ListN.{take, drop}
use Rattle.passing.specs.Stands.{values_from}
use Rattle.passing_tests.proofs.open_part.Given as goal

abbrev pub invariant-loop-c : goal.invariant-loop-c
invariant-loop-c l = l.stretch ≡ take l.c (values_from l.deck l.at l.count) ++ drop l.c l.initial.stretch
