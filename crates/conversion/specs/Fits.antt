-- What is known of the length that a conversion answers. Assumes nothing.
use Rattle.std.specs.Prelude.{ℕ, ◌≤◌, Result, Ok, Err}
use Rattle.refusals.specs.declared.Declined.{Declined}

-- the length that the code answers is at most n; a refusal has none
abbrev pub Fits : Result ℕ Declined → ℕ → Type 0
Fits (Ok length) n = length ≤ n
Fits (Err d) n = Unit {0}
