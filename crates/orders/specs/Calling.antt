-- Calls made one after the other, each handed what the last one left. Assumes nothing.
use Rattle.std.specs.Prelude.{ℕ, List, [], ◌∷◌, ℤ}
use Rattle.refusals.specs.Outcome.{Outcome}
use Rattle.deck.specs.declared.Form.{Form}
use Rattle.deck.specs.declared.Form.TheVariants.{New}
use Rattle.pool.specs.States.{Memory}
use Rattle.calls.specs.Calls as Calls
use Rattle.calls.specs.Calls.{Answer, Reply}

-- what each call names
pub data Call : Type 0 where
  input : ℕ → List ℤ → Call  -- a part, and the lent list of pairs
  commit : ℕ → Call  -- a place
  settle : ℕ → Call  -- a budget

-- by the form of the decks that the calls test
unfoldable pub made_as : Form → List ℕ → Memory → Call → Reply
made_as f bytes m (input p l) = Calls.input_as f bytes m p l
made_as f bytes m (commit k) = Calls.commit_as f bytes m k
made_as f bytes m (settle b) = Calls.settle_as f bytes m b

-- the answers, and what the host holds in the end
pub record Run : Type 0 where
  pub answers : List (Outcome Answer)
  pub memory : Memory

unfoldable pub run_from_as : Form → List ℕ → Memory → List Call → Run
run_from_as f bytes m [] = record { answers = []; memory = m }
run_from_as f bytes m (c ∷ cs) =
    let r = made_as f bytes m c in
    let later = run_from_as f bytes r.memory cs in
    record { answers = r.answer ∷ later.answers; memory = later.memory }

-- after a start, with whatever stood in the pool before it
unfoldable pub run_as : Form → List ℕ → List ℤ → List Call → Run
run_as f bytes pool cs = run_from_as f bytes (Calls.start_as f bytes pool).memory cs

-- the same with the published calls
abbrev pub made : List ℕ → Memory → Call → Reply
made bytes m c = made_as New bytes m c

abbrev pub run_from : List ℕ → Memory → List Call → Run
run_from bytes m cs = run_from_as New bytes m cs

abbrev pub run : List ℕ → List ℤ → List Call → Run
run bytes pool cs = run_as New bytes pool cs

-- to open all definitions of this file, on an `unfolding` line
unfoldable pub running : Unit {0}
unfolding made_as run_from_as run_as
running = tt
