-- Document 02, Req 04 on deck D, by computing: its channel a, 0, leads to b, 1, by rule 0, and b to c, 2, by rule 1. Assumes nothing.
use Rattle.std.specs.Prelude.{ℕ, ◌*◌, ◌≡◌, refl, List, [], ◌∷◌, map, replicate, ℤ, pos}
use Rattle.lists.specs.Lists.{below}
use Rattle.refusals.specs.Outcome.{Outcome, refused, accepted}
use Rattle.deck.specs.declared.Form.TheVariants.{New}
use Rattle.deck.specs.Layout.{Layout}
use Rattle.pool.specs.Updates.{Update, value_at}
use Rattle.pool.specs.Places.{updates_of}
use Rattle.passing.specs.Check.{passing}
use Rattle.calls.specs.Calls.{Answer, added, settled}
use Rattle.orders.specs.Calling.{Call, input, settle, run}
use Rattle.orders.specs.StaysPut.{named, left_alone, targeted, naming}
use Rattle.orders.proofs.Cases.{nibble, unhex, D, set_a, set_c, reading_decks, making_calls}

-- what a list of calls comes to: the answers, the channels that it named, those left alone, the values of a, b and c at both parts,
-- the pending updates, and the channels that these target
pub record Shown : Type 0 where
  pub answers : List (Outcome Answer)
  pub names : List ℕ
  pub alone : List ℕ
  pub values : List (List ℤ)
  pub pending : List Update
  pub targets : List ℕ

-- calls on D from a fresh start with C places
unfoldable pub shown : Outcome Layout → ℕ → List Call → Shown
shown (refused number place) C cs =
    record { answers = refused number place ∷ []; names = []; alone = []; values = []; pending = []; targets = [] }
shown (accepted l) C cs =
    let r = run D (replicate (10 * C) (pos 7)) cs in
    let m = r.memory in
    let names = named cs r.answers in
    record {
      answers = r.answers;
      names = names;
      alone = left_alone l.deck names;
      values = map (λ p. map (value_at m.state.values p) (below 3)) (below 2);
      pending = updates_of m.state.pending m.pool;
      targets = targeted m;
    }

-- and what they should come to
unfoldable pub row : ℕ → List Call → Shown → Shown × Shown
row C cs wanted = (shown (passing New D) C cs, wanted)

-- b of part 1 is set
unfoldable pub set_b : ℕ → Call
set_b v = input 1 (pos 1 ∷ pos v ∷ [])

-- a of part 0, b and c of part 1, with the other values 0
unfoldable pub valued : ℕ → ℕ → ℕ → List (List ℤ)
valued a b c = (pos a ∷ pos 0 ∷ pos 0 ∷ []) ∷ (pos 0 ∷ pos b ∷ pos c ∷ []) ∷ []

-- nothing is pending
unfoldable pub wanted_at : List (Outcome Answer) → List ℕ → List ℕ → List (List ℤ) → Shown
wanted_at answers names alone values =
    record { answers = answers; names = names; alone = alone; values = values; pending = []; targets = [] }

-- channel c = v is pending at part 1
unfoldable pub pending_at : ℕ → ℕ → Shown → Shown
pending_at c v s =
    let u : Update = record { part = 1; pairs = record { channel = c; value = pos v } ∷ [] } in
    record { answers = s.answers; names = s.names; alone = s.alone; values = s.values; pending = u ∷ []; targets = c ∷ [] }

unfoldable pub left_alone_cases : List (Shown × Shown)
left_alone_cases =
    row 2 [] (wanted_at [] [] (0 ∷ 1 ∷ 2 ∷ []) (valued 0 0 0))
    ∷ row 2 (set_c 5 ∷ []) (wanted_at (accepted (added 0) ∷ []) (2 ∷ []) (0 ∷ 1 ∷ []) (valued 0 0 5))
    ∷ row 2 (set_c 10 ∷ []) (wanted_at (refused 17 0 ∷ []) [] (0 ∷ 1 ∷ 2 ∷ []) (valued 0 0 0))  -- a refused input names nothing
    ∷ row 1 (set_a 4 ∷ []) (wanted_at (refused 13 0 ∷ []) [] (0 ∷ 1 ∷ 2 ∷ []) (valued 0 0 0))
    ∷ row 2 (set_b 1 ∷ []) (pending_at 2 2 (wanted_at (accepted (added 1) ∷ []) (1 ∷ []) (0 ∷ []) (valued 0 1 0)))
    ∷ row 2 (set_b 1 ∷ settle 9 ∷ [])
    (wanted_at (accepted (added 1) ∷ accepted (settled 1) ∷ []) (1 ∷ []) (0 ∷ []) (valued 0 1 2))
    ∷ row 2 (set_a 4 ∷ []) (pending_at 1 4 (wanted_at (accepted (added 2) ∷ []) (0 ∷ []) [] (valued 4 0 0)))
    ∷ row 2 (set_a 0 ∷ []) (wanted_at (accepted (added 0) ∷ []) (0 ∷ []) [] (valued 0 0 0))  -- named, though nothing changes
    ∷ row 2 (set_a 4 ∷ settle 9 ∷ [])  -- c has moved, and two edges lead there
    (wanted_at (accepted (added 2) ∷ accepted (settled 2) ∷ []) (0 ∷ []) [] (valued 4 4 5))
    ∷ row 2 (set_c 5 ∷ settle 9 ∷ set_b 1 ∷ settle 9 ∷ [])  -- the names of the whole list
    (wanted_at (accepted (added 0) ∷ accepted (settled 0) ∷ accepted (added 1) ∷ accepted (settled 1) ∷ [])
    (2 ∷ 1 ∷ []) (0 ∷ []) (valued 0 1 2))
    ∷ []

pub left-alone-cases-hold : map (λ r. r.0) left_alone_cases ≡ map (λ r. r.1) left_alone_cases
unfolding nibble unhex D set_a set_b set_c shown row valued wanted_at pending_at left_alone_cases naming reading_decks making_calls
left-alone-cases-hold = refl
