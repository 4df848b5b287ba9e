-- Cases: an old deck and its conversion by the check and by calls, each under its own check. Assumes nothing.
use Rattle.std.specs.Prelude.{◌*◌, ◌≡◌, refl, List, [], ◌∷◌, map, replicate, ℤ, pos}
use Rattle.refusals.specs.Outcome.{refused, accepted}
use Rattle.deck.specs.declared.Form.TheVariants.{Old, New}
use Rattle.deck.proofs.Cases.{old_deck}
use Rattle.calls.specs.Calls.{passed, added, applied, settled, check_as}
use Rattle.conversion.proofs.Cases.{new_deck}
use Rattle.orders.specs.Calling.{Call, input, commit, settle, Run, run_as}
use Rattle.orders.proofs.Cases.{reading_decks, making_calls}

-- the old check and the new one: a rule more, and the charge of the rule that was split is now that of its task
pub check-cases : check_as Old old_deck ∷ check_as New old_deck ∷ check_as Old new_deck ∷ check_as New new_deck ∷ []
    ≡ accepted (passed 3 2 2 3) ∷ refused 20 7 ∷ accepted (passed 3 3 2 2) ∷ accepted (passed 3 3 2 2) ∷ []
unfolding reading_decks making_calls
check-cases = refl

-- a is set at part 0: the default sets b there and the task c at part 1; then rule b to c fires at part 0
abbrev turned : List Call
turned = input 0 (pos 0 ∷ pos 5 ∷ []) ∷ commit 0 ∷ settle 9 ∷ []

abbrev pool : List ℤ
pool = replicate (10 * 4) (pos 7)

pub run-cases : map (λ (r : Run). r.answers) (run_as Old old_deck pool turned ∷ run_as New new_deck pool turned ∷ [])
    ≡ replicate 2 (accepted (added 3) ∷ accepted (applied 2) ∷ accepted (settled 2) ∷ [])
unfolding reading_decks making_calls
run-cases = refl
