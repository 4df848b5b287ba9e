-- Where the sections of a deck stand. The definition of the call and the code both go by these. Assumes nothing.
use Rattle.std.specs.Prelude.{ℕ, suc, ◌-◌, List, [], ◌∷◌, length, get_or, take, drop}

-- the offset of a section's count, by those of the second and the third; from 3 on, the deck's end
unfoldable pub offset_of : ℕ → ℕ → ℕ → ℕ → ℕ
offset_of rules_at parts_at end k = get_or (0 ∷ rules_at ∷ parts_at ∷ []) k end

-- "the stretch of the caller's deck from that section's count to its end"
unfoldable pub stretch_of : ℕ → ℕ → List ℕ → ℕ → List ℕ
stretch_of rules_at parts_at bytes k =
    let from = offset_of rules_at parts_at (length bytes) k in
    take (offset_of rules_at parts_at (length bytes) (suc k) - from) (drop from bytes)
