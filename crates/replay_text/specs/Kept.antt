-- What a `Kept` keeps. Assumes nothing.
use Rattle.std.specs.Prelude.{ℕ, List, take}
use Rattle.replay_text.specs.declared.kept.Kept.{Kept}

-- the items, in the order in which they came
abbrev pub kept_items : {T : Type 0} {N : ℕ} → Kept T N → List T
kept_items k = take k.count k.items
