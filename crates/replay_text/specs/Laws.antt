-- Laws of what is kept. Assumes nothing.
use Rattle.std.specs.Prelude.{ℕ, ◌<◌, ◌≡◌, [], length, refl}
use Rattle.std.proofs.Common.{sym, ap, ◌∙◌, arith, length-take}
use Rattle.replay_text.specs.Kept.{kept_items}
use Rattle.replay_text.specs.declared.kept.Kept.{Kept}

-- nothing is kept exactly where nothing is counted, if there is room for one
module _ {T : Type 0} {N : ℕ} (k : Kept T N) where
  pub uncounted-none : k.count ≡ 0 → kept_items k ≡ []
  uncounted-none e = rw e refl

  pub none-uncounted : 0 < length k.items → kept_items k ≡ [] → k.count ≡ 0
  none-uncounted h e = omega (arith, h, sym (length-take k.count k.items) ∙ ap length e)
