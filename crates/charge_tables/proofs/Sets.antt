-- Sets of channels as masks, of which the low 32 bits count. Assumes nothing.
use Prim.Native.Nat.{ℕ, ◌<◌}
use mathlib.Core.Path.{◌≡◌, refl, sym, ap, ◌∙◌}
use mathlib.Core.Bool.{true, false, ◌&&◌, and-true}
use mathlib.Core.List.{[]}
use native.Mathlib.Omega.{arith}
use lib.Bits.{bit_and, and_le_r}
use Rattle.lists.specs.Lists.{lists, all_of, below}
use Rattle.lists.specs.Bits.{bit}
use Rattle.lists.specs.Laws.Members.{all_of-member}
use Rattle.lists.specs.Laws.Below.{below-member, none_below}
use Rattle.lists.specs.Laws.Bits.{bit-and, bit-zero, no_bits}
use Rattle.deck.specs.Shape.{bits_of}

-- the mask of all 32 channels
full : all_of (bit 4294967295) (below 32) ≡ true
unfolding lists bit
full = refl

module _ (x : ℕ) where
  low_bit : (c : ℕ) → c < 32 → bit (bit_and x 4294967295) c ≡ bit x c
  low_bit c h =
      bit-and x 4294967295 c
      ∙ ap (λ b. bit x c && b) ((all_of-member (bit 4294967295) (below 32)).0 full c ((below-member 32 c).0 h))
      ∙ and-true (bit x c)

  all-clear : ((c : ℕ) → c < 32 → bit x c ≡ false) → bit_and x 4294967295 ≡ 0
  all-clear h = no_bits 32 (bit_and x 4294967295) (omega (arith, and_le_r x 4294967295)) (λ c l. low_bit c l ∙ h c l)

  clear : (c : ℕ) → c < 32 → bit_and x 4294967295 ≡ 0 → bit x c ≡ false
  clear c h e = sym (low_bit c h) ∙ ap (λ m. bit m c) e ∙ bit-zero c

  -- it is 0 for the empty set alone
  pub no-channel : bit_and x 4294967295 ≡ 0 → bits_of 32 x ≡ []
  unfolding bits_of
  no-channel e = (none_below (bit x) 32).1 (λ c h. clear c h e)

  pub some-channel : (bit_and x 4294967295 ≡ 0 → ⊥) → bits_of 32 x ≡ [] → ⊥
  unfolding bits_of
  some-channel h e = h (all-clear (λ c l. (none_below (bit x) 32).0 e c l))
