-- The charge of the update that a place holds, from its part and the set of its channels. Assumes nothing.
use Rattle.std.specs.Prelude.{ℕ, ◌<◌, ◌≤◌, ◌≡◌, refl, true, List, ltb, get_or, ℤ, pos, nat_abs}
use Rattle.std.proofs.Common.{sym, ap, ap₂, ◌∙◌, ltb-true}
use Rattle.lists.specs.Lists.{all_of}
use Rattle.lists.specs.Bits.{mask_of}
use Rattle.lists.specs.Laws.Members.{all_of-member}
use Rattle.deck.specs.Deck.{Deck, R, N}
use Rattle.deck.specs.Shape.{bits_of}
use Rattle.deck.proofs.Laws.Tables.{SameTests, bits-of-mask}
use Rattle.charge.specs.Charge.{update_charge}
use Rattle.charge.specs.Memo.{Answered, capped}
use Rattle.charge.proofs.Laws.Shape.{same-update-charge}
use Rattle.pool.specs.Updates.{channels}
use Rattle.pool.specs.Places.{update_of}
use Rattle.pool_states.specs.Answer.{HoldsKnown, PlaceGives}
use Rattle.pool_states.specs.Fits.{within, IsNatural}
use Rattle.pool_states.specs.Laws.Fits.{within-natural}
use Rattle.pool_states.specs.Laws.PairsHeld.{known-part, known-low, held-part}

same_tests : (d : Deck) → SameTests d d
same_tests d =
    record {
      channels = refl;
      rules = refl;
      parts = refl;
      carried = λ p r. refl;
      events = λ r c. refl;
      default = λ r c. refl;
      action = λ r c. refl;
      kind = λ r. refl;
    }

-- the channels as a set
pub mask-charge : (d : Deck) (p : ℕ) (cs : List ℕ) → all_of (λ c. ltb c 32) cs ≡ true
    → update_charge d p (bits_of 32 (mask_of cs)) ≡ update_charge d p cs
mask-charge d p cs low =
    same-update-charge (same_tests d) p (bits_of 32 (mask_of cs)) cs
    (bits-of-mask 32 cs (λ c m. ltb-true c 32 ((all_of-member (λ c. ltb c 32) cs).0 low c m)))

module _ (d : Deck) (n : ℕ) (e : N d ≡ n) (l : List ℤ) (h : HoldsKnown d l) where
  part : within n (get_or l 0 (pos 0)) ≡ (update_of l).part
  part = rw (sym e) (held-part (N d) l h.long h.written (known-part d (update_of l) h.known))

  -- its part as it is read
  pub holds-natural : IsNatural (get_or l 0 (pos 0))
  holds-natural = (within-natural n (get_or l 0 (pos 0)) (rw (part, sym e) (known-part d (update_of l) h.known))).0

  pub holds-number : nat_abs (get_or l 0 (pos 0)) ≡ within n (get_or l 0 (pos 0))
  holds-number = (within-natural n (get_or l 0 (pos 0)) (rw (part, sym e) (known-part d (update_of l) h.known))).1

  pub holds-part : {p : ℕ} → p ≡ within n (get_or l 0 (pos 0)) → p < n
  holds-part q = rw (q ∙ part, sym e) (known-part d (update_of l) h.known)

  pub holds-charge : {p mask s : ℕ} {m : List ℕ} → R d ≤ 32 → p ≡ within n (get_or l 0 (pos 0)) → mask ≡ mask_of (channels (update_of l))
      → Answered d (update_charge d p (bits_of 32 mask)) m s → PlaceGives d l m s
  holds-charge few q k a =
      let cs = channels (update_of l) in
      let same = ap₂ (λ p x. update_charge d p (bits_of 32 x)) (q ∙ part) k
      ∙ mask-charge d (update_of l).part cs (known-low d (update_of l) h.known few) in
      record { value = a.value ∙ ap capped same; memo = a.memo }
