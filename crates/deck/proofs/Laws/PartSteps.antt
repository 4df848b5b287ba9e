-- The reading of a part step by step, as the code makes it. Assumes nothing.
use Rattle.std.specs.Prelude.{ℕ, suc, ◌≡◌, refl, true, ℤ, drop, Result}
use Rattle.std.proofs.Common.{sym, ◌∙◌}
use Rattle.std.proofs.Math.Path.{ap, subst}
use mathlib.Core.List.{List, [], ◌∷◌}
use Rattle.lists.specs.Bits.{mask_of}
use Rattle.refusals.specs.Outcome.{Outcome, refused, accepted}
use Rattle.refusals.specs.declared.Fault.{Fault}
use Rattle.deck.specs.Reader.{Got, Reader, ◌>>=◌, and_then, give, here, number, repeats, rising, value}
use Rattle.deck.specs.Layout.{truths, expression, own_only}
use Rattle.deck.specs.Marks.{MarkedPart, marked_part, part_row, Reads, scope_of, expression_for, marks}
use Rattle.deck.proofs.Laws.Offsets.{then_next, then-fault, reads-last}

-- what was read at n of s
abbrev pub got_at : {A : Type 0} → List ℕ → A → ℕ → Outcome (Got A)
got_at s a n = accepted (record { value = a; rest = drop n s; at = n })

pub here-next : {B : Type 0} (f : ℕ → Reader B) (s : List ℕ) (at : ℕ) → and_then (here s at) f ≡ f at s at
unfolding here and_then
here-next f s at = refl

module _ (R M : ℕ) (s : List ℕ) (at : ℕ) where
  abbrev whole : Outcome (Got MarkedPart)
  whole = marked_part R M (drop at s) at

  pub no-values : {n p : ℕ} → repeats R value (drop at s) at ≡ refused n p → whole ≡ refused n p
  unfolding marked_part ◌>>=◌
  no-values e = here-next _ (drop at s) at ∙ then-fault _ e

  module _ (vs : List ℤ) (a : ℕ) (e : repeats R value (drop at s) at ≡ got_at s vs a) where
    pub no-count : {n p : ℕ} → number 0 (suc M) (drop a s) a ≡ refused n p → whole ≡ refused n p
    unfolding marked_part ◌>>=◌
    no-count f = here-next _ (drop at s) at ∙ then_next _ e ∙ then-fault _ f

    module _ (k b : ℕ) (f : number 0 (suc M) (drop a s) a ≡ got_at s k b) where
      pub no-carried : {n p : ℕ} → rising k 0 M (drop b s) b ≡ refused n p → whole ≡ refused n p
      unfolding marked_part ◌>>=◌
      no-carried g =
          here-next _ (drop at s) at ∙ then_next _ e ∙ then_next _ f
          ∙ then-fault _ g

      module _ (cs : List ℕ) (l : ℕ) (g : rising k 0 M (drop b s) b ≡ got_at s cs l) where
        last : whole
            ≡ and_then (expression (truths (own_only R)) (drop l s) l)
            (λ t. give (record { part = record { opening = vs; carried = cs; limit = t }; opening_at = at; limit_at = l }))
        unfolding marked_part ◌>>=◌
        last =
            here-next _ (drop at s) at ∙ then_next _ e ∙ then_next _ f
            ∙ then_next _ g ∙ here-next _ (drop l s) l

        -- the row that the code keeps, mask being the set of the carried rules
        pub part-read : (mask : ℕ) (step : Result ℕ Fault) → mask ≡ mask_of cs
            → Reads s (expression_for true (scope_of R 0) (drop l s) l) (λ _. Unit {0}) step
            → Reads s whole (λ m. mask ∷ at ∷ l ∷ 0 ∷ [] ≡ part_row m) step
        unfolding marks own_only
        part-read mask step same h =
            subst (λ (o : Outcome (Got MarkedPart)). Reads s o (λ m. mask ∷ at ∷ l ∷ 0 ∷ [] ≡ part_row m) step) (sym last)
            (reads-last s (expression (truths (own_only R)) (drop l s) l) (λ _. Unit {0})
            (λ t. record { part = record { opening = vs; carried = cs; limit = t }; opening_at = at; limit_at = l })
            (λ m. mask ∷ at ∷ l ∷ 0 ∷ [] ≡ part_row m) step (λ t _. ap (λ x. x ∷ at ∷ l ∷ 0 ∷ []) same) h)
