-- What is awaited can be completed to an expression, where an own channel is known. Assumes nothing.
use Rattle.std.specs.Prelude.{ℕ, suc, ◌<◌, ◌≡◌, Bool, true, false, cond, ltb, eqb, length}
use Rattle.std.proofs.Math.Path.{refl, ap}
use Rattle.std.proofs.Common.{◌∙◌, arith, lt-ltb}
use mathlib.Core.List.{List, [], ◌∷◌, ◌++◌}
use Rattle.std.proofs.lemmas.Bool.{eqb-false}
use Rattle.lists.specs.Lists.{all_of}
use Rattle.expression.specs.Reading.{Scope, num_op, truth_op}
use Rattle.expression.specs.declared.NumOp.{NumOp}
use Rattle.expression.specs.declared.NumOp.TheVariants as OfNum
use Rattle.expression.specs.declared.TruthOp.{TruthOp}
use Rattle.expression.specs.declared.TruthOp.TheVariants as OfTruth
use Rattle.expression.specs.Faults.{Awaited, a_number, a_truth, an_own_channel, a_far_channel, a_literal_byte}
use Rattle.expression.specs.Faults.{Judgement, unknown, mistyped, asks_for, other_truth, other_number, as_number, as_truth}
use Rattle.expression.specs.Faults.{if_known, judgement, sound, placed, first_fault}

-- a channel can stand where one is known
abbrev pub Possible : Scope → Awaited → Type 0
Possible sc a_number = Unit {0}
Possible sc a_truth = Unit {0}
Possible sc an_own_channel = 0 < sc.owns
Possible sc a_far_channel = 0 < sc.fars
Possible sc a_literal_byte = Unit {0}

abbrev pub Open : Scope → List Awaited → Type 0
Open sc [] = Unit {0}
Open sc (w ∷ ws) = Possible sc w × Open sc ws

-- the literal 0, `false`, channel 0, a literal's byte
abbrev pub filling : Awaited → List ℕ → List ℕ
filling a_number s = 0 ∷ 0 ∷ 0 ∷ 0 ∷ 0 ∷ s
filling a_truth s = 16 ∷ s
filling an_own_channel s = 0 ∷ s
filling a_far_channel s = 0 ∷ s
filling a_literal_byte s = 0 ∷ s

abbrev pub fill : List Awaited → List ℕ
fill [] = []
fill (w ∷ ws) = filling w (fill ws)

pub fill-bytes : (ws : List Awaited) → all_of (λ b. ltb b 256) (fill ws) ≡ true
unfolding all_of
fill-bytes [] = refl
fill-bytes (a_number ∷ ws) = fill-bytes ws
fill-bytes (a_truth ∷ ws) = fill-bytes ws
fill-bytes (an_own_channel ∷ ws) = fill-bytes ws
fill-bytes (a_far_channel ∷ ws) = fill-bytes ws
fill-bytes (a_literal_byte ∷ ws) = fill-bytes ws

pub fill-some : (w : Awaited) (ws : List Awaited) → 0 < length (fill (w ∷ ws))
fill-some a_number ws = omega arith
fill-some a_truth ws = omega arith
fill-some an_own_channel ws = omega arith
fill-some a_far_channel ws = omega arith
fill-some a_literal_byte ws = omega arith

module _ (sc : Scope) where
  channel-filled : (w : Awaited) (n : ℕ) → ((b : ℕ) → judgement sc w b ≡ if_known (ltb b n)) → 0 < n
      → (ws : List Awaited) (s : List ℕ) (at : ℕ) → first_fault sc (w ∷ ws) (0 ∷ s) at ≡ first_fault sc ws s (suc at)
  unfolding first_fault
  channel-filled w n is l ws s at = ap (λ j. placed at j (λ more. first_fault sc (more ++ ws) s (suc at))) (is 0 ∙ ap if_known (lt-ltb 0 n l))

  pub fill-sound : (ws : List Awaited) → Open sc ws → (at : ℕ) → first_fault sc ws (fill ws) at ≡ sound
  unfolding judgement first_fault
  fill-sound [] o at = refl
  fill-sound (a_number ∷ ws) o at = fill-sound ws o.1 (suc (suc (suc (suc (suc at)))))
  fill-sound (a_truth ∷ ws) o at = fill-sound ws o.1 (suc at)
  fill-sound (an_own_channel ∷ ws) o at =
      channel-filled an_own_channel sc.owns (λ b. refl) o.0 ws (fill ws) at ∙ fill-sound ws o.1 (suc at)
  fill-sound (a_far_channel ∷ ws) o at =
      channel-filled a_far_channel sc.fars (λ b. refl) o.0 ws (fill ws) at ∙ fill-sound ws o.1 (suc at)
  fill-sound (a_literal_byte ∷ ws) o at = fill-sound ws o.1 (suc at)

  -- ---- it stays possible

  -- what a byte that is taken asks for can be completed
  abbrev pub OpenAfter : Judgement → Type 0
  OpenAfter unknown = Unit {0}
  OpenAfter mistyped = Unit {0}
  OpenAfter (asks_for ws) = Open sc ws

  pub open-append : (us ws : List Awaited) → Open sc us → Open sc ws → Open sc (us ++ ws)
  open-append [] ws o p = p
  open-append (u ∷ us) ws o p = (o.0, open-append us ws o.1 p)

  module _ (some : 0 < sc.owns) where
    other-truth-open : (o : TruthOp) → OpenAfter (other_truth o)
    other-truth-open (OfTruth.Constant b) = tt
    other-truth-open OfTruth.Not = tt
    other-truth-open (OfTruth.Both k) = tt
    other-truth-open (OfTruth.Two k) = tt
    other-truth-open OfTruth.Unknown = tt

    other-number-open : (o : NumOp) → OpenAfter (other_number o)
    other-number-open OfNum.Literal = tt
    other-number-open OfNum.Own = tt
    other-number-open OfNum.Far = tt
    other-number-open (OfNum.Two k) = tt
    other-number-open OfNum.Negation = tt
    other-number-open OfNum.Unknown = tt

    far-open : (b : Bool) → eqb sc.fars 0 ≡ b → OpenAfter (cond b mistyped (asks_for (a_far_channel ∷ [])))
    far-open true e = tt
    far-open false e = (let h = eqb-false sc.fars 0 e in omega arith, tt)

    number-open : (o : NumOp) (j : Judgement) → OpenAfter j → OpenAfter (as_number sc o j)
    number-open OfNum.Literal j h = (tt, (tt, (tt, (tt, tt))))
    number-open OfNum.Own j h = (some, tt)
    number-open OfNum.Far j h = far-open (eqb sc.fars 0) refl
    number-open (OfNum.Two k) j h = (tt, (tt, tt))
    number-open OfNum.Negation j h = (tt, tt)
    number-open OfNum.Unknown j h = h

    truth-open : (o : TruthOp) (j : Judgement) → OpenAfter j → OpenAfter (as_truth o j)
    truth-open (OfTruth.Constant b) j h = tt
    truth-open OfTruth.Not j h = (tt, tt)
    truth-open (OfTruth.Both k) j h = (tt, (tt, tt))
    truth-open (OfTruth.Two k) j h = (tt, (tt, tt))
    truth-open OfTruth.Unknown j h = h

    known-open : (b : Bool) → OpenAfter (if_known b)
    known-open true = tt
    known-open false = tt

    pub judged-open : (w : Awaited) (b : ℕ) → OpenAfter (judgement sc w b)
    unfolding judgement
    judged-open a_number b = number-open (num_op b) (other_truth (truth_op b)) (other-truth-open (truth_op b))
    judged-open a_truth b = truth-open (truth_op b) (other_number (num_op b)) (other-number-open (num_op b))
    judged-open an_own_channel b = known-open (ltb b sc.owns)
    judged-open a_far_channel b = known-open (ltb b sc.fars)
    judged-open a_literal_byte b = tt
