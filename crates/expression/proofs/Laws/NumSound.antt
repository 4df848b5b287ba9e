-- A number that was read is a good one, and its encoding stands where it was read. Assumes nothing.
use Prim.Native.Nat.{ℕ, zero, suc, ◌+◌, ◌-◌, ◌<◌, ◌≤◌}
use Rattle.std.specs.Prelude.{◌≡◌, true, List, [], ◌∷◌, ltb, length, get_or}
use Rattle.std.proofs.Math.Path.{refl}
use Rattle.std.proofs.Common.{arith, ltb-true, leb-true}
use Rattle.lists.specs.Laws.Booleans.{and_both}
use Rattle.expression.specs.Syntax.{Num}
use Rattle.expression.specs.Reading.{Read, literal_at, channel_at, num_op, Scope, num_operands, num, reading_expressions}
use Rattle.expression.specs.Encoding.{encode_value, encode_num, fits, good_num, encoding_expressions}
use Rattle.expression.specs.declared.NumOp.{NumOp}
use Rattle.expression.specs.declared.NumOp.TheVariants as OfNum
use Rattle.expression.proofs.Laws.Bytes.{byte-below}
use Rattle.expression.specs.Bytes.{Bytes}
use Rattle.expression.proofs.Laws.Value.{encode-word, word_fits}
use Rattle.expression.proofs.Laws.Spans.{Spans, span-one, span-append}
use Rattle.expression.proofs.Laws.Holds.{Holds, held, none, only_if-holds, then-holds}
use Rattle.expression.proofs.Laws.Operators.{num_byte, num-byte, KnownNum}

module _ (sc : Scope) (s : List ℕ) (bytes : Bytes s) where
  -- from the place at on stand the bytes of a good number, up to the place n
  abbrev pub NumAt : ℕ → Num → ℕ → Type 0
  NumAt at e n = (good_num sc e ≡ true) × Spans s at n (encode_num e)

  literal-sound : (at : ℕ) → Holds (λ z n. (fits z ≡ true) × Spans s at n (encode_value z)) (literal_at s at)
  literal-sound at =
      only_if-holds λ e.
      let l : 4 ≤ length s - at = leb-true 4 (length s - at) e in
      let i : at < length s = omega arith in
      let j : at + 1 < length s = omega arith in
      let k : at + 2 < length s = omega arith in
      let m : at + 3 < length s = omega arith in
      let a = byte-below at s i bytes in
      let b = byte-below (at + 1) s j bytes in
      let c = byte-below (at + 2) s k bytes in
      let d = byte-below (at + 3) s m bytes in
      held (
        word_fits _ _ _ _ a b c d,
        rw (encode-word _ _ _ _ a b c d)
            (span-append s (span-one s at (at + 1) _ refl i refl)
            (span-append s (span-one s (at + 1) (at + 2) _ (omega arith) j refl)
            (span-append s (span-one s (at + 2) (at + 3) _ (omega arith) k refl) (span-one s (at + 3) (at + 4) _ (omega arith) m refl)))),
      )

  channel-sound : (known at : ℕ) → Holds (λ c n. (ltb c known ≡ true) × Spans s at n (c ∷ [])) (channel_at known s at)
  channel-sound known at =
      only_if-holds λ e. only_if-holds λ f.
      held (f, span-one s at (at + 1) (get_or s at 0) refl (ltb-true at (length s) e) refl)

  num-operands-sound : (op : NumOp) (at : ℕ) (go : ℕ → Read Num) → (KnownNum op → Spans s at (at + 1) (num_byte op ∷ []))
      → ((n : ℕ) → Holds (NumAt n) (go n)) → Holds (NumAt at) (num_operands sc op s (at + 1) go)
  unfolding encoding_expressions
  num-operands-sound OfNum.Literal at go o h = then-holds _ (literal-sound (at + 1)) λ z n p. held (p.0, span-append s (o tt) p.1)
  num-operands-sound OfNum.Own at go o h =
      then-holds _ (channel-sound sc.owns (at + 1)) λ c n p. held (p.0, span-append s (o tt) p.1)
  num-operands-sound OfNum.Far at go o h =
      then-holds _ (channel-sound sc.fars (at + 1)) λ c n p. held (p.0, span-append s (o tt) p.1)
  num-operands-sound (OfNum.Two k) at go o h =
      then-holds _ (h (at + 1)) λ a n p. then-holds _ (h n) λ b m q.
      held (and_both p.0 q.0, span-append s (span-append s (o tt) p.1) q.1)
  num-operands-sound OfNum.Negation at go o h = then-holds _ (h (at + 1)) λ a n p. held (p.0, span-append s (o tt) p.1)
  num-operands-sound OfNum.Unknown at go o h = none

  pub num-sound : (fuel at : ℕ) → Holds (NumAt at) (num sc fuel s at)
  unfolding reading_expressions
  num-sound zero at = none
  num-sound (suc fuel) at =
      only_if-holds λ e.
      num-operands-sound (num_op (get_or s at 0)) at (λ n. num sc fuel s n)
      (λ k. span-one s at (at + 1) _ refl (ltb-true at (length s) e) (num-byte (get_or s at 0) _ refl k))
      (λ n. num-sound fuel n)
