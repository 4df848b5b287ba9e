-- A span of a list: from the place `at` on stand the bytes w, and `n` is the place after them. Assumes nothing.
use Rattle.std.specs.Prelude.{ℕ, suc, ◌+◌, ◌-◌, ◌<◌, ◌≡◌, List, [], ◌∷◌, ◌++◌, length, get_or, drop}
use Rattle.std.proofs.Common.{sym, ap, ◌∙◌, append_assoc, arith, add-zero, add-one, length-append, length-drop, drop-cons, drop-drop, get_or-drop}
use Rattle.std.proofs.Math.Seq.{drop-append_seam}

pub record Spans (s : List ℕ) (at n : ℕ) (w : List ℕ) : Type 0 where
  pub bytes : drop at s ≡ w ++ drop n s
  pub moved : n ≡ at + length w

module _ (s : List ℕ) where
  pub span-one : (at n b : ℕ) → n ≡ at + 1 → at < length s → get_or s at 0 ≡ b → Spans s at n (b ∷ [])
  span-one at n b m h e = record { bytes = drop-cons s at 0 h ∙ rw (e, m, add-one at); moved = m }

  pub span-append : {at n m : ℕ} {u v : List ℕ} → Spans s at n u → Spans s n m v → Spans s at m (u ++ v)
  span-append {at} {n} {m} {u} {v} p q =
      record {
        bytes = p.bytes ∙ ap (λ r. u ++ r) q.bytes ∙ sym (append_assoc u v (drop m s));
        moved = rw (length-append u v) (omega arith);
      }

  -- the other way: from the bytes that stand at a place
  pub starts-inside : (at b : ℕ) (t : List ℕ) → drop at s ≡ b ∷ t → at < length s
  starts-inside at b t e =
      let l : length s - at ≡ suc (length t) = sym (length-drop at s) ∙ ap length e in
      omega arith

  pub starts-byte : (at b : ℕ) (t : List ℕ) → drop at s ≡ b ∷ t → get_or s at 0 ≡ b
  starts-byte at b t e = ap (λ k. get_or s k 0) (sym (add-zero at)) ∙ sym (get_or-drop at s 0 0) ∙ ap (λ r. get_or r 0 0) e

  pub starts-then : (at : ℕ) (u t : List ℕ) → drop at s ≡ u ++ t → drop (at + length u) s ≡ t
  starts-then at u t e = sym (drop-drop (length u) at s) ∙ ap (drop (length u)) e ∙ drop-append_seam u t
