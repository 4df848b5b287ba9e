-- Ways down the trees of an index, when a free slot is written. Assumes nothing.
use Rattle.std.specs.Prelude.{ℕ, suc, ◌%◌, ◌≤◌, ◌<◌, ◌≡◌, List, length, get_or, set, ℤ}
use Rattle.std.proofs.Common.{ap, ◌∙◌, ⊎_elim, arith, get_or-set_same, get_or-set_other}
use Rattle.pool_index.specs.Hash.{side_of}
use Rattle.pool_index.specs.Index.{slot_of, owner_of, Leads, here, down, Ends, free, past, Ordered}

pub modulo-two : (n : ℕ) → n % 2 < 2
modulo-two n = omega arith

pub side-low : (row : List ℤ) (d : ℕ) → side_of row d < 2
unfolding side_of
side-low row d = modulo-two _

-- a slot that holds a number is not a free one
taken-other : (index : List ℕ) {s e i : ℕ} → get_or index e 0 ≡ 0 → get_or index s 0 ≡ suc i → s ≡ e → ⊥
taken-other index f h q = omega (arith, f, h, ap (λ x. get_or index x 0) q)

module _ {heads : ℕ} {index : List ℕ} {row : List ℤ} where
  -- a free slot leads nowhere
  pub leads-nowhere : {d s n : ℕ} → get_or index s 0 ≡ 0 → Leads heads index row d s n → ⊥
  leads-nowhere e (here h) = omega (arith, e, h)
  leads-nowhere e (down h w) = omega (arith, e, h)

  pub ends-free : {d s e : ℕ} → Ends heads index row d s e → get_or index e 0 ≡ 0
  ends-free (free h) = h
  ends-free (past h w) = ends-free w

  -- the ways there were stay
  pub leads-set : {d s n : ℕ} (e v : ℕ) → get_or index e 0 ≡ 0 → Leads heads index row d s n → Leads heads (set index e v) row d s n
  leads-set {s = s} e v f (here h) = here (get_or-set_other index e s v 0 (taken-other index f h) ∙ h)
  leads-set {s = s} e v f (down h w) = down (get_or-set_other index e s v 0 (taken-other index f h) ∙ h) (leads-set e v f w)

  -- and the one that ended there leads to the new number
  pub ends_set : {d s e : ℕ} (v : ℕ) → e < length index → Ends heads index row d s e → Leads heads (set index e (suc v)) row d s (suc v)
  ends_set {e = e} v l (free h) = here (get_or-set_same index e (suc v) 0 l)
  ends_set {s = s} {e} v l (past h w) = down (get_or-set_other index e s (suc v) 0 (taken-other index (ends-free w) h) ∙ h) (ends_set v l w)

-- a link belongs to its place
pub slot-owner : (heads i side : ℕ) → side < 2 → owner_of heads (slot_of heads (suc i) side) ≡ suc i
unfolding owner_of slot_of
slot-owner heads i side h = omega arith

pub head-owner : (heads s : ℕ) → s < heads → owner_of heads s ≡ 0
unfolding owner_of
head-owner heads s h = omega arith

module _ {heads top : ℕ} {index : List ℕ} (o : Ordered heads top index) where
  -- the slots below the top are in the index
  pub slot-inside : (i side : ℕ) → suc i ≤ top → side < 2 → slot_of heads (suc i) side < length index
  unfolding slot_of
  slot-inside i side h l = omega (arith, o.inside)

  -- what a slot holds is a later number, up to the top
  pub holds : {s i : ℕ} → s < length index → get_or index s 0 ≡ suc i → (owner_of heads s < suc i) × (suc i ≤ top)
  holds {s} {i} l h = ⊎_elim (λ e. absurd (omega (arith, e, h))) (λ r. (omega (arith, h, r.0), omega (arith, h, r.1))) (o.slots s l)

  -- a way that begins in the index ends there, at a link of a place up to the top
  pub ends-inside : {row : List ℤ} {d s e : ℕ} → s < length index → owner_of heads s ≤ top → Ends heads index row d s e
      → (e < length index) × (owner_of heads e ≤ top)
  ends-inside l b (free h) = (l, b)
  ends-inside {row} {d} l b (past {i = i} h w) =
      let r = holds l h in
      ends-inside (slot-inside i (side_of row d) r.1 (side-low row d))
      (omega (arith, slot-owner heads i (side_of row d) (side-low row d), r.1)) w
