-- How far readers look: given enough bytes, a reader answers the same whatever follows them; and how many it takes.
-- Assumes nothing.
use Rattle.std.specs.Prelude.{ℕ, zero, suc, ◌+◌, ◌*◌, ◌<◌, ◌≤◌, ◌≡◌, refl, Bool, ◌&&◌, leb, ltb}
use Rattle.std.proofs.Math.Bool.{true, false}
use mathlib.Core.List.{List, [], ◌∷◌, ◌++◌}
use Rattle.std.proofs.Common.{arith, not-suc-le-zero, le_trans, ltb-true}
use Rattle.std.proofs.Math.ListN.{length}
use Rattle.lists.specs.Laws.Booleans.{and_right}
use Rattle.refusals.specs.Outcome.{Outcome, refused, accepted}
use Rattle.refusals.specs.Numbers.{out_of_range}
use Rattle.expression.specs.Reading.{word, signed}
use Rattle.deck.specs.Reader.{Got, Reader, and_then, ◌>>=◌, ◌>>◌, give, fault, here, expect, byte, end, number, repeats, rising, value}
use Rattle.deck.specs.Reader.{readers}

-- s was read, and s ++ t: both were refused alike, or both accepted alike, with t left as well. At most `takes` bytes were
-- taken, and the value has the property P
pub data Continues {A : Type 0} (P : A → Type 0) (takes : ℕ) (s t : List ℕ) : Outcome (Got A) → Outcome (Got A) → Type 0 where
  both_refuse : {n p : ℕ} → Continues P takes s t (refused n p) (refused n p)
  both_accept : {a : A} (r : List ℕ) {at : ℕ} → P a → length s ≤ length r + takes
      → Continues P takes s t (accepted (record { value = a; rest = r; at = at })) (accepted (record { value = a; rest = r ++ t; at = at }))

-- the reader looks at no more than `looks` bytes
pub record Within {A : Type 0} (P : A → Type 0) (looks takes : ℕ) (r : Reader A) : Type 0 where
  pub continues : (s t : List ℕ) (at : ℕ) → looks ≤ length s → Continues P takes s t (r s at) (r (s ++ t) at)

abbrev pub Anything : {A : Type 0} → A → Type 0
Anything a = Unit {0}

module _ {A : Type 0} {P : A → Type 0} where
  more : {m n : ℕ} {s t : List ℕ} {o o' : Outcome (Got A)} → m ≤ n → Continues P m s t o o' → Continues P n s t o o'
  more l both_refuse = both_refuse
  more l (both_accept r p h) = both_accept r p (omega arith)

  pub widen : {looks takes looks' takes' : ℕ} {r : Reader A} → looks ≤ looks' → takes ≤ takes' → Within P looks takes r
      → Within P looks' takes' r
  widen l m w = record { continues = λ s t at h. more m (w.continues s t at (le_trans l h)) }

  pub at_most : (n : ℕ) {m : ℕ} {r : Reader A} → m ≤ n → Within P m m r → Within P n n r
  at_most n h w = widen h h w

  pub forget : {looks takes : ℕ} {r : Reader A} → Within P looks takes r → Within Anything looks takes r
  forget w = record { continues = λ s t at h. go (w.continues s t at h) }
    where
      go : {n : ℕ} {s t : List ℕ} {o o' : Outcome (Got A)} → Continues P n s t o o' → Continues Anything n s t o o'
      go both_refuse = both_refuse
      go (both_accept r p h) = both_accept r tt h

  pub give-within : (a : A) → P a → Within P 0 0 (give a)
  unfolding readers
  give-within a p = record { continues = λ s t at h. both_accept s p (omega arith) }

  pub fault-within : (n p : ℕ) → Within P 0 0 (fault n p)
  unfolding readers
  fault-within n p = record { continues = λ s t at h. both_refuse }

  pub here-within : {looks takes : ℕ} {f : ℕ → Reader A} → ((p : ℕ) → Within P looks takes (f p))
      → Within P looks takes (here >>= f)
  unfolding readers
  here-within w = record { continues = λ s t at h. (w at).continues s t at h }

  pub expect-within : {looks takes : ℕ} (t : Bool) (n p : ℕ) {r : Reader A} → (t ≡ true → Within P looks takes r)
      → Within P looks takes (expect t n p >> r)
  unfolding readers
  expect-within true n p w = record { continues = λ s t at h. (w refl).continues s t at h }
  expect-within false n p w = record { continues = λ s t at h. both_refuse }

  -- with a byte left both refuse
  pub end-within : (a : A) → Within P 1 0 (end >> give a)
  unfolding readers
  end-within a = record { continues = go }
    where
      go : (s t : List ℕ) (at : ℕ) → 1 ≤ length s → Continues P 0 s t ((end >> give a) s at) ((end >> give a) (s ++ t) at)
      go [] t at h = absurd (not-suc-le-zero h)
      go (b ∷ s) t at h = both_refuse

pub then-within : {A B : Type 0} {P : A → Type 0} {Q : B → Type 0} {m looks takes : ℕ} {r : Reader A} {f : A → Reader B}
    → Within P m m r → ((a : A) → P a → Within Q looks takes (f a)) → Within Q (m + looks) (m + takes) (r >>= f)
unfolding readers
then-within {A} {B} {P} {Q} {m} {looks} {takes} {r} {f} w x =
    record { continues = λ s t at h. go s t h (w.continues s t at (omega arith)) }
  where
    further : (s t : List ℕ) (rest : List ℕ) {o o' : Outcome (Got B)} → length s ≤ length rest + m → Continues Q takes rest t o o'
        → Continues Q (m + takes) s t o o'
    further s t rest l both_refuse = both_refuse
    further s t rest l (both_accept r' q k) = both_accept r' q (omega arith)

    go : (s t : List ℕ) → m + looks ≤ length s → {o o' : Outcome (Got A)} → Continues P m s t o o'
        → Continues Q (m + takes) s t (and_then o f) (and_then o' f)
    go s t h both_refuse = both_refuse
    go s t h (both_accept {a = a} rest {at = at} p l) = further s t rest l ((x a p).continues rest t at (omega arith))

-- ---- numbers and lists

pub byte-within : Within Anything 1 1 byte
unfolding readers
byte-within = record { continues = go }
  where
    go : (s t : List ℕ) (at : ℕ) → 1 ≤ length s → Continues Anything 1 s t (byte s at) (byte (s ++ t) at)
    go [] t at h = absurd (not-suc-le-zero h)
    go (b ∷ s) t at h = both_accept s tt (omega arith)

pub number-within : (lo hi : ℕ) → Within (λ b. b < hi) 1 1 (number lo hi)
unfolding readers
number-within lo hi =
    here-within λ p. then-within byte-within λ b _. expect-within (leb lo b && ltb b hi) out_of_range p λ e.
    give-within b (ltb-true b hi (and_right (leb lo b) _ e))

pub repeats-within : {A : Type 0} {m : ℕ} {r : Reader A} → Within Anything m m r → (n : ℕ)
    → Within Anything (n * m) (n * m) (repeats n r)
unfolding readers
repeats-within w zero = widen (omega arith) (omega arith) (give-within [] tt)
repeats-within w (suc n) =
    widen (omega arith) (omega arith) (then-within w λ x _. then-within (repeats-within w n) λ xs _. give-within (x ∷ xs) tt)

pub rising-within : (n lo hi : ℕ) → Within Anything n n (rising n lo hi)
unfolding readers
rising-within zero lo hi = give-within [] tt
rising-within (suc n) lo hi =
    widen (omega arith) (omega arith)
    (then-within (number-within lo hi) λ c _. then-within (rising-within n (suc c) hi) λ cs _. give-within (c ∷ cs) tt)

pub value-within : Within Anything 4 4 value
unfolding readers
value-within =
    then-within byte-within λ a _.
    then-within byte-within λ b _.
    then-within byte-within λ c _.
    then-within byte-within λ d _.
    give-within (signed (word a b c d)) tt
