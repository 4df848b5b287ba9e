-- The parts of a deck's shape, in the form in which the code tests them. Assumes nothing.
use Rattle.std.specs.Prelude.{ℕ, zero, suc, ◌+◌, ◌*◌, ◌<◌, ◌≡◌, refl, Bool, true, false, List, [], ◌∷◌, map, eqb, get_or}
use Rattle.std.proofs.Math.Path.{ap}
use Rattle.std.proofs.Common.{◌∙◌, arith, not-suc-le-zero, le_of_suc-le-suc, zero-add}
use Rattle.std.proofs.Math.ListN.{length-replicate, length-map}
use Rattle.lists.specs.Lists.{lists, select, from, below, member}
use Rattle.lists.specs.Bits.{bit}
use Rattle.lists.specs.Laws.Booleans.{contradiction, not-true→false}
use Rattle.lists.specs.Laws.Filters.{select-member}
use Rattle.lists.specs.Laws.Below.{below_length, below-member}
use Rattle.deck.specs.Deck.{Deck, R, M, N, rule_at, part_at, carries, targets}
use Rattle.deck.specs.Shape.{bits_of, setting, rule_shape, part_shape, shape_of, shape, shapes}
use Rattle.deck.specs.declared.Deck as Counted

-- the element at a place of f over the numbers below n
at_from : {A : Type 0} (f : ℕ → A) (a n k : ℕ) (x : A) → k < n → get_or (map f (from a n)) k x ≡ f (a + k)
unfolding lists
at_from f a zero k x h = absurd (not-suc-le-zero h)
at_from f a (suc n) zero x h = ap f (omega arith)
at_from f a (suc n) (suc k) x h = at_from f (suc a) n k x (le_of_suc-le-suc h) ∙ ap f (omega arith)

at-below : {A : Type 0} (f : ℕ → A) (n k : ℕ) (x : A) → k < n → get_or (map f (below n)) k x ≡ f k
unfolding below
at-below f n k x h = at_from f 0 n k x h ∙ ap f (zero-add k)

-- a number below n is in the list of a set exactly if its bit is there
pub bits-member : (n m c : ℕ) → c < n → member c (bits_of n m) ≡ bit m c
unfolding bits_of
bits-member n m c h = go (bit m c) refl
  where
    go : (b : Bool) → bit m c ≡ b → member c (select (bit m) (below n)) ≡ b
    go true e = (select-member (bit m) (below n) c).1 ((below-member n c).0 h, e)
    go false e = not-true→false (member c (select (bit m) (below n))) (λ y. contradiction ((select-member (bit m) (below n) c).0 y).1 e)

pub setting-targets : (ts : List ℕ) → targets (setting ts) ≡ ts
unfolding targets setting
setting-targets [] = refl
setting-targets (t ∷ ts) = ap (λ l. t ∷ l) (setting-targets ts)

module _ (rules parts : List ℕ) (R' M' N' : ℕ) where
  abbrev d : Deck
  d = shape_of rules parts R' M' N'

  pub shape-R : R d ≡ R'
  unfolding R shapes
  shape-R = length-replicate R' 0

  pub shape-M : M d ≡ M'
  unfolding M shapes
  shape-M = length-map (below M') (rule_shape rules) ∙ below_length M'

  pub shape-N : N d ≡ N'
  unfolding N shapes
  shape-N = length-map (below N') (part_shape parts) ∙ below_length N'

  pub shape-rule : (r : ℕ) → r < M' → rule_at d r ≡ rule_shape rules r
  unfolding rule_at shape_of
  shape-rule r h = at-below (rule_shape rules) M' r _ h

  pub shape-part : (p : ℕ) → p < N' → part_at d p ≡ part_shape parts p
  unfolding part_at shape_of
  shape-part p h = at-below (part_shape parts) N' p _ h

  pub shape-carries : (p r : ℕ) → p < N' → r < 64 → carries d p r ≡ bit (get_or parts (4 * p) 0) r
  unfolding carries part_shape
  shape-carries p r h k = ap (λ x. member r x.carried) (shape-part p h) ∙ bits-member 64 (get_or parts (4 * p) 0) r k

  pub shape-event : (r c : ℕ) → r < M' → c < 32 → member c (rule_at d r).events ≡ bit (get_or rules (8 * r) 0) c
  unfolding rule_shape
  shape-event r c h k = ap (λ x. member c x.events) (shape-rule r h) ∙ bits-member 32 (get_or rules (8 * r) 0) c k

  pub shape-default : (r c : ℕ) → r < M' → c < 32 → member c (targets (rule_at d r).default) ≡ bit (get_or rules (8 * r + 1) 0) c
  unfolding rule_shape
  shape-default r c h k =
      ap (λ x. member c (targets x.default)) (shape-rule r h)
      ∙ ap (member c) (setting-targets (bits_of 32 (get_or rules (8 * r + 1) 0)))
      ∙ bits-member 32 (get_or rules (8 * r + 1) 0) c k

  pub shape-action : (r c : ℕ) → r < M' → c < 32 → member c (targets (rule_at d r).action) ≡ bit (get_or rules (8 * r + 2) 0) c
  unfolding rule_shape
  shape-action r c h k =
      ap (λ x. member c (targets x.action)) (shape-rule r h)
      ∙ ap (member c) (setting-targets (bits_of 32 (get_or rules (8 * r + 2) 0)))
      ∙ bits-member 32 (get_or rules (8 * r + 2) 0) c k

  pub shape-kind : (r : ℕ) → r < M' → (rule_at d r).everywhere ≡ eqb (get_or rules (8 * r + 3) 0) 1
  unfolding rule_shape
  shape-kind r h = ap (λ x. x.everywhere) (shape-rule r h)

-- the three counts, of a deck that was read
module _ (rules parts : List ℕ) (k : Counted.Deck) where
  pub counted-R : R (shape rules parts k) ≡ k.channels
  counted-R = shape-R rules parts k.channels k.rules k.parts

  pub counted-M : M (shape rules parts k) ≡ k.rules
  counted-M = shape-M rules parts k.channels k.rules k.parts

  pub counted-N : N (shape rules parts k) ≡ k.parts
  counted-N = shape-N rules parts k.channels k.rules k.parts
