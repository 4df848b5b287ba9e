-- Setting channels of a part: the value that is read there, and the values of the other parts. Assumes nothing.
use Rattle.std.specs.Prelude.{ℕ, ◌<◌, ◌≤◌, ◌≡◌, refl, Bool, true, false, cond, List, [], ◌∷◌, ltb, eqb, length, set, ℤ, pos}
use Rattle.std.proofs.Common.{◌∙◌, ap, arith, get_or-set_same, get_or-set_other, ltb-true, eqb-true}
use Rattle.std.proofs.lemmas.Bool.{eqb-false}
use Rattle.lists.specs.Lists.{all_of}
use Rattle.lists.specs.Laws.Alls.{all_of-head, all_of-tail}
use Rattle.pool.specs.Updates.{Pair, index_of, value_at, assign, updates}
use Rattle.pool.proofs.Laws.Values.{channels_in}

-- one channel of part p set: the value of any channel of it then
pub set_value : (p b c : ℕ) (v : ℤ) (values : List ℤ) → index_of p b < length values
    → value_at (set values (index_of p b) v) p c ≡ cond (eqb c b) v (value_at values p c)
unfolding updates
set_value p b c v values l = go (eqb c b) refl
  where
    differs : (c ≡ b → ⊥) → index_of p c ≡ index_of p b → ⊥
    differs h e = h (omega arith)

    go : (t : Bool) → eqb c b ≡ t → value_at (set values (index_of p b) v) p c ≡ cond t v (value_at values p c)
    go true e =
        ap (λ x. value_at (set values (index_of p b) v) p x) (eqb-true c b e) ∙ get_or-set_same values (index_of p b) v (pos 0) l
    go false e = get_or-set_other values (index_of p b) (index_of p c) v (pos 0) (differs (eqb-false c b e))

-- another part keeps its values
pub assign-part : (n p q c : ℕ) (l : List Pair) (values : List ℤ) → n ≤ 32 → (q ≡ p → ⊥) → c < n
    → all_of (λ b. ltb b n) (channels_in l) ≡ true → value_at (assign p l values) q c ≡ value_at values q c
unfolding updates
assign-part n p q c [] values few h lc k = refl
assign-part n p q c (a ∷ l) values few h lc k =
    assign-part n p q c l (set values (index_of p a.channel) a.value) few h lc
    (all_of-tail (λ b. ltb b n) a.channel (channels_in l) k)
    ∙ get_or-set_other values (index_of p a.channel) (index_of q c) a.value (pos 0) differs
  where
    differs : index_of q c ≡ index_of p a.channel → ⊥
    differs e =
        let la = ltb-true a.channel n (all_of-head (λ b. ltb b n) a.channel (channels_in l) k) in
        h (omega arith)
