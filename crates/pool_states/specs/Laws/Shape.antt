-- The tests of a state see of a deck its counts only, and the charge its tests only. So a deck and the shape of its tables
-- judge a state alike. Assumes nothing.
use Rattle.std.specs.Prelude.{ℕ, suc, ◌*◌, ◌/◌, ◌%◌, ◌≡◌, true, ◌&&◌, ◌||◌, cond, length, drop, ℤ, None, Some}
use Rattle.std.proofs.Math.Path.{refl, ap, ap₂, fun_ext}
use Rattle.std.proofs.Common.{sym, ◌∙◌}
use Rattle.std.proofs.Math.Bool.{not}
use mathlib.Core.List.{List, [], ◌∷◌}
use Rattle.std.proofs.Math.Dec.{leb, ltb, eqb}
use Rattle.lists.specs.Lists.{all_of, distinct, is_empty, sum_of}
use Rattle.lists.specs.Laws.Booleans.{and_left, and_right}
use Rattle.deck.specs.Deck.{Deck, R, M, N}
use Rattle.deck.specs.Shape.{shape_of}
use Rattle.deck.specs.Tables.{TablesOf, Ranged}
use Rattle.deck.proofs.Laws.Shape.{shape-R, shape-N}
use Rattle.charge.proofs.Laws.Shape.{shape-update-charge}
use Rattle.pool.specs.Updates.{Update, channels, all_different, charge}
use Rattle.pool.specs.Places.{is_zero, capacity, update_of, well_written, places, updates_of}
use Rattle.pool.specs.States.{Memory, unused_zero, known, good}
use Rattle.pool_states.specs.Answer.{HoldsKnown, all_fit, framed, uncharged, goodness_of}
use Rattle.pool_states.specs.Laws.Judged.{charged}

-- a place that fits holds a known update
pub fit-holds : (d : Deck) (l : List ℤ) → length l ≡ 10 → (well_written l && known d (update_of l)) ≡ true → HoldsKnown d l
fit-holds d l long h =
    record {
      long = long;
      written = and_left (well_written l) (known d (update_of l)) h;
      known = and_right (well_written l) (known d (update_of l)) h;
    }

-- decks with as many channels and parts
module _ (d e : Deck) (e_r : R d ≡ R e) (e_n : N d ≡ N e) where
  pub same_known : (u : Update) → known d u ≡ known e u
  unfolding known
  same_known u =
      ap₂ (λ r n. ltb u.part n && not (is_empty u.pairs) && all_of (λ c. ltb c r) (channels u) && distinct (channels u)) e_r e_n

  pub same-holds : (l : List ℤ) → HoldsKnown d l → HoldsKnown e l
  same-holds l h = record { long = h.long; written = h.written; known = sym (same_known (update_of l)) ∙ h.known }

  pub same-unused : (i : ℕ) (vs : List ℤ) → unused_zero d i vs ≡ unused_zero e i vs
  unfolding unused_zero
  same-unused i [] = refl
  same-unused i (v ∷ vs) =
      ap₂ (λ a b. a && b) (ap₂ (λ r n. ltb (i / 32) n && ltb (i % 32) r || is_zero v) e_r e_n) (same-unused (suc i) vs)

  pub same-uncharged : (m : Memory) → uncharged d m ≡ uncharged e m
  unfolding uncharged framed all_fit
  same-uncharged m =
      let n = m.state.pending in
      let us = updates_of n m.pool in
      ap₂
      (λ a b.
      eqb (length m.state.values) 512
      && a
      && leb n (capacity (length m.pool))
      && all_of is_zero (drop (10 * n) m.pool)
      && (all_of well_written (places n m.pool) && b)
      && all_different us)
      (same-unused 0 m.state.values)
      (ap (λ f. all_of f us) (fun_ext same_known))

-- the shape of a deck's tables
module _ {d : Deck} {rules parts : List ℕ} (t : TablesOf d rules parts) (g : Ranged d) where
  abbrev s : Deck
  s = shape_of rules parts (R d) (M d) (N d)

  pub shape-charge : (us : List Update) → charge s us ≡ charge d us
  unfolding charge
  shape-charge us = ap (λ f. sum_of f us) (fun_ext (λ u. shape-update-charge t g u.part (channels u)))

  pub shape-good : (m : Memory) → good s m ≡ good d m
  shape-good m =
      charged s m
      ∙ ap₂ (λ a x. a && leb x (capacity (length m.pool)))
      (same-uncharged s d (shape-R rules parts (R d) (M d) (N d)) (shape-N rules parts (R d) (M d) (N d)) m)
      (shape-charge (updates_of m.state.pending m.pool))
      ∙ sym (charged d m)

  pub shape-goodness : (m : Memory) → goodness_of s m ≡ goodness_of d m
  shape-goodness m = ap₂ (λ a x. cond a (Some x) None) (shape-good m) (shape-charge (updates_of m.state.pending m.pool))
